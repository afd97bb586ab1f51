-- Each step of a sender leaves it timely.
use Rattle.std.proofs.Math.Nat.{min-le_left}
use Rattle.std.proofs.Common.{ℕ, zero, suc, ◌+◌, ◌*◌, ◌≤◌, List, [], ◌∷◌, ◌++◌, length, map, Bool, true, false, Option, None, Some, Result, Ok, Err, arith}
use Rattle.std.specs.Prelude.{nat_lt, nat_le, ◌==◌, IfSome, ⊤}
use Rattle.norm_base.specs.Settings.{Settings}
use Rattle.norm_base.specs.declared.kinds.Kind.TheVariants as kind
use Rattle.norm_base.specs.declared.node.Origin.{Origin}
use Rattle.fec_plan.specs.declared.position.Position.{Position}
use Rattle.norm_ext.specs.Asking.{item_named}
use Rattle.norm_ext.specs.Message.{Message, Nack, Ack, AckContent, Mark, Unread}
use Rattle.norm_ext.specs.Reading.{decoded}
use Rattle.norm_ext.specs.Requests.{Request}
use Rattle.norm_ext.specs.Written.{Written, writes}
use Rattle.norm_order.specs.Entries.{Object, Write, Cut, End, Whole, Stream}
use Rattle.norm_order.specs.Moments.{moment_after}
use Rattle.norm_order.specs.Segments.{unclosed}
use Rattle.norm_order.specs.Shapes.{last_source, is_source}
use Rattle.norm_order.specs.Sets.{with_member}
use Rattle.norm_send_rules.specs.Closing.{round_closed}
use Rattle.norm_send_rules.specs.Commanding.{commanded}
use Rattle.norm_send_rules.specs.Enqueuing.{object_fault, joined}
use Rattle.norm_send_rules.specs.Flushing.{most_flushes, may_flush, flushes_for, expired, flushes_oldest, flushes_no_more, flushed, flushes_in_turn, flushes}
use Rattle.norm_send_rules.specs.Hearing.{nack_counts, ack_counts, joined_round, listed_past, rises, credited, credited_by, message_heard}
use Rattle.norm_send_rules.specs.InWindow.{last_index, current_shapes}
use Rattle.norm_send_rules.specs.Marking.{is_no_quorum, most_open, watermark_at, with_watermark, cut_and_marked}
use Rattle.norm_send_rules.specs.Messages.{squelch_message}
use Rattle.norm_send_rules.specs.Restarting.{is_used, begun_anew}
use Rattle.norm_send_rules.specs.SenderState.{SenderState, Watermark, Round}
use Rattle.norm_send_rules.specs.SenderStep as events
use Rattle.norm_send_rules.specs.SenderStep.{SenderEvent, sender_step}
use Rattle.norm_send_rules.specs.Sending.{next_new, behind, noted, sends, object_of, message_of, repair_flags, sends_want, repairs_next, sends_new}
use Rattle.norm_send_rules.specs.Streaming.{open_fault, with_parts, parts_now, write_fault, close_fault, grown, cut}
use Rattle.norm_send_rules.specs.Striking.{strike_fault, without_node, struck_off}
use Rattle.norm_send_rules.specs.Telling.{told, past_news, done_news, listing_of}
use Rattle.norm_send_rules.specs.Ticking.{sends_further, sends_wanted, sends_first, sends_in_time, ticked}
use Rattle.norm_send_rules.specs.Wants.{want_index}
use Rattle.norm_send_rules.specs.Watermarks.{oldest, keeps_oldest, counted_anew, settled, end_where, open_watermarks, pending, watermark_of}
use Rattle.norm_send_rules.specs.declared.job.Job.{Job}
use Rattle.norm_send_rules.specs.declared.job.Job.TheVariants as job
use Rattle.norm_send_rules.specs.declared.news.News.{News}
use Rattle.norm_send_rules.specs.declared.news.Outcome.TheVariants.{Expired}
use Rattle.norm_send_rules.specs.declared.want.Want.{Want}
use Rattle.norm_send_rules.specs.declared.want.Want.TheVariants.{Info, Symbol}
use Rattle.norm_send_rules.proofs.WantLemmas.{either}
use Rattle.norm_recovery.specs.Timely.{SenderTimely}

-- the event comes at this moment or before, if it has a moment
abbrev pub SenderComesBy : ℕ → SenderEvent → Type 0
SenderComesBy last (events.Commanded by job now) = now ≤ last
SenderComesBy last (events.Delivered datagram now) = now ≤ last
SenderComesBy last (events.Ticked now) = now ≤ last
SenderComesBy last events.NewsAsked = ⊤

abbrev T : Settings → ℕ → SenderState → Type 0
T p last s = SenderTimely p last s

-- a moment put off lies within its span of a later one
pub put_off : (now span last : ℕ) → now ≤ last → moment_after now span ≤ last + span
put_off now span last le = (let least = min-le_left (now + span) 18446744073709551615 in omega (arith, least, le))

-- a datagram goes: the next one a gap later
goes : (p : Settings) (now last : ℕ) (t : SenderState) (w : Written) → now ≤ last → T p last t → T p last (sends p now w t).0
goes p now last t w le h = record { send = put_off now p.gap last le; flush = h.flush; round = h.round }

anew : (p : Settings) (last : ℕ) (s t : SenderState) → T p last t → T p last (counted_anew s t)
anew p last s t h = go (keeps_oldest s t)
  where
    go : (b : Bool) → T p last (elim b as (λ _. SenderState) [ true ↦ t | false ↦ record t { flushes = 0 } ])
    go true = h
    go false = record { send = h.send; flush = h.flush; round = h.round }

noted_timely : (p : Settings) (last : ℕ) (w : Want) (s : SenderState) → T p last s → T p last (noted w s)
noted_timely p last (Info index) s h = record { send = h.send; flush = h.flush; round = h.round }
noted_timely p last (Symbol at) s h = record { send = h.send; flush = h.flush; round = h.round }

flush_timely : (p : Settings) (now last : ℕ) (s : SenderState) → now ≤ last → T p last s → T p last (flushes p now s).0
flush_timely p now last s le h = go (may_flush p s now)
  where
    sent : (w : Watermark) (t : SenderState) → T p last t → T p last (flushes_for p now w t).0
    sent w t k = record { send = put_off now p.gap last le; flush = le; round = k.round }

    gone : (w : Watermark) → T p last (expired w.mark s)
    gone w = anew p last s (end_where (λ v. v.mark == w.mark) (λ v. Expired (length (pending s v.at))) s) (record { send = h.send; flush = h.flush; round = h.round })

    then_oldest : (w : Watermark) (next : Option Watermark)
        → T p last (elim next as (λ _. SenderState × Option Written) [ Some v ↦ flushes_for p now v (expired w.mark s) | None ↦ (expired w.mark s, None) ]).0
    then_oldest w (Some v) = sent v (expired w.mark s) (gone w)
    then_oldest w None = gone w

    no_more : (w : Watermark) (round : Option Round)
        → T p last (elim round as (λ _. SenderState × Option Written) [ Some r ↦ (s, None) | None ↦ flushes_oldest p now (expired w.mark s) ]).0
    no_more w (Some r) = h
    no_more w None = then_oldest w (oldest (expired w.mark s))

    counts : (w : Watermark) (b : Bool)
        → T p last (elim b as (λ _. SenderState × Option Written) [ true ↦ flushes_for p now w s | false ↦ flushes_no_more p now w s ]).0
    counts w true = sent w s h
    counts w false = no_more w s.round

    turn : (o : Option Watermark) → T p last (elim o as (λ _. SenderState × Option Written) [ Some w ↦ flushed p now w s | None ↦ (s, None) ]).0
    turn (Some w) = counts w (nat_lt s.flushes most_flushes)
    turn None = h

    go : (b : Bool) → T p last (elim b as (λ _. SenderState × Option Written) [ true ↦ flushes_in_turn p now s | false ↦ (s, None) ]).0
    go true = turn (oldest s)
    go false = h

first_timely : (p : Settings) (now last : ℕ) (s : SenderState) → now ≤ last → T p last s → T p last (sends_first p now s).0
first_timely p now last s le h = go s.squelch_due
  where
    wants_one : (repair : Object → ℕ) (w : Want) (t : SenderState) → T p last t → T p last (sends_want p now repair w t).0
    wants_one repair w t k =
        goes p now last (noted w t) (writes (message_of p t w (object_of t w) (repair (object_of t w))) (want_index w ∷ [])) le (noted_timely p last w t k)

    further : (next : Option Want) → T p last (elim next as (λ _. SenderState × Option Written) [ Some w ↦ sends_new p now w s | None ↦ flushes p now s ]).0
    further (Some w) = wants_one (λ object. 0) w (record s { next = behind w }) (record { send = h.send; flush = h.flush; round = h.round })
    further None = flush_timely p now last s le h

    wanted : (wants : List Want)
        → T p last (elim wants as (λ _. SenderState × Option Written) [ [] ↦ sends_further p now s | w ∷ more ↦ repairs_next p now w more s ]).0
    wanted [] = further (next_new p s)
    wanted (w ∷ more) = wants_one (λ object. repair_flags p object w) w (record s { wants = more }) (record { send = h.send; flush = h.flush; round = h.round })

    go : (b : Bool) → T p last (elim b as (λ _. SenderState × Option Written) [
      | true ↦ sends p now (writes (squelch_message p s s.current.drop) (s.current.drop.index ∷ [])) (record s { squelch_due = false })
      | false ↦ sends_wanted p now s
    ]).0
    go true = goes p now last (record s { squelch_due = false }) (writes (squelch_message p s s.current.drop) (s.current.drop.index ∷ [])) le (record { send = h.send; flush = h.flush; round = h.round })
    go false = wanted s.wants

time_timely : (p : Settings) (now last : ℕ) (s : SenderState) → now ≤ last → T p last s → T p last (sends_in_time p now s).0
time_timely p now last s le h = go (nat_lt now s.next_send)
  where
    go : (b : Bool) → T p last (elim b as (λ _. SenderState × Option Written) [ true ↦ (s, None) | false ↦ sends_first p now s ]).0
    go true = h
    go false = first_timely p now last s le h

tick_timely : (p : Settings) (now last : ℕ) (s : SenderState) → now ≤ last → T p last s → T p last (ticked p s now).0
tick_timely p now last s le h = go s.round
  where
    due : (r : Round) (b : Bool) → T p last (sends_in_time p now (elim b as (λ _. SenderState) [ true ↦ round_closed p r s | false ↦ s ])).0
    due r true = time_timely p now last (round_closed p r s) le (record { send = h.send; flush = h.flush; round = tt })
    due r false = time_timely p now last s le h

    go : (round : Option Round) → T p last (sends_in_time p now (elim round as (λ _. SenderState) [
      | Some r ↦ elim (nat_le r.closes now) [ true ↦ round_closed p r s | false ↦ s ]
      | None ↦ s
    ])).0
    go (Some r) = due r (nat_le r.closes now)
    go None = time_timely p now last s le h

-- ---- commands

unless : {A B : Type 0} (p : Settings) (last : ℕ) (fault : Option A) (s t : SenderState) (refuses : A → B) (gives : B) → T p last s → T p last t
    → T p last (elim fault as (λ _. SenderState × B) [ Some f ↦ (s, refuses f) | None ↦ (t, gives) ]).0
unless p last (Some f) s t refuses gives h k = h
unless p last None s t refuses gives h k = k

cut_timely : (p : Settings) (last : ℕ) (s : SenderState) → T p last s → T p last (cut p s)
cut_timely p last s h = go (unclosed p.e (parts_now s))
  where
    go : (n : ℕ) → T p last (elim n as (λ _. SenderState) [ zero ↦ s | suc k ↦ with_parts (parts_now s ++ Cut ∷ []) s ])
    go zero = h
    go (suc n) = record { send = h.send; flush = h.flush; round = h.round }

either_timely : {A : Type 0} (p : Settings) (last : ℕ) (b : Bool) (t u : SenderState × A) → T p last t.0 → T p last u.0 → T p last (either b t u).0
either_timely p last true t u h k = h
either_timely p last false t u h k = k

watermark_timely : (p : Settings) (last : ℕ) (s : SenderState) (by : Origin) (quorum : Option ℕ) (found : Option Position) → T p last s
    → T p last (watermark_at s by quorum found).0
watermark_timely p last s by quorum None h = h
watermark_timely p last s by quorum (Some at) h =
    let w : Watermark = record { mark = length s.watermarks + 1; by = by; at = at; quorum = quorum; ended = None } in
    either_timely p last (nat_le most_open (length (open_watermarks s))) (s, _) (with_watermark s by quorum at, _) h
    (anew p last s (settled (record s { watermarks = s.watermarks ++ w ∷ [] })) (record { send = h.send; flush = h.flush; round = h.round }))

mark_timely : (p : Settings) (last : ℕ) (s : SenderState) (by : Origin) (quorum : Option ℕ) → T p last s → T p last (cut_and_marked p s by quorum).0
mark_timely p last s by quorum h = watermark_timely p last (cut p s) by quorum (last_source (current_shapes p (cut p s))) (cut_timely p last s h)

commands_timely : (p : Settings) (last : ℕ) (s : SenderState) (by : Origin) (job : Job) → T p last s → T p last (commanded p s by job).0
commands_timely p last s by (job.Data info bytes) h =
    unless p last (object_fault p s info bytes) s (joined p by (Whole kind.Data info bytes) s) Err (Ok _) h (record { send = h.send; flush = h.flush; round = h.round })
commands_timely p last s by (job.File name bytes) h =
    unless p last (object_fault p s (Some name) bytes) s (joined p by (Whole kind.File (Some name) bytes) s) Err (Ok _) h (record { send = h.send; flush = h.flush; round = h.round })
commands_timely p last s by job.Open h = unless p last (open_fault p s) s (joined p by (Stream []) s) Err (Ok _) h (record { send = h.send; flush = h.flush; round = h.round })
commands_timely p last s by (job.Write bytes) h =
    let parts = parts_now s ++ Write by bytes ∷ [] in
    unless p last (write_fault p s bytes parts) s (grown p s parts) Err (Ok _) h (record { send = h.send; flush = h.flush; round = h.round })
commands_timely p last s by job.Close h =
    let parts = parts_now s ++ End ∷ [] in unless p last (close_fault p s parts) s (grown p s parts) Err (Ok _) h (record { send = h.send; flush = h.flush; round = h.round })
commands_timely p last s by (job.Mark None) h = mark_timely p last s by None h
commands_timely p last s by (job.Mark (Some q)) h =
    either_timely p last (is_no_quorum p q) (s, _) (cut_and_marked p s by (Some q)) h (mark_timely p last s by (Some q) h)
commands_timely p last s by (job.Restart instance) h =
    either_timely p last (is_used s instance) (s, _) (begun_anew instance s, _) h (record { send = h.send; flush = tt; round = tt })
commands_timely p last s by (job.Strike node) h =
    unless p last (strike_fault s node) s (struck_off node s) Err (Ok _) h
    (anew p last s (settled (without_node node s)) (record { send = h.send; flush = h.flush; round = h.round }))

-- ---- what is heard

heard_timely : {E : Type 0} (p : Settings) (last now : ℕ) (s : SenderState) (read : Result Message E) → now ≤ last → T p last s → T p last (message_heard p s now read)
heard_timely p last now s (Ok (Nack m)) le h = go (nack_counts p s m) m.requests
  where
    opened : (round : Option Round) → IfSome round (λ (r : Round). r.closes ≤ last + (p.k + 1) * p.grtt)
        → (elim round as (λ _. Round) [ Some r ↦ r | None ↦ record { closes = moment_after now ((p.k + 1) * p.grtt); asked = [] } ]).closes ≤ last + (p.k + 1) * p.grtt
    opened (Some r) k = k
    opened None k = put_off now ((p.k + 1) * p.grtt) last le

    go : (b : Bool) (requests : List Request) → T p last (elim b as (λ _. SenderState) [ true ↦ joined_round p s now requests | false ↦ s ])
    go false requests = h
    go true [] = h
    go true (r ∷ requests) = record { send = h.send; flush = h.flush; round = opened s.round h.round }
heard_timely p last now s (Ok (Ack m)) le h = go (ack_counts p s m) m.content
  where
    risen : (at : Position) (b : Bool) → T p last (elim b as (λ _. SenderState) [
      | true ↦ counted_anew s (settled (record s {
        listings = map (listed_past m.source at) s.listings;
        untold_nodes = with_member nat_lt m.source s.untold_nodes;
      }))
      | false ↦ s
    ])
    risen at true =
        anew p last s (settled (record s { listings = map (listed_past m.source at) s.listings; untold_nodes = with_member nat_lt m.source s.untold_nodes }))
        (record { send = h.send; flush = h.flush; round = h.round })
    risen at false = h

    source : (at : Position) (b : Bool) → T p last (elim b as (λ _. SenderState) [ true ↦ credited m.source at s | false ↦ s ])
    source at true = risen at (rises m.source at s)
    source at false = h

    named : (o : Option Position) → T p last (credited_by p m.source o s)
    named (Some at) = source at (is_source (current_shapes p s) at)
    named None = h

    go : (b : Bool) (content : AckContent) → T p last (elim b as (λ _. SenderState) [
      | true ↦ elim content [ Mark item ↦ credited_by p m.source (item_named p (last_index s) item) s | Unread octets ↦ s ]
      | false ↦ s
    ])
    go true (Mark item) = named (item_named p (last_index s) item)
    go true (Unread octets) = h
    go false content = h
heard_timely p last now s _ le h = h

told_timely : (p : Settings) (last : ℕ) (s : SenderState) → T p last s → T p last (told s).0
told_timely p last s h = go s.untold_nodes s.untold_marks
  where
    news : List ℕ → List ℕ → SenderState × Option News
    news nodes marks = elim nodes [
      | node ∷ others ↦ (record s { untold_nodes = others }, past_news node (listing_of s node))
      | [] ↦ elim marks [
        | mark ∷ others ↦ (record s { untold_marks = others }, done_news s mark (watermark_of s mark))
        | [] ↦ (s, None)
      ]
    ]

    go : (nodes marks : List ℕ) → T p last (news nodes marks).0
    go (node ∷ nodes) marks = record { send = h.send; flush = h.flush; round = h.round }
    go [] (mark ∷ marks) = record { send = h.send; flush = h.flush; round = h.round }
    go [] [] = h

pub sender_timely : (p : Settings) (last : ℕ) (s : SenderState) (event : SenderEvent) → SenderComesBy last event → SenderTimely p last s
    → SenderTimely p last (sender_step p s event).0
sender_timely p last s (events.Commanded by job now) le h = commands_timely p last s by job h
sender_timely p last s (events.Delivered datagram now) le h = heard_timely p last now s (decoded datagram) le h
sender_timely p last s (events.Ticked now) le h = tick_timely p now last s le h
sender_timely p last s events.NewsAsked le h = told_timely p last s h
