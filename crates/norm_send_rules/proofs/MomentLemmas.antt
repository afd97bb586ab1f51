-- Two datagrams of a sender are a gap apart, and in one tick at most one watermark ends.
use Rattle.std.proofs.Common.{◌≡◌, ℕ, zero, suc, ◌+◌, ◌<◌, ◌≤◌, ◌⊎◌, inl, inr, List, [], ◌∷◌, ◌++◌, length, map, Bool, true, false, Option, None, Some, Result, Ok, Err, refl, sym, subst, ◌∙◌, arith}
use Rattle.std.specs.Prelude.{nat_lt, nat_le, ◌==◌}
use Rattle.std.proofs.lemmas.Bool.{cases_lt}
use Rattle.std.proofs.lemmas.Bool.Decides.{Decides-ltb}
use Rattle.norm_base.specs.Settings.{Settings}
use Rattle.norm_base.specs.declared.kinds.Kind.TheVariants as kind
use Rattle.norm_base.specs.declared.node.Origin.{Origin}
use Rattle.fec_plan.specs.declared.position.Position.{Position}
use Rattle.norm_ext.specs.Asking.{item_named}
use Rattle.norm_ext.specs.Message.{Message, Nack, Ack, AckContent, Mark, Unread}
use Rattle.norm_ext.specs.Reading.{decoded}
use Rattle.norm_ext.specs.Requests.{Request}
use Rattle.norm_ext.specs.Written.{Written, writes}
use Rattle.norm_order.specs.Entries.{Object, Write, Cut, End, Whole, Stream}
use Rattle.norm_order.specs.Moments.{moment_after}
use Rattle.norm_order.specs.Segments.{unclosed}
use Rattle.norm_order.specs.Shapes.{last_source, is_source}
use Rattle.norm_order.specs.Sets.{with_member}
use Rattle.norm_send_rules.specs.Closing.{round_closed}
use Rattle.norm_send_rules.specs.Commanding.{commanded}
use Rattle.norm_send_rules.specs.Enqueuing.{object_fault, joined}
use Rattle.norm_send_rules.specs.Flushing.{most_flushes, may_flush, flushes_for, expired, flushes_oldest, flushes_no_more, flushed, flushes_in_turn, flushes}
use Rattle.norm_send_rules.specs.Hearing.{nack_counts, ack_counts, joined_round, listed_past, rises, credited, credited_by, message_heard}
use Rattle.norm_send_rules.specs.InWindow.{last_index, current_shapes}
use Rattle.norm_send_rules.specs.Marking.{is_no_quorum, most_open, watermark_at, with_watermark, cut_and_marked}
use Rattle.norm_send_rules.specs.Messages.{squelch_message}
use Rattle.norm_send_rules.specs.Restarting.{is_used, begun_anew}
use Rattle.norm_send_rules.specs.SenderState.{SenderState, Watermark, Round}
use Rattle.norm_send_rules.specs.SenderStep as events
use Rattle.norm_send_rules.specs.SenderStep.{SenderEvent, sender_step}
use Rattle.norm_send_rules.specs.Sending.{next_new, behind, noted, sends, object_of, message_of, repair_flags, sends_want, repairs_next, sends_new}
use Rattle.norm_send_rules.specs.Streaming.{open_fault, with_parts, parts_now, write_fault, close_fault, grown, cut}
use Rattle.norm_send_rules.specs.Striking.{strike_fault, without_node, struck_off}
use Rattle.norm_send_rules.specs.Telling.{told, past_news, done_news, listing_of}
use Rattle.norm_send_rules.specs.TickLaws.{OnlyOldestEnds, GivesNoDatagram, TickLaws}
use Rattle.norm_send_rules.specs.Ticking.{sends_further, sends_wanted, sends_first, sends_in_time, ticked}
use Rattle.norm_send_rules.specs.Wants.{want_index}
use Rattle.norm_send_rules.specs.Watermarks.{oldest, keeps_oldest, counted_anew, settled, end_where, open_watermarks, pending, watermark_of}
use Rattle.norm_send_rules.specs.declared.job.Job.{Job}
use Rattle.norm_send_rules.specs.declared.job.Job.TheVariants as job
use Rattle.norm_send_rules.specs.declared.news.News.{News}
use Rattle.norm_send_rules.specs.declared.news.Outcome.TheVariants.{Expired}
use Rattle.norm_send_rules.specs.declared.want.Want.{Want}
use Rattle.norm_send_rules.specs.declared.want.Want.TheVariants.{Info, Symbol}
use Rattle.norm_send_rules.proofs.WantLemmas.{either}

clash : false ≡ true → ⊥
clash e = cc

-- ---- a tick

-- the same watermarks and the same moment
record IsStill (s t : SenderState) : Type 0 where
  watermarks : t.watermarks ≡ s.watermarks
  moment : t.next_send ≡ s.next_send

-- what is true of a state and a datagram, of which the moment that they were made at is now
record Ticks (p : Settings) (now : ℕ) (s : SenderState) (step : SenderState × Option Written) : Type 0 where
  sent : (datagram : Written) → step.1 ≡ Some datagram → step.0.next_send ≡ moment_after now p.gap
  none : step.1 ≡ None → step.0.next_send ≡ s.next_send
  ends : OnlyOldestEnds s.watermarks step.0.watermarks

no_datagram : (datagram : Written) → None ≡ Some datagram → ⊥
no_datagram datagram e = cc

some_datagram : (datagram : Written) → Some datagram ≡ None → ⊥
some_datagram datagram e = cc

with_datagram : (p : Settings) (now : ℕ) (s t : SenderState) (w : Written) → OnlyOldestEnds s.watermarks t.watermarks → Ticks p now s (sends p now w t)
with_datagram p now s t w ends = record { sent = λ datagram e. refl; none = λ e. absurd (some_datagram w e); ends = ends }

without : (p : Settings) (now : ℕ) (s t : SenderState) → t.next_send ≡ s.next_send → OnlyOldestEnds s.watermarks t.watermarks → Ticks p now s (t, None)
without p now s t same ends = record { sent = λ datagram e. absurd (no_datagram datagram e); none = λ e. same; ends = ends }

noted_still : (w : Want) (s : SenderState) → (noted w s).watermarks ≡ s.watermarks
noted_still (Info index) s = refl
noted_still (Symbol at) s = refl

anew_marks : (s t : SenderState) → (counted_anew s t).watermarks ≡ t.watermarks
anew_marks s t = go (keeps_oldest s t)
  where
    go : (b : Bool) → (elim b as (λ _. SenderState) [ true ↦ t | false ↦ record t { flushes = 0 } ]).watermarks ≡ t.watermarks
    go true = refl
    go false = refl

anew_moment : (s t : SenderState) → (counted_anew s t).next_send ≡ t.next_send
anew_moment s t = go (keeps_oldest s t)
  where
    go : (b : Bool) → (elim b as (λ _. SenderState) [ true ↦ t | false ↦ record t { flushes = 0 } ]).next_send ≡ t.next_send
    go true = refl
    go false = refl

want_ticks : (p : Settings) (now : ℕ) (repair : Object → ℕ) (w : Want) (s t : SenderState) → t.watermarks ≡ s.watermarks
    → Ticks p now s (sends_want p now repair w t)
want_ticks p now repair w s t same =
    with_datagram p now s (noted w t) (writes (message_of p t w (object_of t w) (repair (object_of t w))) (want_index w ∷ []))
    (inl (noted_still w t ∙ same))

flush_ticks : (p : Settings) (now : ℕ) (s : SenderState) → Ticks p now s (flushes p now s)
flush_ticks p now s = go (may_flush p s now)
  where
    given_up : (w : Watermark) → oldest s ≡ Some w → OnlyOldestEnds s.watermarks (expired w.mark s).watermarks
    given_up w is = inr (
      w,
      λ v. Expired (length (pending s v.at)),
      is,
      anew_marks s (end_where (λ v. v.mark == w.mark) (λ v. Expired (length (pending s v.at))) s),
    )

    then_oldest : (w : Watermark) → oldest s ≡ Some w → (next : Option Watermark)
        → Ticks p now s (elim next [ Some v ↦ flushes_for p now v (expired w.mark s) | None ↦ (expired w.mark s, None) ])
    then_oldest w is (Some v) = with_datagram p now s (record (expired w.mark s) { flushes = (expired w.mark s).flushes + 1; last_flush = Some now }) _ (given_up w is)
    then_oldest w is None =
        without p now s (expired w.mark s)
        (anew_moment s (end_where (λ v. v.mark == w.mark) (λ v. Expired (length (pending s v.at))) s)) (given_up w is)

    no_more : (w : Watermark) → oldest s ≡ Some w → (round : Option Round)
        → Ticks p now s (elim round [ Some r ↦ (s, None) | None ↦ flushes_oldest p now (expired w.mark s) ])
    no_more w is (Some r) = without p now s s refl (inl refl)
    no_more w is None = then_oldest w is (oldest (expired w.mark s))

    counts : (w : Watermark) → oldest s ≡ Some w → (b : Bool)
        → Ticks p now s (elim b [ true ↦ flushes_for p now w s | false ↦ flushes_no_more p now w s ])
    counts w is true = with_datagram p now s (record s { flushes = s.flushes + 1; last_flush = Some now }) _ (inl refl)
    counts w is false = no_more w is s.round

    turn : (o : Option Watermark) → oldest s ≡ o → Ticks p now s (elim o [ Some w ↦ flushed p now w s | None ↦ (s, None) ])
    turn (Some w) is = counts w is (nat_lt s.flushes most_flushes)
    turn None is = without p now s s refl (inl refl)

    go : (b : Bool) → Ticks p now s (elim b [ true ↦ flushes_in_turn p now s | false ↦ (s, None) ])
    go true = turn (oldest s) refl
    go false = without p now s s refl (inl refl)

first_ticks : (p : Settings) (now : ℕ) (s : SenderState) → Ticks p now s (sends_first p now s)
first_ticks p now s = go s.squelch_due
  where
    further : (next : Option Want) → Ticks p now s (elim next [ Some w ↦ sends_new p now w s | None ↦ flushes p now s ])
    further (Some w) = want_ticks p now (λ object. 0) w s (record s { next = behind w }) refl
    further None = flush_ticks p now s

    wanted : (wants : List Want) → Ticks p now s (elim wants [ [] ↦ sends_further p now s | w ∷ more ↦ repairs_next p now w more s ])
    wanted [] = further (next_new p s)
    wanted (w ∷ more) = want_ticks p now (λ object. repair_flags p object w) w s (record s { wants = more }) refl

    go : (b : Bool) → Ticks p now s (elim b [
      | true ↦ sends p now (writes (squelch_message p s s.current.drop) (s.current.drop.index ∷ [])) (record s { squelch_due = false })
      | false ↦ sends_wanted p now s
    ])
    go true = with_datagram p now s (record s { squelch_due = false }) _ (inl refl)
    go false = wanted s.wants

-- a datagram goes in time
record InTime (p : Settings) (now : ℕ) (s : SenderState) (step : SenderState × Option Written) : Type 0 where
  ticks : Ticks p now s step
  due : (datagram : Written) → step.1 ≡ Some datagram → s.next_send ≤ now

time_ticks : (p : Settings) (now : ℕ) (s : SenderState) → InTime p now s (sends_in_time p now s)
time_ticks p now s = go (nat_lt now s.next_send) refl
  where
    go : (b : Bool) → nat_lt now s.next_send ≡ b → InTime p now s (elim b [ true ↦ (s, None) | false ↦ sends_first p now s ])
    go true e = record { ticks = without p now s s refl (inl refl); due = λ datagram f. absurd (no_datagram datagram f) }
    go false e = record {
      ticks = first_ticks p now s;
      due = λ datagram f. by (cases_lt now s.next_send);
    }
      where
        by : (now < s.next_send) ⊎ (s.next_send ≤ now) → s.next_send ≤ now
        by (inl less) = absurd (clash (sym e ∙ (Decides-ltb now s.next_send).1 less))
        by (inr le) = le

-- closing a round changes neither
tick_ticks : (p : Settings) (s : SenderState) (now : ℕ) → InTime p now s (ticked p s now)
tick_ticks p s now = go s.round
  where
    same : (t : SenderState) → t.watermarks ≡ s.watermarks → t.next_send ≡ s.next_send → InTime p now s (sends_in_time p now t)
    same t marks moment =
        let k = time_ticks p now t in
        record {
          ticks = record {
            sent = k.ticks.sent;
            none = λ e. k.ticks.none e ∙ moment;
            ends = (let E : List Watermark → Type 0 = λ ws. OnlyOldestEnds ws (sends_in_time p now t).0.watermarks in subst E marks k.ticks.ends);
          };
          due = λ datagram e. (let le = k.due datagram e in omega (arith, moment));
        }

    due : (r : Round) (b : Bool) → InTime p now s (sends_in_time p now (elim b [ true ↦ round_closed p r s | false ↦ s ]))
    due r true = same (round_closed p r s) refl refl
    due r false = same s refl refl

    go : (round : Option Round) → InTime p now s (sends_in_time p now (elim round [
      | Some r ↦ elim (nat_le r.closes now) [ true ↦ round_closed p r s | false ↦ s ]
      | None ↦ s
    ]))
    go (Some r) = due r (nat_le r.closes now)
    go None = same s refl refl

-- ---- nothing else moves the moment

abbrev Stays : SenderState → SenderState → Type 0
Stays s t = t.next_send ≡ s.next_send

unless : {A B : Type 0} (fault : Option A) (s t : SenderState) (refuses : A → B) (gives : B) → Stays s t
    → Stays s (elim fault as (λ _. SenderState × B) [ Some f ↦ (s, refuses f) | None ↦ (t, gives) ]).0
unless (Some f) s t refuses gives h = refl
unless None s t refuses gives h = h

cut_stays : (p : Settings) (s : SenderState) → Stays s (cut p s)
cut_stays p s = go (unclosed p.e (parts_now s))
  where
    go : (n : ℕ) → Stays s (elim n as (λ _. SenderState) [ zero ↦ s | suc k ↦ with_parts (parts_now s ++ Cut ∷ []) s ])
    go zero = refl
    go (suc n) = refl

either_stays : {A : Type 0} (b : Bool) (s : SenderState) (t u : SenderState × A) → Stays s t.0 → Stays s u.0 → Stays s (either b t u).0
either_stays true s t u h k = h
either_stays false s t u h k = k

watermark_stays : (s : SenderState) (by : Origin) (quorum : Option ℕ) (found : Option Position) → Stays s (watermark_at s by quorum found).0
watermark_stays s by quorum None = refl
watermark_stays s by quorum (Some at) =
    let w : Watermark = record { mark = length s.watermarks + 1; by = by; at = at; quorum = quorum; ended = None } in
    either_stays (nat_le most_open (length (open_watermarks s))) s (s, _) (with_watermark s by quorum at, _) refl
    (anew_moment s (settled (record s { watermarks = s.watermarks ++ w ∷ [] })))

mark_stays : (p : Settings) (s : SenderState) (by : Origin) (quorum : Option ℕ) → Stays s (cut_and_marked p s by quorum).0
mark_stays p s by quorum = watermark_stays (cut p s) by quorum (last_source (current_shapes p (cut p s))) ∙ cut_stays p s

commands_stay : (p : Settings) (s : SenderState) (by : Origin) (job : Job) → Stays s (commanded p s by job).0
commands_stay p s by (job.Data info bytes) =
    unless (object_fault p s info bytes) s (joined p by (Whole kind.Data info bytes) s) Err (Ok _) refl
commands_stay p s by (job.File name bytes) =
    unless (object_fault p s (Some name) bytes) s (joined p by (Whole kind.File (Some name) bytes) s) Err (Ok _) refl
commands_stay p s by job.Open = unless (open_fault p s) s (joined p by (Stream []) s) Err (Ok _) refl
commands_stay p s by (job.Write bytes) =
    let parts = parts_now s ++ Write by bytes ∷ [] in unless (write_fault p s bytes parts) s (grown p s parts) Err (Ok _) refl
commands_stay p s by job.Close =
    let parts = parts_now s ++ End ∷ [] in unless (close_fault p s parts) s (grown p s parts) Err (Ok _) refl
commands_stay p s by (job.Mark None) = mark_stays p s by None
commands_stay p s by (job.Mark (Some q)) = either_stays (is_no_quorum p q) s (s, _) (cut_and_marked p s by (Some q)) refl (mark_stays p s by (Some q))
commands_stay p s by (job.Restart instance) = either_stays (is_used s instance) s (s, _) (begun_anew instance s, _) refl refl
commands_stay p s by (job.Strike node) =
    unless (strike_fault s node) s (struck_off node s) Err (Ok _) (anew_moment s (settled (without_node node s)))

heard_stays : {E : Type 0} (p : Settings) (s : SenderState) (now : ℕ) (read : Result Message E) → Stays s (message_heard p s now read)
heard_stays p s now (Ok (Nack m)) = go (nack_counts p s m) m.requests
  where
    go : (b : Bool) (requests : List Request) → Stays s (elim b as (λ _. SenderState) [ true ↦ joined_round p s now requests | false ↦ s ])
    go false requests = refl
    go true [] = refl
    go true (r ∷ requests) = refl
heard_stays p s now (Ok (Ack m)) = go (ack_counts p s m) m.content
  where
    risen : (at : Position) (b : Bool) → Stays s (elim b as (λ _. SenderState) [
      | true ↦ counted_anew s (settled (record s {
        listings = map (listed_past m.source at) s.listings;
        untold_nodes = with_member nat_lt m.source s.untold_nodes;
      }))
      | false ↦ s
    ])
    risen at true = anew_moment s (settled (record s { listings = map (listed_past m.source at) s.listings; untold_nodes = with_member nat_lt m.source s.untold_nodes }))
    risen at false = refl

    source : (at : Position) (b : Bool) → Stays s (elim b as (λ _. SenderState) [ true ↦ credited m.source at s | false ↦ s ])
    source at true = risen at (rises m.source at s)
    source at false = refl

    named : (o : Option Position) → Stays s (credited_by p m.source o s)
    named (Some at) = source at (is_source (current_shapes p s) at)
    named None = refl

    go : (b : Bool) (content : AckContent) → Stays s (elim b as (λ _. SenderState) [
      | true ↦ elim content [ Mark item ↦ credited_by p m.source (item_named p (last_index s) item) s | Unread octets ↦ s ]
      | false ↦ s
    ])
    go true (Mark item) = named (item_named p (last_index s) item)
    go true (Unread octets) = refl
    go false content = refl
heard_stays p s now _ = refl

told_stays : (s : SenderState) → Stays s (told s).0
told_stays s = go s.untold_nodes s.untold_marks
  where
    news : List ℕ → List ℕ → SenderState × Option News
    news nodes marks = elim nodes [
      | node ∷ others ↦ (record s { untold_nodes = others }, past_news node (listing_of s node))
      | [] ↦ elim marks [
        | mark ∷ others ↦ (record s { untold_marks = others }, done_news s mark (watermark_of s mark))
        | [] ↦ (s, None)
      ]
    ]

    go : (nodes marks : List ℕ) → Stays s (news nodes marks).0
    go (node ∷ nodes) marks = refl
    go [] (mark ∷ marks) = refl
    go [] [] = refl

stays : (p : Settings) (s : SenderState) (event : SenderEvent) → GivesNoDatagram (sender_step p s event).1
    → (sender_step p s event).0.next_send ≡ s.next_send
stays p s (events.Commanded by job now) h = commands_stay p s by job
stays p s (events.Delivered datagram now) h = heard_stays p s now (decoded datagram)
stays p s (events.Ticked now) h = (tick_ticks p s now).ticks.none h
stays p s events.NewsAsked h = told_stays s

pub tick_laws : TickLaws
tick_laws = record {
  in_time = λ p s now datagram e. ((tick_ticks p s now).due datagram e, (tick_ticks p s now).ticks.sent datagram e);
  stays = stays;
  ends_one = λ p s now. (tick_ticks p s now).ticks.ends;
}
