-- What an open round asks for it goes on to ask for, whatever the sender hears and tells, and at a tick that closes none.
use Rattle.std.proofs.Common.{◌≡◌, ℕ, List, [], ◌∷◌, length, map, Bool, true, false, Option, None, Some, refl, sym, ap, ◌∙◌, subst}
use Rattle.std.specs.Prelude.{◌==◌, nat_lt, Result, Ok}
use Rattle.norm_base.specs.Settings.{Settings}
use Rattle.fec_plan.specs.declared.position.Position.{Position}
use Rattle.norm_ext.specs.Asking.{item_named}
use Rattle.norm_ext.specs.Message.{Message, Nack, Ack, AckContent, Mark, Unread}
use Rattle.norm_ext.specs.Reading.{decoded}
use Rattle.norm_ext.specs.Requests.{Request}
use Rattle.norm_ext.specs.Written.{Written, writes}
use Rattle.norm_order.specs.Sets.{with_member}
use Rattle.norm_order.specs.Shapes.{is_source}
use Rattle.norm_send_rules.specs.Flushing.{most_flushes, may_flush, flushes_for, expired, flushes_oldest, flushes_no_more, flushed, flushes_in_turn, flushes}
use Rattle.norm_send_rules.specs.Hearing.{listed_past, rises, credited_at, credited_by, joined_round, nack_counts, ack_counts, message_heard, heard}
use Rattle.norm_send_rules.specs.InWindow.{last_index, current_shapes}
use Rattle.norm_send_rules.specs.Messages.{squelch_message}
use Rattle.norm_send_rules.specs.SenderState.{SenderState, Instance, Round, Watermark}
use Rattle.norm_send_rules.specs.Sending.{repairs_next, next_new, sends, sends_new, noted, behind}
use Rattle.norm_send_rules.specs.Telling.{listing_of, past_news, done_news, told}
use Rattle.norm_send_rules.specs.Ticking.{closed_where_due, sends_further, sends_wanted, sends_first, sends_in_time, ticked}
use Rattle.norm_send_rules.specs.Watermarks.{oldest, pending, keeps_oldest, counted_anew, end_where, settled, watermark_of}
use Rattle.norm_send_rules.specs.declared.news.News.{News}
use Rattle.norm_send_rules.specs.declared.news.Outcome.TheVariants.{Expired}
use Rattle.norm_send_rules.specs.declared.want.Want.{Want}
use Rattle.norm_send_rules.specs.declared.want.Want.TheVariants.{Info, Symbol}
use Rattle.norm_safety.specs.Events.{Event, Commanded, Delivered, Ticked, Offered, UpTaken, NewsAsked}
use Rattle.norm_safety.specs.World.{World}
use Rattle.norm_safety.specs.WorldStep.{world_step}
use Rattle.norm_laws.proofs.CountSender.{sender_after, sender_is}
use Rattle.norm_laws.proofs.LaterTailLemmas.{Quiet, if_own}
use Rattle.norm_recovery.specs.Asking.{asks}
use Rattle.norm_recovery.specs.RoundAsks.{asks_open}
use Rattle.norm_recovery.proofs.RoundAsks.{round_asks}

-- From one state to another the current instance stays, and what the open round asks for it goes on to ask for.
pub record AsksOn (p : Settings) (s t : SenderState) : Type 0 where
  pub current : t.current ≡ s.current
  pub asks : (y : Want) → asks_open p s y ≡ true → asks_open p t y ≡ true

pub asks_itself : (p : Settings) (s : SenderState) → AsksOn p s s
asks_itself p s = record { current = refl; asks = λ y e. e }

pub asks_both : (p : Settings) (s t u : SenderState) → AsksOn p s t → AsksOn p t u → AsksOn p s u
asks_both p s t u g h = record { current = h.current ∙ g.current; asks = λ y e. h.asks y (g.asks y e) }

-- the same round in the same instance
pub same_round : (p : Settings) (s t : SenderState) → t.current ≡ s.current → t.round ≡ s.round → AsksOn p s t
same_round p s t current round = record { current = current; asks = λ y e. sym (same y) ∙ e }
  where
    open_in : Want → Instance → Option Round → Bool
    open_in y i found = elim found [ Some r ↦ asks p (record s { current = i }) r y | None ↦ false ]

    same : (y : Want) → asks_open p s y ≡ asks_open p t y
    same y = ap (λ (found : Option Round). open_in y s.current found) (sym round) ∙ ap (λ (i : Instance). open_in y i t.round) (sym current)

-- the state that is left
abbrev left_by : SenderState × Option Written → SenderState
left_by step = step.0

-- ---- a tick

-- the instance and the round stay
record Rests (s t : SenderState) : Type 0 where
  current : t.current ≡ s.current
  round : t.round ≡ s.round

rests_itself : (s : SenderState) → Rests s s
rests_itself s = record { current = refl; round = refl }

noted_rests : (y : Want) (s : SenderState) → Rests s (noted y s)
noted_rests (Info index) s = record { current = refl; round = refl }
noted_rests (Symbol at) s = record { current = refl; round = refl }

anew_rests : (s before t : SenderState) → Rests s t → Rests s (counted_anew before t)
anew_rests s before t h = go (keeps_oldest before t)
  where
    go : (b : Bool) → Rests s (elim b as (λ _. SenderState) [ true ↦ t | false ↦ record t { flushes = 0 } ])
    go true = h
    go false = record { current = h.current; round = h.round }

flush_rests : (p : Settings) (now : ℕ) (s : SenderState) → Rests s (flushes p now s).0
flush_rests p now s = go (may_flush p s now)
  where
    gone : (w : Watermark) → Rests s (expired w.mark s)
    gone w = anew_rests s s (end_where (λ v. v.mark == w.mark) (λ v. Expired (length (pending s v.at))) s) (record { current = refl; round = refl })

    then_oldest : (w : Watermark) (next : Option Watermark)
        → Rests s (left_by (elim next [ Some v ↦ flushes_for p now v (expired w.mark s) | None ↦ (expired w.mark s, None) ]))
    then_oldest w (Some v) = let h = gone w in record { current = h.current; round = h.round }
    then_oldest w None = gone w

    no_more : (w : Watermark) (round : Option Round)
        → Rests s (left_by (elim round [ Some r ↦ (s, None) | None ↦ flushes_oldest p now (expired w.mark s) ]))
    no_more w (Some r) = rests_itself s
    no_more w None = then_oldest w (oldest (expired w.mark s))

    counts : (w : Watermark) (b : Bool) → Rests s (left_by (elim b [ true ↦ flushes_for p now w s | false ↦ flushes_no_more p now w s ]))
    counts w true = record { current = refl; round = refl }
    counts w false = no_more w s.round

    turn : (found : Option Watermark) → Rests s (left_by (elim found [ Some w ↦ flushed p now w s | None ↦ (s, None) ]))
    turn (Some w) = counts w (nat_lt s.flushes most_flushes)
    turn None = rests_itself s

    go : (b : Bool) → Rests s (left_by (elim b [ true ↦ flushes_in_turn p now s | false ↦ (s, None) ]))
    go true = turn (oldest s)
    go false = rests_itself s

sends_rests : (p : Settings) (now : ℕ) (s : SenderState) → Rests s (sends_in_time p now s).0
sends_rests p now s = go (nat_lt now s.next_send)
  where
    want_rests : (y : Want) (t : SenderState) → Rests s t → Rests s (noted y t)
    want_rests y t h = let n = noted_rests y t in record { current = n.current ∙ h.current; round = n.round ∙ h.round }

    further : (found : Option Want) → Rests s (left_by (elim found as (λ _. SenderState × Option Written) [ Some y ↦ sends_new p now y s | None ↦ flushes p now s ]))
    further (Some y) = let h = want_rests y (record s { next = behind y }) (record { current = refl; round = refl }) in record { current = h.current; round = h.round }
    further None = flush_rests p now s

    wanted : (wants : List Want)
        → Rests s (left_by (elim wants as (λ _. SenderState × Option Written) [ [] ↦ sends_further p now s | y ∷ more ↦ repairs_next p now y more s ]))
    wanted [] = further (next_new p s)
    wanted (y ∷ more) = let h = want_rests y (record s { wants = more }) (record { current = refl; round = refl }) in record { current = h.current; round = h.round }

    first : (b : Bool) → Rests s (left_by (elim b as (λ _. SenderState × Option Written) [
      | true ↦ sends p now (writes (squelch_message p s s.current.drop) (s.current.drop.index ∷ [])) (record s { squelch_due = false })
      | false ↦ sends_wanted p now s
    ]))
    first true = record { current = refl; round = refl }
    first false = wanted s.wants

    go : (b : Bool) → Rests s (left_by (elim b as (λ _. SenderState × Option Written) [ true ↦ (s, None) | false ↦ sends_first p now s ]))
    go true = rests_itself s
    go false = first s.squelch_due

-- after a closing that is due the tick leaves the round
pub tick_on : (p : Settings) (s : SenderState) (now : ℕ) → AsksOn p (closed_where_due p now s) (ticked p s now).0
tick_on p s now = let h = sends_rests p now (closed_where_due p now s) in same_round p (closed_where_due p now s) (ticked p s now).0 h.current h.round

-- ---- what is heard and told

credited_rests : (p : Settings) (node : ℕ) (at : Position) (s : SenderState) → Rests s (credited_at p node at s)
credited_rests p node at s = go (is_source (current_shapes p s) at) (rises node at s)
  where
    risen : SenderState
    risen = record s { listings = map (listed_past node at) s.listings; untold_nodes = with_member nat_lt node s.untold_nodes }

    go : (b c : Bool) → Rests s (elim b [ true ↦ elim c [ true ↦ counted_anew s (settled risen) | false ↦ s ] | false ↦ s ])
    go true true = anew_rests s s (settled risen) (record { current = refl; round = refl })
    go true false = rests_itself s
    go false c = rests_itself s

joined_on : (p : Settings) (now : ℕ) (s : SenderState) (requests : List Request) → AsksOn p s (joined_round p s now requests)
joined_on p now s requests = record { current = current requests; asks = λ y e. round_asks.stays p s now requests y e }
  where
    current : (rs : List Request) → (joined_round p s now rs).current ≡ s.current
    current [] = refl
    current (r ∷ rs) = refl

pub message_on : {E : Type 0} (p : Settings) (s : SenderState) (now : ℕ) (read : Result Message E) → AsksOn p s (message_heard p s now read)
message_on p s now (Ok (Nack m)) = go (nack_counts p s m)
  where
    go : (b : Bool) → AsksOn p s (elim b [ true ↦ joined_round p s now m.requests | false ↦ s ])
    go true = joined_on p now s m.requests
    go false = asks_itself p s
message_on p s now (Ok (Ack m)) = go (ack_counts p s m) m.content
  where
    by : (at : Option Position) → AsksOn p s (credited_by p m.source at s)
    by None = asks_itself p s
    by (Some at) = let h = credited_rests p m.source at s in same_round p s (credited_at p m.source at s) h.current h.round

    go : (b : Bool) (content : AckContent) → AsksOn p s (elim b [
      | true ↦ elim content [ Mark item ↦ credited_by p m.source (item_named p (last_index s) item) s | Unread octets ↦ s ]
      | false ↦ s
    ])
    go true (Mark item) = by (item_named p (last_index s) item)
    go true (Unread octets) = asks_itself p s
    go false content = asks_itself p s
message_on p s now _ = asks_itself p s

told_on : (p : Settings) (s : SenderState) → AsksOn p s (told s).0
told_on p s = go s.untold_nodes s.untold_marks
  where
    by : List ℕ → List ℕ → SenderState × Option News
    by nodes marks = elim nodes [
      | node ∷ others ↦ (record s { untold_nodes = others }, past_news node (listing_of s node))
      | [] ↦ elim marks [
        | mark ∷ others ↦ (record s { untold_marks = others }, done_news s mark (watermark_of s mark))
        | [] ↦ (s, None)
      ]
    ]

    go : (nodes marks : List ℕ) → AsksOn p s (by nodes marks).0
    go (node ∷ nodes) marks = same_round p s (by (node ∷ nodes) marks).0 refl refl
    go [] (mark ∷ marks) = same_round p s (by [] (mark ∷ marks)).0 refl refl
    go [] [] = asks_itself p s

-- ---- the round itself

pub tick_round : (p : Settings) (s : SenderState) (now : ℕ) → (ticked p s now).0.round ≡ (closed_where_due p now s).round
tick_round p s now = (sends_rests p now (closed_where_due p now s)).round

pub credited_round : (p : Settings) (node : ℕ) (at : Position) (s : SenderState) → (credited_at p node at s).round ≡ s.round
credited_round p node at s = (credited_rests p node at s).round

pub told_round : (s : SenderState) → (told s).0.round ≡ s.round
told_round s = go s.untold_nodes s.untold_marks
  where
    by : List ℕ → List ℕ → SenderState × Option News
    by nodes marks = elim nodes [
      | node ∷ others ↦ (record s { untold_nodes = others }, past_news node (listing_of s node))
      | [] ↦ elim marks [
        | mark ∷ others ↦ (record s { untold_marks = others }, done_news s mark (watermark_of s mark))
        | [] ↦ (s, None)
      ]
    ]

    go : (nodes marks : List ℕ) → (by nodes marks).0.round ≡ s.round
    go (node ∷ nodes) marks = refl
    go [] (mark ∷ marks) = refl
    go [] [] = refl

-- ---- an event

pub event_on : (p : Settings) (w : World) (e : Event) → Quiet p e → AsksOn p w.sender (world_step p w e).0.sender
event_on p w e quiet = subst (AsksOn p w.sender) (sym (sender_is p w e)) (after e quiet)
  where
    either : (b : Bool) (t : SenderState) → AsksOn p w.sender t → AsksOn p w.sender (elim b [ true ↦ t | false ↦ w.sender ])
    either true t h = h
    either false t h = asks_itself p w.sender

    after : (e : Event) → Quiet p e → AsksOn p w.sender (sender_after p w.sender e)
    after (Commanded by job now) quiet = absurd quiet
    after (Delivered node datagram now draw) quiet = either (node == p.sender) (heard p w.sender datagram now) (message_on p w.sender now (decoded datagram))
    after (Ticked node now) quiet = subst (AsksOn p w.sender) (sym (ap (λ (b : Bool). if_own b (ticked p w.sender now).0 w.sender) quiet)) (asks_itself p w.sender)
    after (Offered node octets) quiet = asks_itself p w.sender
    after (UpTaken node) quiet = asks_itself p w.sender
    after NewsAsked quiet = told_on p w.sender
