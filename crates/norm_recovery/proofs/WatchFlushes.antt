-- Over a turn flushes stay two round trips apart: a tick counts one more only that long after the last one, and nothing else counts one.
use Rattle.std.proofs.Common.{◌≡◌, ℕ, ◌+◌, ◌*◌, ◌-◌, ◌<◌, ◌≤◌, List, [], ◌∷◌, length, map, Bool, true, false, Option, None, Some, refl, sym, ap, ◌∙◌, subst, arith, ◌⊎◌, inl, inr}
use Rattle.std.specs.Prelude.{◌==◌, ◌||◌, nat_lt, nat_le, Result, Ok}
use Rattle.std.proofs.Math.Nat.{mul-le-mul_right}
use Rattle.std.proofs.lemmas.Bool.Decides.{leb_tells}
use Rattle.norm_base.specs.Settings.{Settings}
use Rattle.fec_plan.specs.declared.position.Position.{Position}
use Rattle.norm_ext.specs.Asking.{item_named}
use Rattle.norm_ext.specs.Message.{Message, Nack, Ack, AckContent, Mark, Unread}
use Rattle.norm_ext.specs.Reading.{decoded}
use Rattle.norm_ext.specs.Requests.{Request}
use Rattle.norm_ext.specs.Written.{Written, writes}
use Rattle.norm_order.specs.Moments.{moment_after}
use Rattle.norm_order.specs.Sets.{with_member}
use Rattle.norm_order.specs.Shapes.{is_source}
use Rattle.norm_send_rules.specs.Closing.{round_closed, wants_after}
use Rattle.norm_send_rules.specs.Flushing.{most_flushes, may_flush, flushes_for, expired, flushes_oldest, flushes_no_more, flushed, flushes_in_turn, flushes}
use Rattle.norm_send_rules.specs.Hearing.{listed_past, rises, credited_at, credited_by, joined_round, nack_counts, ack_counts, message_heard, heard}
use Rattle.norm_send_rules.specs.InWindow.{last_index, current_shapes}
use Rattle.norm_send_rules.specs.Messages.{squelch_message}
use Rattle.norm_send_rules.specs.SenderState.{SenderState, Round, Watermark}
use Rattle.norm_send_rules.specs.Sending.{repairs_next, next_new, sends, sends_new, noted, behind}
use Rattle.norm_send_rules.specs.Telling.{listing_of, past_news, done_news, told}
use Rattle.norm_send_rules.specs.Ticking.{closed_where_due, sends_further, sends_wanted, sends_first, sends_in_time, ticked}
use Rattle.norm_send_rules.specs.Watermarks.{oldest, pending, keeps_oldest, counted_anew, end_where, settled, watermark_of}
use Rattle.norm_send_rules.specs.declared.news.News.{News}
use Rattle.norm_send_rules.specs.declared.news.Outcome.TheVariants.{Expired}
use Rattle.norm_send_rules.specs.declared.want.Want.{Want}
use Rattle.norm_send_rules.specs.declared.want.Want.TheVariants.{Info, Symbol}
use Rattle.norm_safety.specs.Events.{Event, Commanded, Delivered, Ticked, Offered, UpTaken, NewsAsked}
use Rattle.norm_safety.specs.Tail.{Course, course_from, comes, sender_ticks, tail_turn}
use Rattle.norm_safety.specs.World.{World}
use Rattle.norm_safety.specs.WorldStep.{world_step, run}
use Rattle.norm_safety.proofs.EntryLemmas.{clash}
use Rattle.norm_laws.proofs.CountSender.{sender_after, sender_is}
use Rattle.norm_laws.proofs.LaterTailLemmas.{Quiet, if_own}
use Rattle.norm_recovery.specs.Watch.{Phase, are_apart, Watch}
use Rattle.norm_recovery.specs.WatchKeeps.{Follows, turn_after, goes_to, WatchKeeps}
use Rattle.norm_recovery.proofs.RunsOutTail.{own_tick}
use Rattle.norm_recovery.proofs.RunsOutTurns.{IsAt, tells_keep, round_keeps}
use Rattle.norm_recovery.proofs.WatchTurn.{goes, later, within, runs_out, apart}

-- no flush more is counted, and the last one stays
pub record NoMore (s t : SenderState) : Type 0 where
  pub few : t.flushes ≤ s.flushes
  pub last : t.last_flush ≡ s.last_flush

same_count : (s : SenderState) → NoMore s s
same_count s = record { few = omega arith; last = refl }

fewer_both : (s t u : SenderState) → NoMore s t → NoMore t u → NoMore s u
fewer_both s t u h g = record { few = (let a = h.few in let b = g.few in omega (arith, a, b)); last = g.last ∙ h.last }

-- Or one more went at a moment at which it might.
pub data Counts (p : Settings) (now : ℕ) (s t : SenderState) : Type 0 where
  None_more : NoMore s t → Counts p now s t
  One_more : may_flush p s now ≡ true → t.flushes ≤ s.flushes + 1 → t.last_flush ≡ Some now → Counts p now s t

-- the state that is left
abbrev left_by : SenderState × Option Written → SenderState
left_by step = step.0

-- ---- a tick

noted_count : (y : Want) (s : SenderState) → NoMore s (noted y s)
noted_count (Info index) s = record { few = omega arith; last = refl }
noted_count (Symbol at) s = record { few = omega arith; last = refl }

anew_count : (s before t : SenderState) → NoMore s t → NoMore s (counted_anew before t)
anew_count s before t h = go (keeps_oldest before t)
  where
    go : (b : Bool) → NoMore s (elim b as (λ _. SenderState) [ true ↦ t | false ↦ record t { flushes = 0 } ])
    go true = h
    go false = record { few = omega arith; last = h.last }

flush_count : (p : Settings) (now : ℕ) (s : SenderState) → Counts p now s (flushes p now s).0
flush_count p now s = go (may_flush p s now) refl
  where
    gone : (w : Watermark) → NoMore s (expired w.mark s)
    gone w = anew_count s s (end_where (λ v. v.mark == w.mark) (λ v. Expired (length (pending s v.at))) s) (record { few = omega arith; last = refl })

    then_oldest : may_flush p s now ≡ true → (w : Watermark) (next : Option Watermark)
        → Counts p now s (left_by (elim next [ Some v ↦ flushes_for p now v (expired w.mark s) | None ↦ (expired w.mark s, None) ]))
    then_oldest may w (Some v) = let h = (gone w).few in One_more may (omega (arith, h)) refl
    then_oldest may w None = None_more (gone w)

    no_more : may_flush p s now ≡ true → (w : Watermark) (round : Option Round)
        → Counts p now s (left_by (elim round [ Some r ↦ (s, None) | None ↦ flushes_oldest p now (expired w.mark s) ]))
    no_more may w (Some r) = None_more (same_count s)
    no_more may w None = then_oldest may w (oldest (expired w.mark s))

    counts : may_flush p s now ≡ true → (w : Watermark) (b : Bool)
        → Counts p now s (left_by (elim b [ true ↦ flushes_for p now w s | false ↦ flushes_no_more p now w s ]))
    counts may w true = One_more may (omega arith) refl
    counts may w false = no_more may w s.round

    turn : may_flush p s now ≡ true → (found : Option Watermark) → Counts p now s (left_by (elim found [ Some w ↦ flushed p now w s | None ↦ (s, None) ]))
    turn may (Some w) = counts may w (nat_lt s.flushes most_flushes)
    turn may None = None_more (same_count s)

    go : (b : Bool) → may_flush p s now ≡ b → Counts p now s (left_by (elim b [ true ↦ flushes_in_turn p now s | false ↦ (s, None) ]))
    go true may = turn may (oldest s)
    go false may = None_more (same_count s)

sends_count : (p : Settings) (now : ℕ) (s : SenderState) → Counts p now s (sends_in_time p now s).0
sends_count p now s = go (nat_lt now s.next_send)
  where
    further : (found : Option Want) → Counts p now s (left_by (elim found as (λ _. SenderState × Option Written) [ Some y ↦ sends_new p now y s | None ↦ flushes p now s ]))
    further (Some y) = let h = noted_count y (record s { next = behind y }) in None_more (record { few = h.few; last = h.last })
    further None = flush_count p now s

    wanted : (wants : List Want)
        → Counts p now s (left_by (elim wants as (λ _. SenderState × Option Written) [ [] ↦ sends_further p now s | y ∷ more ↦ repairs_next p now y more s ]))
    wanted [] = further (next_new p s)
    wanted (y ∷ more) = let h = noted_count y (record s { wants = more }) in None_more (record { few = h.few; last = h.last })

    first : (b : Bool) → Counts p now s (left_by (elim b as (λ _. SenderState × Option Written) [
      | true ↦ sends p now (writes (squelch_message p s s.current.drop) (s.current.drop.index ∷ [])) (record s { squelch_due = false })
      | false ↦ sends_wanted p now s
    ]))
    first true = None_more (record { few = omega arith; last = refl })
    first false = wanted s.wants

    go : (b : Bool) → Counts p now s (left_by (elim b as (λ _. SenderState × Option Written) [ true ↦ (s, None) | false ↦ sends_first p now s ]))
    go true = None_more (same_count s)
    go false = first s.squelch_due

closed_count : (p : Settings) (now : ℕ) (s : SenderState) → NoMore s (closed_where_due p now s)
closed_count p now s = go s.round
  where
    fewer : (b : Bool) → elim b as (λ _. ℕ) [ true ↦ 0 | false ↦ s.flushes ] ≤ s.flushes
    fewer true = omega arith
    fewer false = omega arith

    by : (r : Round) (b : Bool) → NoMore s (elim b as (λ _. SenderState) [ true ↦ round_closed p r s | false ↦ s ])
    by r true = record { few = fewer (nat_lt (length s.wants) (length (wants_after p s r.asked))); last = refl }
    by r false = same_count s

    go : (found : Option Round) → NoMore s (elim found as (λ _. SenderState) [
      | Some r ↦ elim (nat_le r.closes now) [ true ↦ round_closed p r s | false ↦ s ]
      | None ↦ s
    ])
    go None = same_count s
    go (Some r) = by r (nat_le r.closes now)

pub tick_count : (p : Settings) (now : ℕ) (s : SenderState) → Counts p now s (ticked p s now).0
tick_count p now s = go (sends_count p now (closed_where_due p now s))
  where
    c : SenderState
    c = closed_where_due p now s

    was : NoMore s (closed_where_due p now s)
    was = closed_count p now s

    may_of : Option ℕ → Bool
    may_of found = elim found [ Some last ↦ nat_le (moment_after last (2 * p.grtt)) now | None ↦ true ]

    go : Counts p now (closed_where_due p now s) (ticked p s now).0 → Counts p now s (ticked p s now).0
    go (None_more h) = None_more (fewer_both s c (ticked p s now).0 was h)
    go (One_more may few last) = One_more (sym (ap may_of was.last) ∙ may) (let a = was.few in omega (arith, a, few)) last

-- ---- what is heard and told

credited_count : (p : Settings) (node : ℕ) (at : Position) (s : SenderState) → NoMore s (credited_at p node at s)
credited_count p node at s = go (is_source (current_shapes p s) at) (rises node at s)
  where
    risen : SenderState
    risen = record s { listings = map (listed_past node at) s.listings; untold_nodes = with_member nat_lt node s.untold_nodes }

    go : (b c : Bool) → NoMore s (elim b [ true ↦ elim c [ true ↦ counted_anew s (settled risen) | false ↦ s ] | false ↦ s ])
    go true true = anew_count s s (settled risen) (record { few = omega arith; last = refl })
    go true false = same_count s
    go false c = same_count s

joined_count : (p : Settings) (now : ℕ) (s : SenderState) (requests : List Request) → NoMore s (joined_round p s now requests)
joined_count p now s [] = same_count s
joined_count p now s (r ∷ requests) = record { few = omega arith; last = refl }

message_count : {E : Type 0} (p : Settings) (s : SenderState) (now : ℕ) (read : Result Message E) → NoMore s (message_heard p s now read)
message_count p s now (Ok (Nack m)) = go (nack_counts p s m)
  where
    go : (b : Bool) → NoMore s (elim b [ true ↦ joined_round p s now m.requests | false ↦ s ])
    go true = joined_count p now s m.requests
    go false = same_count s
message_count p s now (Ok (Ack m)) = go (ack_counts p s m) m.content
  where
    by : (at : Option Position) → NoMore s (credited_by p m.source at s)
    by None = same_count s
    by (Some at) = credited_count p m.source at s

    go : (b : Bool) (content : AckContent) → NoMore s (elim b [
      | true ↦ elim content [ Mark item ↦ credited_by p m.source (item_named p (last_index s) item) s | Unread octets ↦ s ]
      | false ↦ s
    ])
    go true (Mark item) = by (item_named p (last_index s) item)
    go true (Unread octets) = same_count s
    go false content = same_count s
message_count p s now _ = same_count s

told_count : (s : SenderState) → NoMore s (told s).0
told_count s = go s.untold_nodes s.untold_marks
  where
    by : List ℕ → List ℕ → SenderState × Option News
    by nodes marks = elim nodes [
      | node ∷ others ↦ (record s { untold_nodes = others }, past_news node (listing_of s node))
      | [] ↦ elim marks [
        | mark ∷ others ↦ (record s { untold_marks = others }, done_news s mark (watermark_of s mark))
        | [] ↦ (s, None)
      ]
    ]

    go : (nodes marks : List ℕ) → NoMore s (by nodes marks).0
    go (node ∷ nodes) marks = record { few = omega arith; last = refl }
    go [] (mark ∷ marks) = record { few = omega arith; last = refl }
    go [] [] = same_count s

pub event_count : (p : Settings) (w : World) (e : Event) → Quiet p e → NoMore w.sender (world_step p w e).0.sender
event_count p w e quiet = subst (NoMore w.sender) (sym (sender_is p w e)) (after e quiet)
  where
    either : (b : Bool) (t : SenderState) → NoMore w.sender t → NoMore w.sender (elim b [ true ↦ t | false ↦ w.sender ])
    either true t h = h
    either false t h = same_count w.sender

    after : (e : Event) → Quiet p e → NoMore w.sender (sender_after p w.sender e)
    after (Commanded by job now) quiet = absurd quiet
    after (Delivered node datagram now draw) quiet = either (node == p.sender) (heard p w.sender datagram now) (message_count p w.sender now (decoded datagram))
    after (Ticked node now) quiet = subst (NoMore w.sender) (sym (ap (λ (b : Bool). if_own b (ticked p w.sender now).0 w.sender) quiet)) (same_count w.sender)
    after (Offered node octets) quiet = same_count w.sender
    after (UpTaken node) quiet = same_count w.sender
    after NewsAsked quiet = told_count w.sender

-- ---- two round trips apart

-- so many since the phase began, by the moment of the last
pub data Apart (g c t : ℕ) (s : SenderState) : Type 0 where
  Few : s.flushes ≤ c → Apart g c t s
  By : (last : ℕ) → s.last_flush ≡ Some last → t + 2 * g * (s.flushes - c) ≤ last + 2 * g → Apart g c t s

pub le_of : (a b : ℕ) → nat_le a b ≡ true → a ≤ b
le_of a b e = go (leb_tells a b)
  where
    go : ((nat_le a b ≡ true) × (a ≤ b)) ⊎ ((nat_le a b ≡ false) × (b < a)) → a ≤ b
    go (inl tells) = tells.1
    go (inr tells) = absurd (clash (sym tells.0 ∙ e))

pub le_so : (a b : ℕ) → a ≤ b → nat_le a b ≡ true
le_so a b le = go (leb_tells a b)
  where
    go : ((nat_le a b ≡ true) × (a ≤ b)) ⊎ ((nat_le a b ≡ false) × (b < a)) → nat_le a b ≡ true
    go (inl tells) = tells.0
    go (inr tells) = absurd (let lt = tells.1 in omega (arith, lt, le))

-- fewer take no longer
few_take : (g c m n : ℕ) → m ≤ n → 2 * g * (m - c) ≤ 2 * g * (n - c)
few_take g c m n le =
    let a : 2 * g * (m - c) ≡ (m - c) * (2 * g) = grind arith in
    let b : 2 * g * (n - c) ≡ (n - c) * (2 * g) = grind arith in
    let most : (m - c) * (2 * g) ≤ (n - c) * (2 * g) = mul-le-mul_right (2 * g) (omega (arith, le)) in
    omega (arith, a, b, most)

-- one more takes two round trips more
one_takes : (g c n : ℕ) → 2 * g * (n + 1 - c) ≤ 2 * g * (n - c) + 2 * g
one_takes g c n =
    let most : 2 * g * (n + 1 - c) ≤ 2 * g * (((n - c) + 1) - 0) = few_more (n + 1 - c) ((n - c) + 1) (omega arith) in
    let all : 2 * g * (((n - c) + 1) - 0) ≡ 2 * g * (n - c) + 2 * g = whole (n - c) in
    omega (arith, most, all)
  where
    few_more : (m k : ℕ) → m ≤ k → 2 * g * m ≤ 2 * g * (k - 0)
    few_more m k le =
        let a : 2 * g * m ≡ m * (2 * g) = grind arith in
        let b : 2 * g * (k - 0) ≡ k * (2 * g) = whole_of k in
        let most : m * (2 * g) ≤ k * (2 * g) = mul-le-mul_right (2 * g) le in
        omega (arith, a, b, most)
      where
        whole_of : (k : ℕ) → 2 * g * (k - 0) ≡ k * (2 * g)
        whole_of k = ap (λ (x : ℕ). 2 * g * x) (let z : k - 0 ≡ k = omega arith in z) ∙ turned k
          where
            turned : (k : ℕ) → 2 * g * k ≡ k * (2 * g)
            turned k = grind arith

    whole : (k : ℕ) → 2 * g * ((k + 1) - 0) ≡ 2 * g * k + 2 * g
    whole k = ap (λ (x : ℕ). 2 * g * x) (let z : (k + 1) - 0 ≡ k + 1 = omega arith in z) ∙ more k
      where
        more : (k : ℕ) → 2 * g * (k + 1) ≡ 2 * g * k + 2 * g
        more k = grind arith

apart_fewer : (g c t : ℕ) (s u : SenderState) → NoMore s u → Apart g c t s → Apart g c t u
apart_fewer g c t s u h (Few le) = Few (let few = h.few in omega (arith, few, le))
apart_fewer g c t s u h (By last is le) = By last (h.last ∙ is) (let take = few_take g c u.flushes s.flushes h.few in omega (arith, take, le))

apart_ticks : (p : Settings) (now c t : ℕ) (s u : SenderState) → Counts p now s u → t ≤ now → now + p.grtt ≤ 18446744073709551615 → 1 ≤ p.grtt
    → Apart p.grtt c t s → Apart p.grtt c t u
apart_ticks p now c t s u (None_more h) began fits some a = apart_fewer p.grtt c t s u h a
apart_ticks p now c t s u (One_more may few last) began fits some (Few le) = By now last (
    let take = few_take p.grtt c u.flushes (s.flushes + 1) few in
    let one = one_takes p.grtt c s.flushes in
    let none : 2 * p.grtt * (s.flushes - c) ≡ 0 = nothing (s.flushes - c) (omega (arith, le)) in
    omega (arith, take, one, none, began)
    )
  where
    nothing : (k : ℕ) → k ≡ 0 → 2 * p.grtt * k ≡ 0
    nothing k e = ap (λ (x : ℕ). 2 * p.grtt * x) e ∙ zero_of
      where
        zero_of : 2 * p.grtt * 0 ≡ 0
        zero_of = omega arith
apart_ticks p now c t s u (One_more may few last) began fits some (By before is le) = By now last (
    let take = few_take p.grtt c u.flushes (s.flushes + 1) few in
    let one = one_takes p.grtt c s.flushes in
    let passed : before + 2 * p.grtt ≤ now = late before (le_of (moment_after before (2 * p.grtt)) now (sym (ap may_of is) ∙ may)) in
    omega (arith, take, one, passed, le)
    )
  where
    may_of : Option ℕ → Bool
    may_of found = elim found [ Some last ↦ nat_le (moment_after last (2 * p.grtt)) now | None ↦ true ]

    late : (before : ℕ) → moment_after before (2 * p.grtt) ≤ now → before + 2 * p.grtt ≤ now
    late before passed = omega (arith, passed, fits, some)

-- ---- the turn

of_watch : (p : Settings) (events : List Event) (last : ℕ) (ph : Phase) → Watch p ph last (run p events) → Apart p.grtt ph.counted ph.began (run p events).sender
of_watch p events last ph h = go (nat_le (run p events).sender.flushes ph.counted) refl h.flushed
  where
    s : SenderState
    s = (run p events).sender

    by : (found : Option ℕ) → s.last_flush ≡ found
        → (elim found as (λ _. Bool) [ Some last ↦ nat_le (ph.began + 2 * p.grtt * (s.flushes - ph.counted)) (last + 2 * p.grtt) | None ↦ false ]) ≡ true
        → Apart p.grtt ph.counted ph.began (run p events).sender
    by None is e = absurd (clash e)
    by (Some last) is e = By last is (le_of (ph.began + 2 * p.grtt * (s.flushes - ph.counted)) (last + 2 * p.grtt) e)

    go : (b : Bool) → nat_le s.flushes ph.counted ≡ b
        → (b || elim s.last_flush [ Some last ↦ nat_le (ph.began + 2 * p.grtt * (s.flushes - ph.counted)) (last + 2 * p.grtt) | None ↦ false ]) ≡ true
        → Apart p.grtt ph.counted ph.began (run p events).sender
    go true is e = Few (le_of s.flushes ph.counted is)
    go false is e = by s.last_flush refl e

module _ (p : Settings) (events : List Event) (last : ℕ) (draws : ℕ → ℕ) (f : Follows p events last) (ph : Phase) (began : ph.began ≤ last)
    (was : Apart p.grtt ph.counted ph.began (run p events).sender) where
  abbrev A : SenderState → Type 0
  A s = Apart p.grtt ph.counted ph.began s

  abbrev Kept : Course → Type 0
  Kept c = Apart p.grtt ph.counted ph.began c.world.sender

  each : (e : Event) → Quiet p e → IsAt (last + p.step) e → (c : Course) → Apart p.grtt ph.counted ph.began c.world.sender
      → Apart p.grtt ph.counted ph.began (comes p e c).world.sender
  each e quiet at c a = apart_fewer p.grtt ph.counted ph.began c.world.sender (world_step p c.world e).0.sender (event_count p c.world e quiet) a

  after_tick : Apart p.grtt ph.counted ph.began (comes p (Ticked p.sender (last + p.step)) (course_from (run p events))).world.sender
  after_tick =
      subst (Apart p.grtt ph.counted ph.began) (sym (own_tick p (run p events) (last + p.step)))
      (apart_ticks p (last + p.step) ph.counted ph.began (run p events).sender (ticked p (run p events).sender (last + p.step)).0
      (tick_count p (last + p.step) (run p events).sender) (omega (arith, began)) f.fits f.profile.grtt.0 was)

  at_end : Apart p.grtt ph.counted ph.began (tail_turn p draws (last + p.step) (course_from (run p events))).world.sender
  at_end =
      round_keeps p draws (last + p.step) Kept each (λ c n a. a) (sender_ticks p (last + p.step) (course_from (run p events)))
      (tells_keep p draws (last + p.step) Kept each (λ c n a. a) (comes p (Ticked p.sender (last + p.step)) (course_from (run p events))) after_tick)

  pub flushes_apart : are_apart p (goes_to ph (turn_after p draws events last)) (turn_after p draws events last).world.sender ≡ true
  flushes_apart = go at_end
    where
      t : SenderState
      t = (tail_turn p draws (last + p.step) (course_from (run p events))).world.sender

      left_is : (a b : Bool) → a ≡ true → (a || b) ≡ true
      left_is true b e = refl
      left_is false b e = absurd (clash e)

      right_is : (a b : Bool) → b ≡ true → (a || b) ≡ true
      right_is true b e = refl
      right_is false b e = e

      by_last : Option ℕ → Bool
      by_last found = elim found [ Some last ↦ nat_le (ph.began + 2 * p.grtt * (t.flushes - ph.counted)) (last + 2 * p.grtt) | None ↦ false ]

      go : Apart p.grtt ph.counted ph.began (tail_turn p draws (last + p.step) (course_from (run p events))).world.sender → (nat_le t.flushes ph.counted || by_last t.last_flush) ≡ true
      go (Few le) = left_is (nat_le t.flushes ph.counted) (by_last t.last_flush) (le_so t.flushes ph.counted le)
      go (By last is le) =
          right_is (nat_le t.flushes ph.counted) (by_last t.last_flush)
          (ap by_last is ∙ le_so (ph.began + 2 * p.grtt * (t.flushes - ph.counted)) (last + 2 * p.grtt) le)

pub watch_keeps : WatchKeeps
watch_keeps = record {
  timely = λ p events last draws f. (goes p events last draws f 0).timely;
  later = λ p events last draws f. later p events last draws f;
  within = λ p events last draws f ph h. within p events last draws f ph h;
  runs_out = λ p events last draws f ph h. runs_out p events last draws f ph h;
  apart = λ p events last draws f ph h. apart p events last draws f ph h;
  flushed = λ p events last draws f ph h. flushes_apart p events last draws f ph (let a = h.within.0 in let b = h.within.1 in omega (arith, a, b)) (of_watch p events last ph h);
}
