-- The first block of an object that is not done, the next one, and how far a stream was seen, from what a front has.
use Rattle.std.proofs.Common.{◌≡◌, ℕ, zero, suc, ◌+◌, ◌-◌, ◌<◌, ◌≤◌, ◌⊎◌, inl, inr, Bool, true, false, cond, refl, sym, ap, ◌∙◌, subst, arith, Option, Some, None, ◌∷◌}
use Rattle.std.specs.Prelude.{IfSome, MatchOption, filter, nat_lt, not, option_map, slice_get, ◌==◌, ◌&&◌, ◌||◌}
use Rattle.std.specs.List.{range_with_len}
use Rattle.std.proofs.lemmas.Bool.{cases_lt, cases_order, eqb-true, le-ltb}
use Rattle.fec_plan.specs.Partition.{blocks}
use Rattle.fec_plan.specs.Points.{point, point_before, point_of}
use Rattle.fec_plan.specs.declared.position.Position.{Position}
use Rattle.norm_receive_rules.specs.Holding.{Holding, Plan}
use Rattle.norm_receive_rules.specs.Laws.{IsAtStart, IsPassed, PassedBy}
use Rattle.norm_receive_rules.specs.Plans.{cut_of_plan, is_done, plan_of, says_stream}
use Rattle.rx_hold.specs.EntryState.{EntryState, IsOfKind, alone_in, entry_of}
use Rattle.rx_hold.specs.EntryHold.{StandsFor, at_place, entry_at}
use Rattle.rx_hold.specs.Told.{IsFirstShort, first_short_at, short_of}
use Rattle.rx_object.specs.ObjectState.{ObjectState, alone, short_blocks}
use Rattle.rx_hold.specs.declared.entry.Entry.{Entry}
use Rattle.rx_hold.specs.declared.entry.Entry.TheVariants as kinds
use Rattle.rx_hold.proofs.EntryLemmas.{AreAlikeAt, done_at}
use Rattle.rx_hold.proofs.EntryStands.{alike_at, placed_at}
use Rattle.rx_hold.proofs.EntryWords.{first_at_place, is_ahead}
use Rattle.rx_hold.proofs.FirstLemmas.{first_short_says}
use Rattle.norm_receive_rules.specs.Short.{IsShortFrom}
use Rattle.rx_hold.specs.Asked.{IsShort, IsShortIn, seen_at, seen_in}
use Rattle.rx_hold.specs.Seats.{begins_at, state_of, states_of}
use Rattle.rx_hold.specs.FrontSound.{IsFront, front_view, point_of_front}
use Rattle.rx_hold.specs.declared.front.Front.{Front}
use Rattle.rx_hold.specs.declared.ring.Seat.{Seat}
use Rattle.rx_hold.proofs.ReadLemmas.{looked_up, read_none, read_plan}
use Rattle.rx_hold.proofs.SeatLemmas.{far, placed, state_at, state_seat}

-- ---- the first of a range that a filter keeps

some_first : (q : ℕ → Bool) (a n j : ℕ) → a ≤ j → j < a + n → q j ≡ true → ((i : ℕ) → a ≤ i → i < j → q i ≡ false) → slice_get (filter q (range_with_len a n)) 0 ≡ Some j
some_first q a zero j le lt passes none = absurd (omega arith)
some_first q a (suc n) j le lt passes none = go (cases_order a j) (λ below. some_first q (a + 1) n j (omega arith) (omega arith) passes (λ i up under. none i (omega arith) under))
  where
    go : (a ≡ j) ⊎ ((a < j) ⊎ (j < a)) → (a < j → slice_get (filter q (range_with_len (a + 1) n)) 0 ≡ Some j) → slice_get (filter q (range_with_len a (suc n))) 0 ≡ Some j
    go (inl e) rest =
        ap (λ b. slice_get (cond b (a ∷ filter q (range_with_len (a + 1) n)) (filter q (range_with_len (a + 1) n))) 0) (ap q e ∙ passes) ∙ ap (λ (m : ℕ). Some m) e
    go (inr (inl below)) rest =
        ap (λ b. slice_get (cond b (a ∷ filter q (range_with_len (a + 1) n)) (filter q (range_with_len (a + 1) n))) 0) (none a (omega arith) below) ∙ rest below
    go (inr (inr above)) rest = absurd (omega arith)

none_first : (q : ℕ → Bool) (a n : ℕ) → ((i : ℕ) → a ≤ i → i < a + n → q i ≡ false) → slice_get (filter q (range_with_len a n)) 0 ≡ None
none_first q a zero none = refl
none_first q a (suc n) none =
    ap (λ b. slice_get (cond b (a ∷ filter q (range_with_len (a + 1) n)) (filter q (range_with_len (a + 1) n))) 0) (none a (omega arith) (omega arith))
    ∙ none_first q (a + 1) n (λ i up under. none i (omega arith) (omega arith))

-- where all before are done, the first from there on is the first
short_is : (s t : Holding) (plan : Plan) (from : ℕ) (first : Option ℕ) → ((block : ℕ) → block < from → is_done s plan block ≡ true)
    → ((block : ℕ) → from ≤ block → is_done s plan block ≡ is_done t plan block) → IsShortFrom t plan from first → first ≡ slice_get (short_of s plan) 0
short_is s t plan from first early same is = go first is
  where
    go : (found : Option ℕ) → IsShortFrom t plan from found → found ≡ slice_get (short_of s plan) 0
    go None h =
        sym (none_first (λ block. not (is_done s plan block)) 0 (blocks (cut_of_plan plan))
        (λ block up under. ap not (by block (cases_lt block from) (λ le. same block le ∙ h.before block le (omega (arith, under))))))
      where
        by : (block : ℕ) → (block < from) ⊎ (from ≤ block) → (from ≤ block → is_done s plan block ≡ true) → is_done s plan block ≡ true
        by block (inl lt) later = early block lt
        by block (inr le) later = later le
    go (Some j) h =
        let short = h.short in
        sym (some_first (λ block. not (is_done s plan block)) 0 (blocks (cut_of_plan plan)) j (omega arith) (let lt = short.1 in omega (arith, lt)) (ap not (same j short.0 ∙ short.2))
        (λ block up under. ap not (by block (cases_lt block from) (λ le. same block le ∙ h.before block le under))))
      where
        by : (block : ℕ) → (block < from) ⊎ (from ≤ block) → (from ≤ block → is_done s plan block ≡ true) → is_done s plan block ≡ true
        by block (inl lt) later = early block lt
        by block (inr le) later = later le

-- of data and files it is the first of all
pub object_short : (o : ObjectState) (first : Option ℕ) → first ≡ slice_get (short_blocks o) 0 → IsShortFrom (alone o) o.plan 0 first
object_short o first is = go first (first_short_says (alone o) o.plan first is)
  where
    go : (found : Option ℕ) → IsFirstShort (alone o) o.plan found → IsShortFrom (alone o) o.plan 0 found
    go None h = record { before = λ block le lt. h.before block lt; short = tt }
    go (Some j) h = record { before = λ block le lt. h.before block lt; short = (omega arith, h.short.0, h.short.1) }

module _ (f : Front) (s : Holding) (index : ℕ) (front : IsFront f) (stands : StandsFor (front_view f) s) (reached : f.point ≤ index) where
  at : f.point + (index - f.point) ≡ index
  at = omega (arith, reached)

  own : (o : EntryState) → entry_at (states_of f.ring.items) (index - f.point) ≡ Some o → o.plan.index ≡ index
  own o e = (placed_at f.profile f.point (index - f.point) (states_of f.ring.items) o (placed f.profile f.point f.ring.items front.seats) e).index ∙ at

  point_is : s.point.index ≡ f.point
  point_is = ap (λ (x : Position). x.index) stands.point

  first_point : (o : EntryState) → entry_at (states_of f.ring.items) (index - f.point) ≡ Some o → index - f.point ≡ 0 → s.point.block ≡ o.point.block
  first_point o e here =
      ap (λ (x : Position). x.block) stands.point
      ∙ ap (λ (found : Option EntryState). (begins_at f.point found).block) (ap (entry_at (states_of f.ring.items)) (sym here) ∙ e)

  -- from the next block on, those are done that are of the object by itself
  done_here : (o : EntryState) → entry_at (states_of f.ring.items) (index - f.point) ≡ Some o → (block : ℕ) → o.point.block ≤ block → is_done s o.plan block ≡ is_done (alone_in o) o.plan block
  done_here o e block le =
      done_at s (alone_in o) o.plan block
      (subst (λ n. AreAlikeAt s (alone_in o) n block) (sym (own o e))
      (alike_at f.profile (point_of_front f) (states_of f.ring.items) f.ups.items f.lost s (placed f.profile f.point f.ring.items front.seats) stands index (index - f.point) block o at e
      (is_ahead s index block (omega (arith, point_is, reached)) (λ here. let b = first_point o e (omega (arith, here, point_is)) in omega (arith, b, le)))
      (first_at_place f.profile (point_of_front f) (states_of f.ring.items) f.ups.items f.lost s (placed f.profile f.point f.ring.items front.seats) (far f.profile f.point f.ring.items front.seats) stands index
      (index - f.point) o at e)))

  pub read_first : (o : EntryState) (first : Option ℕ) → entry_at (states_of f.ring.items) (index - f.point) ≡ Some o → IsShortFrom (alone_in o) o.plan o.point.block first
      → first ≡ first_short_at s index
  read_first o first e is =
      short_is s (alone_in o) o.plan o.point.block first (early (index - f.point) refl) (done_here o e) is
      ∙ sym (ap (λ (found : Option Plan). elim found as (λ _. Option ℕ) [ Some plan ↦ slice_get (short_of s plan) 0 | None ↦ None ]) (read_plan f s index front stands reached o e))
    where
      early : (i : ℕ) → index - f.point ≡ i → (block : ℕ) → block < o.point.block → is_done s o.plan block ≡ true
      early zero here block lt =
          let found : plan_of s s.point.index ≡ Some o.plan =
          ap (plan_of s) (let n : s.point.index ≡ index = omega (arith, point_is, here, reached) in n) ∙ read_plan f s index front stands reached o e in
          by (says_stream o.plan.flags) (subst (PassedBy f.profile s) found stands.passed)
        where
          by : (b : Bool) → elim b as (λ _. Type 0) [ true ↦ IsPassed f.profile s o.plan | false ↦ IsAtStart s ] → is_done s o.plan block ≡ true
          by true is = is.done block (let b = first_point o e here in omega (arith, b, lt))
          by false is = absurd (let none = is.block in let b = first_point o e here in omega (arith, none, b, lt))
      early (suc i) here block lt =
          let there = state_seat (at_place f.ring.items (index - f.point)) o (sym (state_at f.ring.items (index - f.point)) ∙ e) in
          let none = ((front.seats (index - f.point) there.0 there.1).later (omega (arith, here))).0 in
          let is : o.point.block ≡ (entry_of there.0.entry).point.block = ap (λ (x : EntryState). x.point.block) there.2 in
          absurd (omega (arith, none, is, lt))

  pub read_no_first : entry_at (states_of f.ring.items) (index - f.point) ≡ None → None ≡ first_short_at s index
  read_no_first e = sym (ap (λ (found : Option Plan). elim found as (λ _. Option ℕ) [ Some plan ↦ slice_get (short_of s plan) 0 | None ↦ None ]) (read_none f s index front stands reached e))

  pub read_next : (o : EntryState) (block : ℕ) (next : Option ℕ) → entry_at (states_of f.ring.items) (index - f.point) ≡ Some o → o.point.block ≤ block
      → IsShortFrom (alone_in o) o.plan (block + 1) next → IfSome (plan_of s index) (λ plan. IsShortFrom s plan (block + 1) next)
  read_next o block next e le is =
      subst (λ (found : Option Plan). IfSome found (λ plan. IsShortFrom s plan (block + 1) next)) (sym (read_plan f s index front stands reached o e)) (go next is)
    where
      go : (found : Option ℕ) → IsShortFrom (alone_in o) o.plan (block + 1) found → IsShortFrom s o.plan (block + 1) found
      go None h = record { before = λ b up lt. done_here o e b (omega (arith, le, up)) ∙ h.before b up lt; short = tt }
      go (Some j) h =
          let short = h.short in
          record {
            before = λ b up lt. done_here o e b (omega (arith, le, up)) ∙ h.before b up lt;
            short = (short.0, short.1, done_here o e j (let up = short.0 in omega (arith, le, up)) ∙ short.2);
          }

  -- what stands at the place of an index
  abbrev kind_at : Option Seat → Option Entry
  kind_at place = option_map (λ (seat : Seat). seat.entry) place

  seen_by : Option Plan → Option ℕ
  seen_by found = elim found as (λ _. Option ℕ) [ Some plan ↦ elim (says_stream plan.flags) as (λ _. Option ℕ) [ true ↦ Some plan.seen | false ↦ None ] | None ↦ None ]

  pub read_seen : (kind : Entry) → Some kind ≡ option_map (λ (seat : Seat). seat.entry) (at_place f.ring.items (index - f.point)) → seen_in kind ≡ seen_at s index
  unfolding seen_by
  read_seen kind is = go (at_place f.ring.items (index - f.point)) refl is
    where
      by_plan : (k : Entry) → entry_at (states_of f.ring.items) (index - f.point) ≡ Some (entry_of k) → IsOfKind k → seen_in k ≡ seen_at s index
      by_plan (kinds.Object o) e of_kind =
          sym (ap seen_by (read_plan f s index front stands reached (entry_of (kinds.Object o)) e)
          ∙ ap (λ b. elim b as (λ _. Option ℕ) [ true ↦ Some o.plan.seen | false ↦ None ]) of_kind)
      by_plan (kinds.Stream o) e of_kind =
          sym (ap seen_by (read_plan f s index front stands reached (entry_of (kinds.Stream o)) e)
          ∙ ap (λ b. elim b as (λ _. Option ℕ) [ true ↦ Some o.plan.seen | false ↦ None ]) of_kind)

      go : (place : Option Seat) → at_place f.ring.items (index - f.point) ≡ place → Some kind ≡ option_map (λ (seat : Seat). seat.entry) place → seen_in kind ≡ seen_at s index
      go None e h = absurd (cc h)
      go (Some seat) e h =
          let same : kind ≡ seat.entry = cc h in
          by_plan kind (state_at f.ring.items (index - f.point) ∙ ap state_of e ∙ ap (λ (k : Entry). Some (entry_of k)) (sym same))
          (subst (λ (k : Entry). IsOfKind k) (sym same) (front.seats (index - f.point) seat e).kind)

  pub read_no_seen : None ≡ option_map (λ (seat : Seat). seat.entry) (at_place f.ring.items (index - f.point)) → None ≡ seen_at s index
  unfolding seen_by
  read_no_seen is = go (at_place f.ring.items (index - f.point)) refl is
    where
      go : (place : Option Seat) → at_place f.ring.items (index - f.point) ≡ place → None ≡ option_map (λ (seat : Seat). seat.entry) place → None ≡ seen_at s index
      go None e h = sym (ap seen_by (read_none f s index front stands reached (state_at f.ring.items (index - f.point) ∙ ap state_of e)))
      go (Some seat) e h = absurd (cc h)

-- ---- it is not of a block that was handed up whole

pub short_ahead : (f : Front) (index from : ℕ) (o : EntryState) (t : Holding) (plan : Plan) (first : Option ℕ) → f.point ≤ index → entry_at (states_of f.ring.items) (index - f.point) ≡ Some o
    → o.point.block ≤ from → IsShortFrom t plan from first → IfSome first (λ block. point_before (point index block) (point_of (point_of_front f)) ≡ false)
short_ahead f index from o t plan None reached e up short = tt
short_ahead f index from o t plan (Some block) reached e up short =
    ap (λ b. b || (index == f.point && nat_lt block (point_of_front f).block)) (le-ltb index f.point reached) ∙ go (index == f.point) refl
  where
    go : (b : Bool) → (index == f.point) ≡ b → (b && nat_lt block (point_of_front f).block) ≡ false
    go false here = refl
    go true here =
        let first_place : index - f.point ≡ 0 = (let same = eqb-true index f.point here in omega (arith, same)) in
        let is : (point_of_front f).block ≡ o.point.block =
        ap (λ (found : Option EntryState). (begins_at f.point found).block) (ap (entry_at (states_of f.ring.items)) (sym first_place) ∙ e) in
        let le = short.short.0 in
        le-ltb block (point_of_front f).block (omega (arith, is, le, up))

pub short_behind : (t : Holding) (plan : Plan) (block : ℕ) (next : Option ℕ) → IsShortFrom t plan (block + 1) next → IfSome next (λ n. block < n)
short_behind t plan block None short = tt
short_behind t plan block (Some n) short = (let le = short.short.0 in omega (arith, le))

-- ---- it is one of the hold's that lacks symbols

pub short_in : (f : Front) (index from : ℕ) (o : EntryState) (first : Option ℕ) → IsFront f → f.point ≤ index → entry_at (states_of f.ring.items) (index - f.point) ≡ Some o
    → o.point.block ≤ from → IsShortFrom (alone_in o) o.plan from first → IfSome first (λ block. IsShortIn (front_view f) index block)
short_in f index from o None front reached e up short = tt
short_in f index from o (Some block) front reached e up short =
    subst (λ (found : Option EntryState). MatchOption found ⊥ (λ (x : EntryState). IsShort x block)) (sym (looked_up f index front reached ∙ e))
    (record { reached = (let le = short.short.0 in omega (arith, le, up)); within = short.short.1; lacks = short.short.2 })

pub short_there : (f : Front) (index block : ℕ) (o : EntryState) → IsFront f → f.point ≤ index → entry_at (states_of f.ring.items) (index - f.point) ≡ Some o
    → IsShortIn (front_view f) index block → IsShort o block
short_there f index block o front reached e short =
    subst (λ (found : Option EntryState). MatchOption found ⊥ (λ (x : EntryState). IsShort x block)) (looked_up f index front reached ∙ e) short

pub short_nowhere : {Q : Type 0} (f : Front) (index block : ℕ) → IsFront f → f.point ≤ index → entry_at (states_of f.ring.items) (index - f.point) ≡ None
    → IsShortIn (front_view f) index block → Q
short_nowhere f index block front reached e short =
    absurd (subst (λ (found : Option EntryState). MatchOption found ⊥ (λ (x : EntryState). IsShort x block)) (looked_up f index front reached ∙ e) short)
