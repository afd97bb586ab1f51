-- Where anything behind the object at the hand-up point is needed, something of it is.
use Rattle.std.proofs.Common.{◌≡◌, ℕ, zero, suc, cond, ◌+◌, ◌<◌, ◌≤◌, ◌⊎◌, inl, inr, List, [], ◌∷◌, map, Bool, true, false, Option, None, Some, refl, sym, ap, subst, ◌∙◌, arith}
use Rattle.std.specs.Prelude.{filter, find, max, not, nat_lt, nat_le, is_some, ◌==◌, ◌&&◌, ◌||◌, IfSome}
use Rattle.std.specs.List.{list_all, range_with_len}
use Rattle.std.proofs.lemmas.Bool.{cases_lt}
use Rattle.std.proofs.lemmas.Bool.Decides.{Decides-ltb, Decides-eqb, leb_tells}
use Rattle.norm_base.specs.Settings.{Settings}
use Rattle.fec_plan.specs.Partition.{blocks, source_symbols}
use Rattle.fec_plan.specs.Points.{Point, point, point_of, point_before, position}
use Rattle.fec_plan.specs.declared.position.Position.{Position}
use Rattle.norm_receive_rules.specs.AllNeeds.{last_known, needs_nothing}
use Rattle.norm_receive_rules.specs.HandingUp.{is_whole, hands_object, segment_length, next_segment, hands_segment, hands_next, hands_one}
use Rattle.norm_receive_rules.specs.Holding.{Holding, Plan, Held}
use Rattle.norm_receive_rules.specs.Laws.{needs_nothing_first, IsAtStart, IsPassed, PassedBy, HasPassed, was_seen, each_was_seen, FrontLaws}
use Rattle.norm_receive_rules.specs.Needs.{farthest_index, is_covered}
use Rattle.norm_receive_rules.specs.NothingMissing.{IsBeforeFarthest, IsFlushed, IsThere, StreamIsThere, IsThereByPlan, ObjectIsThere}
use Rattle.norm_receive_rules.specs.Plans.{cut_of_plan, says_stream, plan_of, is_done, has_its_info, first_block}
use Rattle.norm_receive_rules.specs.ReceiverState.{ReceiverState}
use Rattle.norm_receive_rules.specs.StreamNeeds.{last_block, is_end, end_in, end_among, end_of, is_behind, open_block}
use Rattle.norm_receive_rules.proofs.HandUpLemmas.{index_of_found}
use Rattle.norm_receive_rules.proofs.NeedLemmas.{before_point, needs_nil, exactly}
use Rattle.norm_receive_rules.proofs.PassedLemmas.{there_value}

clash : false ≡ true → ⊥
clash e = cc

all_of_range : (test : ℕ → Bool) (from n : ℕ) → ((k : ℕ) → from ≤ k → k < from + n → test k ≡ true) → list_all test (range_with_len from n) ≡ true
all_of_range test from zero each = refl
all_of_range test from (suc n) each =
    both (test from) _ (each from (omega arith) (omega arith))
    (all_of_range test (from + 1) n (λ k le lt. each k (omega arith) (omega arith)))
  where
    both : (a b : Bool) → a ≡ true → b ≡ true → (a && b) ≡ true
    both true b e f = f
    both false b e f = absurd (clash e)

-- the sender was seen to be past an object, or flushed a later one
abbrev IsPast : Option Point → Option Position → ℕ → Type 0
IsPast farthest flush index =
    ((at : Point) × (farthest ≡ Some at) × (index < at.index)) ⊎ ((at : Position) × (flush ≡ Some at) × (index < at.index))

past_of : (farthest : Option Point) (flush : Option Position) (index later : ℕ) → index < later → later < last_known farthest flush
    → IsPast farthest flush index
past_of farthest flush index later lt known = go farthest flush refl refl known
  where
    last : ℕ → Option Position → ℕ
    last far flush = max far (elim flush [ Some at ↦ at.index | None ↦ 0 ]) + 1

    go : (f : Option Point) (g : Option Position) → farthest ≡ f → flush ≡ g → later < last (farthest_index f) g → IsPast farthest flush index
    go None None e h k = absurd (omega (arith, lt))
    go (Some at) None e h k = inl (at, e, omega (arith, lt))
    go None (Some at) e h k = inr (at, h, omega (arith, lt))
    go (Some at) (Some to) e h k = elim (cases_lt index at.index) [
      | inl less ↦ inl (at, e, less)
      | inr ge ↦ inr (to, h, omega (arith, lt))
    ]

le_true : (a b : ℕ) → a ≤ b → nat_le a b ≡ true
le_true a b le = go (leb_tells a b)
  where
    go : ((nat_le a b ≡ true) × (a ≤ b)) ⊎ ((nat_le a b ≡ false) × (b < a)) → nat_le a b ≡ true
    go (inl tells) = tells.0
    go (inr tells) = absurd (let h = tells.1 in omega arith)

or_right : (a b : Bool) → b ≡ true → (a || b) ≡ true
or_right true b e = refl
or_right false b e = e

or_left : (a b : Bool) → a ≡ true → (a || b) ≡ true
or_left true b e = refl
or_left false b e = absurd (clash e)

past_covered : (farthest : Option Point) (flush : Option Position) (index : ℕ) → IsPast farthest flush index → is_covered farthest flush index ≡ true
past_covered farthest flush index (inl (at, e, lt)) =
    or_left (nat_lt index (farthest_index farthest)) (flushed flush)
    (ap (λ (f : Option Point). nat_lt index (farthest_index f)) e ∙ (Decides-ltb index at.index).1 lt)
  where
    flushed : Option Position → Bool
    flushed g = elim g [ Some at ↦ nat_le index at.index | None ↦ false ]
past_covered farthest flush index (inr (at, e, lt)) =
    or_right (nat_lt index (farthest_index farthest)) (flushed flush) (ap flushed e ∙ le_true index at.index (omega arith))
  where
    flushed : Option Position → Bool
    flushed g = elim g [ Some at ↦ nat_le index at.index | None ↦ false ]

false_of : (b : Bool) → (b ≡ true → ⊥) → b ≡ false
false_of true never = absurd (never refl)
false_of false never = refl

-- each block of an object that the sender is past is due
past_due : (farthest : Option Point) (flush : Option Position) (index block : ℕ) → IsPast farthest flush index
    → IsBeforeFarthest farthest (point index block) ⊎ IsFlushed flush (point index block)
past_due farthest flush index block (inl (at, e, lt)) = inl (at, e, (before_point (point index block) at).1 (inl lt))
past_due farthest flush index block (inr (at, e, lt)) =
    inr (at, e, false_of (point_before (point_of at) (point index block)) (λ h. back ((before_point (point_of at) (point index block)).0 h)))
  where
    back : (at.index < index) ⊎ ((at.index ≡ index) × (at.block < block)) → ⊥
    back (inl less) = omega arith
    back (inr (same, less)) = omega arith

some_where : {X : Type 0} (b : Bool) (x : X) → is_some (elim b as (λ _. Option X) [ true ↦ Some x | false ↦ None ]) ≡ b
some_where true x = refl
some_where false x = refl

both : (a b : Bool) → a ≡ true → b ≡ true → (a && b) ≡ true
both true b e f = f
both false b e f = absurd (clash e)

-- an object that the sender is past is not there whole, since it would have been handed up
not_there : (p : Settings) (s : ReceiverState) → hands_one p s.holding ≡ None
    → IfSome (plan_of s.holding s.holding.point.index) (λ (plan : Plan). says_stream plan.flags ≡ false)
    → IsPast s.knows.farthest s.knows.flush s.holding.point.index
    → ObjectIsThere p s.knows.farthest s.knows.flush s.holding s.holding.point.index (plan_of s.holding s.holding.point.index) → ⊥
not_there p s stuck kind past = go (plan_of s.holding s.holding.point.index) refl kind
  where
    found : Option Plan → Option Holding
    found o = elim o as (λ _. Option Holding) [
      | Some plan ↦ elim (says_stream plan.flags) [ true ↦ hands_next p s.holding plan | false ↦ hands_object s.holding plan ]
      | None ↦ None
    ]

    kinds : Plan → Bool → Option Holding
    kinds plan b = elim b [ true ↦ hands_next p s.holding plan | false ↦ hands_object s.holding plan ]

    whole : (plan : Plan) → says_stream plan.flags ≡ false → IsPast s.knows.farthest s.knows.flush plan.index
        → IsThereByPlan p s.knows.farthest s.knows.flush s.holding plan → is_whole s.holding plan ≡ true
    whole plan kinded past there =
        both (has_its_info s.holding plan) (list_all (is_done s.holding plan) (range_with_len 0 (blocks (cut_of_plan plan))))
        (there.info (past_covered s.knows.farthest s.knows.flush plan.index past))
        (all_of_range (is_done s.holding plan) 0 (blocks (cut_of_plan plan))
        (λ block le lt. there.octets kinded block (let z : block < blocks (cut_of_plan plan) = omega arith in z) (past_due s.knows.farthest s.knows.flush plan.index block past)))

    go : (o : Option Plan) → plan_of s.holding s.holding.point.index ≡ o → IfSome o (λ (plan : Plan). says_stream plan.flags ≡ false)
        → ObjectIsThere p s.knows.farthest s.knows.flush s.holding s.holding.point.index o → ⊥
    go None e kinded there = clash (sym there ∙ past_covered s.knows.farthest s.knows.flush s.holding.point.index past)
    go (Some plan) e kinded there =
        let same = index_of_found s.holding.point.index s.holding.plans plan e in
        let P : ℕ → Type 0 = λ index. IsPast s.knows.farthest s.knows.flush index in
        let object : hands_object s.holding plan ≡ None = sym (ap (kinds plan) kinded) ∙ sym (ap found e) ∙ stuck in
        clash (sym (ap (λ (h : Option Holding). is_some h) object) ∙ some_where (is_whole s.holding plan) _ ∙ whole plan kinded (subst P (sym same) past) there)

nothing_first : (p : Settings) (s : ReceiverState) → hands_one p s.holding ≡ None
    → IfSome (plan_of s.holding s.holding.point.index) (λ (plan : Plan). says_stream plan.flags ≡ false)
    → needs_nothing_first p s ≡ true → needs_nothing p s ≡ true
nothing_first p s stuck kind none = (exactly p s).1 (λ index le lt. go index le lt (cases_lt s.holding.point.index index))
  where
    here : ObjectIsThere p s.knows.farthest s.knows.flush s.holding s.holding.point.index (plan_of s.holding s.holding.point.index)
    here = (needs_nil p s s.holding.point.index).0 none

    go : (index : ℕ) → s.holding.point.index ≤ index → index < last_known s.knows.farthest s.knows.flush
        → (s.holding.point.index < index) ⊎ (index ≤ s.holding.point.index)
        → ObjectIsThere p s.knows.farthest s.knows.flush s.holding index (plan_of s.holding index)
    go index le lt (inl behind) =
        absurd (not_there p s stuck kind (past_of s.knows.farthest s.knows.flush s.holding.point.index index behind lt) here)
    go index le lt (inr ge) =
        let O : ℕ → Type 0 = λ n. ObjectIsThere p s.knows.farthest s.knows.flush s.holding n (plan_of s.holding n) in
        subst O (let same : s.holding.point.index ≡ index = omega arith in same) here

-- ---- a stream at the hand-up point

past_behind : (farthest : Option Point) (flush : Option Position) (index : ℕ) → IsPast farthest flush index → is_behind farthest flush index ≡ true
past_behind farthest flush index (inl (at, e, lt)) =
    or_left (nat_lt index (farthest_index farthest)) (flushed flush)
    (ap (λ (f : Option Point). nat_lt index (farthest_index f)) e ∙ (Decides-ltb index at.index).1 lt)
  where
    flushed : Option Position → Bool
    flushed g = elim g [ Some at ↦ nat_lt index at.index | None ↦ false ]
past_behind farthest flush index (inr (at, e, lt)) =
    or_right (nat_lt index (farthest_index farthest)) (flushed flush) (ap flushed e ∙ (Decides-ltb index at.index).1 lt)
  where
    flushed : Option Position → Bool
    flushed g = elim g [ Some at ↦ nat_lt index at.index | None ↦ false ]

some_of : {X : Type 0} (o : Option X) → is_some o ≡ true → (x : X) × (o ≡ Some x)
some_of None e = absurd (clash e)
some_of (Some x) e = (x, refl)

no_end_found : (at : Position) → None ≡ Some at → ⊥
no_end_found at e = cc

-- an end of a block is one of its source symbols
found_in : (test : Position → Bool) (index block n first : ℕ) (at : Position)
    → find test (map (λ symbol. position index block symbol) (range_with_len first n)) ≡ Some at
    → (symbol : ℕ) × (at ≡ position index block symbol) × (test (position index block symbol) ≡ true)
found_in test index block zero first at e = absurd (no_end_found at e)
found_in test index block (suc n) first at e = go (test (position index block first)) refl e (found_in test index block n (first + 1) at)
  where
    rest : Option Position
    rest = find test (map (λ symbol. position index block symbol) (range_with_len (first + 1) n))

    this : (x y : Position) → Some x ≡ Some y → y ≡ x
    this x y f = cc

    go : (b : Bool) → test (position index block first) ≡ b → cond b (Some (position index block first)) rest ≡ Some at
        → (rest ≡ Some at → (symbol : ℕ) × (at ≡ position index block symbol) × (test (position index block symbol) ≡ true))
        → (symbol : ℕ) × (at ≡ position index block symbol) × (test (position index block symbol) ≡ true)
    go true is f more = (first, this (position index block first) at f, is)
    go false is f more = more f

two_true : (a b : Bool) → (a && b) ≡ true → (a ≡ true) × (b ≡ true)
two_true true b e = (refl, e)
two_true false b e = absurd (clash e)

-- an end is one of the block of a held symbol
end_held : (p : Settings) (s : Holding) (plan : Plan) (q seen : Held → Bool) (held : List Held) (at : Position) → list_all seen held ≡ true
    → end_among p s plan (filter q held) ≡ Some at
    → (h : Held) × (q h ≡ true) × (seen h ≡ true) × (end_in p s plan h.at.block ≡ Some at)
unfolding end_among
end_held p s plan q seen [] at all e = absurd (no_end_found at e)
end_held p s plan q seen (h ∷ held) at all e = go (q h) refl e (λ f. end_held p s plan q seen held at (two_true (seen h) (list_all seen held) all).1 f)
  where
    Found : Type 0
    Found = (x : Held) × (q x ≡ true) × (seen x ≡ true) × (end_in p s plan x.at.block ≡ Some at)

    own : q h ≡ true → (o : Option Position) → end_in p s plan h.at.block ≡ o → (end_among p s plan (filter q held) ≡ Some at → Found)
        → elim o as (λ _. Option Position) [ Some found ↦ Some found | None ↦ end_among p s plan (filter q held) ] ≡ Some at → Found
    own is None none more f = more f
    own is (Some found) one more f = (h, is, (two_true (seen h) (list_all seen held) all).0, one ∙ f)

    go : (b : Bool) → q h ≡ b → end_among p s plan (cond b (h ∷ filter q held) (filter q held)) ≡ Some at
        → (end_among p s plan (filter q held) ≡ Some at → Found) → Found
    go true is f more = own is (end_in p s plan h.at.block) refl more f
    go false is f more = more f

le_of : (a b : ℕ) → nat_le a b ≡ true → a ≤ b
le_of a b e = go (leb_tells a b)
  where
    go : ((nat_le a b ≡ true) × (a ≤ b)) ⊎ ((nat_le a b ≡ false) × (b < a)) → a ≤ b
    go (inl so) = so.1
    go (inr not_so) = absurd (clash (sym not_so.0 ∙ e))

-- of a stream that the sender is past the next segment is not there, and yet its end is
module _ (p : Settings) (s : ReceiverState) (plan : Plan) (passed : HasPassed p s.holding) (seen : each_was_seen s.holding ≡ true)
    (found : plan_of s.holding s.holding.point.index ≡ Some plan) (stream : says_stream plan.flags ≡ true) where
  here : s.holding.point.index ≡ plan.index
  here = sym (index_of_found s.holding.point.index s.holding.plans plan found)

  is_passed : IsPassed p s.holding plan
  is_passed =
      let Of : Bool → Type 0 = λ b. elim b as (λ _. Type 0) [ true ↦ IsPassed p s.holding plan | false ↦ IsAtStart s.holding ] in
      let P : Option Plan → Type 0 = λ o. PassedBy p s.holding o in
      subst Of stream (subst P found passed)

  first_is : first_block s.holding plan.index ≡ s.holding.point.block
  first_is = ap (λ b. elim b [ true ↦ s.holding.point.block | false ↦ 0 ]) ((Decides-eqb s.holding.point.index plan.index).1 here)

  -- where the next segment has a value it is handed up
  next_none : hands_one p s.holding ≡ None → has_its_info s.holding plan ≡ true → next_segment s.holding plan ≡ None
  next_none stuck info = go (next_segment s.holding plan) refl (sym (ap next info) ∙ sym (ap kinds stream) ∙ sym (ap of_plan found) ∙ stuck)
    where
      of_value : Option (List ℕ) → Option Holding
      of_value o = elim o [ Some symbol ↦ Some (hands_segment p s.holding plan symbol) | None ↦ None ]

      next : Bool → Option Holding
      next b = elim b as (λ _. Option Holding) [ true ↦ of_value (next_segment s.holding plan) | false ↦ None ]

      kinds : Bool → Option Holding
      kinds b = elim b [ true ↦ hands_next p s.holding plan | false ↦ hands_object s.holding plan ]

      of_plan : Option Plan → Option Holding
      of_plan o = elim o as (λ _. Option Holding) [
        | Some plan ↦ elim (says_stream plan.flags) [ true ↦ hands_next p s.holding plan | false ↦ hands_object s.holding plan ]
        | None ↦ None
      ]

      never : (x : Holding) → Some x ≡ None → ⊥
      never x e = cc

      go : (o : Option (List ℕ)) → next_segment s.holding plan ≡ o → of_value o ≡ None → next_segment s.holding plan ≡ None
      go None is e = is
      go (Some symbol) is e = absurd (never (hands_segment p s.holding plan symbol) e)

  no_value : next_segment s.holding plan ≡ None → IsThere s.holding plan (position plan.index s.holding.point.block s.holding.point.symbol) → ⊥
  no_value none there =
      let value = there_value s.holding plan s.holding.point.block s.holding.point.symbol stream there in
      never value.0 (sym value.1 ∙ none)
    where
      never : (octets : List ℕ) → Some octets ≡ None → ⊥
      never octets e = cc

  abbrev ends : Option (List ℕ) → Bool
  ends o = elim o [ Some octets ↦ segment_length p octets == 0 | None ↦ false ]

  -- an end that is held is one of a block that was seen, from the hand-up point's on
  end_is : (end : Position) → end_of p s.holding plan ≡ Some end
      → (symbol : ℕ) × (block : ℕ) × (end ≡ position plan.index block symbol) × (is_end p s.holding plan (position plan.index block symbol) ≡ true)
      × (s.holding.point.block ≤ block) × (block ≤ plan.seen)
  end_is end e =
      let h = end_held p s.holding plan (λ (h : Held). h.at.index == plan.index && nat_le (first_block s.holding plan.index) h.at.block)
      (λ (h : Held). was_seen (plan_of s.holding h.at.index) h.at.block) s.holding.held end seen e in
      let tests = two_true (h.0.at.index == plan.index) (nat_le (first_block s.holding plan.index) h.0.at.block) h.1 in
      let is = found_in (is_end p s.holding plan) plan.index h.0.at.block (source_symbols (cut_of_plan plan) h.0.at.block) 0 end h.3 in
      let same : plan_of s.holding h.0.at.index ≡ Some plan =
      ap (λ n. plan_of s.holding n) ((Decides-eqb h.0.at.index plan.index).0 tests.0 ∙ sym here) ∙ found in
      let was : was_seen (Some plan) h.0.at.block ≡ true = sym (ap (λ (o : Option Plan). was_seen o h.0.at.block) same) ∙ h.2 in
      let le : nat_le h.0.at.block plan.seen ≡ true = sym (ap (λ b. not b || nat_le h.0.at.block plan.seen) stream) ∙ was in (
        is.0,
        h.0.at.block,
        is.1,
        is.2,
        subst (λ n. n ≤ h.0.at.block) first_is (le_of (first_block s.holding plan.index) h.0.at.block tests.1),
        le_of h.0.at.block plan.seen le,
      )

  stream_not_there : hands_one p s.holding ≡ None → open_block s.holding plan ≤ last_block
      → IsPast s.knows.farthest s.knows.flush plan.index → IsThereByPlan p s.knows.farthest s.knows.flush s.holding plan → ⊥
  stream_not_there stuck left past there =
      let covered = past_covered s.knows.farthest s.knows.flush plan.index past in
      let none = next_none stuck (there.info covered) in
      let is = there.stream stream in
      let end = some_of (end_of p s.holding plan) (is.has_end (past_behind s.knows.farthest s.knows.flush plan.index past) left) in
      let at = end_is end.0 end.1 in
      go none is covered end.0 end.1 at.0 at.1 at.2 at.3 at.5 (cases_lt s.holding.point.block at.1) at.4
    where
      go : next_segment s.holding plan ≡ None → StreamIsThere p s.knows.farthest s.knows.flush s.holding plan
          → is_covered s.knows.farthest s.knows.flush plan.index ≡ true → (end : Position) → end_of p s.holding plan ≡ Some end
          → (symbol block : ℕ) → end ≡ position plan.index block symbol → is_end p s.holding plan (position plan.index block symbol) ≡ true
          → block ≤ plan.seen → (s.holding.point.block < block) ⊎ (block ≤ s.holding.point.block) → s.holding.point.block ≤ block → ⊥
      go none is covered end e symbol block same ends_here seen_to (inl later) from =
          no_value none (inl (is.earlier s.holding.point.block (let z = first_is in omega arith) (inl (omega arith))))
      go none is covered end e symbol block same ends_here seen_to (inr ge) from =
          by (cases_lt symbol s.holding.point.symbol) (cases_lt s.holding.point.symbol symbol)
        where
          in_block : block ≡ s.holding.point.block
          in_block = omega arith

          own : is_end p s.holding plan (position plan.index s.holding.point.block symbol) ≡ true
          own = subst (λ n. is_end p s.holding plan (position plan.index n symbol) ≡ true) in_block ends_here

          by : (symbol < s.holding.point.symbol) ⊎ (s.holding.point.symbol ≤ symbol)
              → (s.holding.point.symbol < symbol) ⊎ (symbol ≤ s.holding.point.symbol) → ⊥
          by (inl before) other = clash (sym (is_passed.no_end symbol before) ∙ own)
          by (inr le) (inl behind) =
              let to : IsThere s.holding plan (position plan.index end.block s.holding.point.symbol) =
              is.to_end covered end e s.holding.point.symbol (let z = ap (λ (x : Position). x.symbol) same in omega arith) in
              let T : ℕ → Type 0 = λ n. IsThere s.holding plan (position plan.index n s.holding.point.symbol) in
              no_value none (subst T (ap (λ (x : Position). x.block) same ∙ in_block) to)
          by (inr le) (inr ge') =
              let at : symbol ≡ s.holding.point.symbol = omega arith in
              let mine : is_end p s.holding plan (position plan.index s.holding.point.block s.holding.point.symbol) ≡ true =
              subst (λ n. is_end p s.holding plan (position plan.index s.holding.point.block n) ≡ true) at own in
              clash (sym (ap ends none) ∙ mine)

stream_first : (p : Settings) (s : ReceiverState) (plan : Plan) → HasPassed p s.holding → each_was_seen s.holding ≡ true
    → hands_one p s.holding ≡ None → plan_of s.holding s.holding.point.index ≡ Some plan → says_stream plan.flags ≡ true
    → open_block s.holding plan ≤ last_block → needs_nothing_first p s ≡ true → needs_nothing p s ≡ true
stream_first p s plan passed seen stuck found stream left none =
    (exactly p s).1 (λ index le lt. go index le lt (cases_lt s.holding.point.index index))
  where
    first : ObjectIsThere p s.knows.farthest s.knows.flush s.holding s.holding.point.index (plan_of s.holding s.holding.point.index)
    first = (needs_nil p s s.holding.point.index).0 none

    by_plan : IsThereByPlan p s.knows.farthest s.knows.flush s.holding plan
    by_plan =
        let O : Option Plan → Type 0 = λ o. ObjectIsThere p s.knows.farthest s.knows.flush s.holding s.holding.point.index o in
        subst O found first

    past : (index : ℕ) → s.holding.point.index < index → index < last_known s.knows.farthest s.knows.flush
        → IsPast s.knows.farthest s.knows.flush plan.index
    past index behind lt =
        let P : ℕ → Type 0 = λ n. IsPast s.knows.farthest s.knows.flush n in
        subst P (here p s plan passed seen found stream) (past_of s.knows.farthest s.knows.flush s.holding.point.index index behind lt)

    go : (index : ℕ) → s.holding.point.index ≤ index → index < last_known s.knows.farthest s.knows.flush
        → (s.holding.point.index < index) ⊎ (index ≤ s.holding.point.index)
        → ObjectIsThere p s.knows.farthest s.knows.flush s.holding index (plan_of s.holding index)
    go index le lt (inl behind) =
        absurd (stream_not_there p s plan passed seen found stream stuck left (past index behind lt) by_plan)
    go index le lt (inr ge) =
        let O : ℕ → Type 0 = λ n. ObjectIsThere p s.knows.farthest s.knows.flush s.holding n (plan_of s.holding n) in
        subst O (let same : s.holding.point.index ≡ index = omega arith in same) first

pub front_laws : FrontLaws
front_laws = record { first = nothing_first; stream = stream_first }
