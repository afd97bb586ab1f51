-- A receiver of data and files that has all before what it saw needs nothing.
use Rattle.std.proofs.Common.{◌≡◌, ℕ, zero, suc, ◌+◌, ◌-◌, ◌*◌, ◌/◌, ◌<◌, ◌≤◌, List, [], ◌∷◌, length, Bool, true, false, Option, None, Some, refl, sym, ap, subst, ◌∙◌, arith, inl, inr}
use Rattle.std.specs.Prelude.{◌||◌, ◌⊎◌, min, nat_eq, nat_lt, nat_le, slice_get, is_some, IfSome, IsSomeAnd}
use Rattle.std.specs.List.{AllByRecursion, IsDistinct}
use Rattle.std.proofs.lemmas.Bool.Decides.{Decides-ltb, leb_tells}
use Rattle.norm_base.specs.Settings.{Settings, InRange}
use Rattle.fec_plan.specs.Partition.{Cut, source_symbols, blocks, blocks_in, symbols_in, symbols_before, block_size}
use Rattle.fec_plan.specs.Points.{Point, point, position, point_of}
use Rattle.fec_plan.specs.declared.position.Position.{Position}
use Rattle.fec_plan.proofs.PartitionLemmas.{block_within}
use Rattle.fec_plan.proofs.PointLemmas.{point_before_is, behind_point}
use Rattle.norm_order.specs.Entries.{Object, Whole, Stream, Entry}
use Rattle.norm_order.specs.Shapes.{Shape, shape_of, shapes_of, closed_in, at_index}
use Rattle.norm_receive_rules.specs.Holding.{Holding, Plan}
use Rattle.norm_receive_rules.specs.Needs.{is_covered, farthest_index}
use Rattle.norm_receive_rules.specs.NothingMissing.{BlocksAreThere, IsThereByPlan, ObjectIsThere}
use Rattle.norm_receive_rules.specs.AllNeeds.{needs_nothing}
use Rattle.norm_receive_rules.specs.Plans.{cut_of_plan, says_stream, says_info, plan_of, is_over, holds, is_done, has_its_info, info_of}
use Rattle.norm_receive_rules.specs.ReceiverState.{ReceiverState}
use Rattle.norm_receive_rules.proofs.NeedLemmas.{needs_laws}
use Rattle.norm_send_rules.specs.Messages.{fti_of_object, object_flags}
use Rattle.norm_send_rules.specs.SenderState.{SenderState}
use Rattle.norm_safety.specs.Hands.{hands}
use Rattle.norm_safety.specs.History.{Happening}
use Rattle.norm_safety.specs.InOrder.{drop_of, is_stream_object}
use Rattle.norm_safety.specs.OnceEach.{instance_ids}
use Rattle.norm_safety.specs.WorldStep.{run}
use Rattle.norm_safety.proofs.EntryLemmas.{clash}
use Rattle.norm_safety.proofs.Holding.{HoldsOf, IsPlanOf, flags_say, found_plan}
use Rattle.norm_safety.proofs.ReceiverMoves.{StandingIn}
use Rattle.norm_safety.proofs.SenderHolds.{SenderHolds, current_sized}
use Rattle.norm_safety.proofs.SizedOrders.{IsSized, AreSized}
use Rattle.norm_safety.proofs.Spoken.{sized_at, current_order}
use Rattle.norm_safety.proofs.WorldHolds.{AtReceiver, AtNode}
use Rattle.norm_laws.proofs.Everything.{finished_closed}
use Rattle.norm_laws.proofs.HeldFits.{plan_is}
use Rattle.norm_laws.proofs.HeldLengths.{PlanIs, says_its, its_cut}
use Rattle.norm_laws.proofs.HeldWhole.{block_there}
use Rattle.norm_laws.proofs.PassingTicks.{first_closed}
use Rattle.norm_recovery.specs.SteadyNeeds.{IsHad, InfoIsHad, HadBefore, HadSeen, HadIsNotNeeded}
use Rattle.norm_recovery.proofs.FlushKnown.{after_run}

-- ---- entries of an order

pub entry_within : (order : List Entry) (i : ℕ) → i < length order → (x : Entry) × (slice_get order i ≡ Some x)
entry_within [] i lt = absurd (omega (arith, lt))
entry_within (x ∷ order) zero lt = (x, refl)
entry_within (x ∷ order) (suc i) lt = entry_within order i (omega (arith, lt))

-- a test of an entry is one of its shape in the order
pub shape_at : (p : Settings) (order : List Entry) (i : ℕ) (x : Entry) (test : Shape → Bool) → slice_get order i ≡ Some x → test (shape_of p x.object) ≡ true
    → at_index (shapes_of p order) i false test ≡ true
shape_at p [] i x test found e = absurd (none found)
  where
    none : None ≡ Some x → ⊥
    none e = cc
shape_at p (y ∷ order) zero x test found e = ap (λ (z : Entry). test (shape_of p z.object)) (same found) ∙ e
  where
    same : Some y ≡ Some x → y ≡ x
    same e = cc
shape_at p (y ∷ order) (suc i) x test found e = shape_at p order i x test found e

-- each entry of an order without streams is none
whole_at : (order : List Entry) (i : ℕ) (x : Entry) → AllByRecursion (λ (y : Entry). is_stream_object y.object ≡ false) order → slice_get order i ≡ Some x
    → is_stream_object x.object ≡ false
whole_at [] i x all e = absurd (none e)
  where
    none : None ≡ Some x → ⊥
    none e = cc
whole_at (y ∷ order) zero x all e = subst (λ (z : Entry). is_stream_object z.object ≡ false) (same e) all.0
  where
    same : Some y ≡ Some x → y ≡ x
    same e = cc
whole_at (y ∷ order) (suc i) x all e = whole_at order i x all.1 e

-- each symbol below the source symbols of a block of data or a file is closed
source_closed : (p : Settings) → (object : Object) → is_stream_object object ≡ false → (block symbol : ℕ)
    → symbol < source_symbols (shape_of p object).cut block → block < blocks (shape_of p object).cut → nat_lt symbol (closed_in (shape_of p object) block) ≡ true
source_closed p (Stream parts) whole block symbol lt low = absurd (clash (sym whole))
source_closed p (Whole kind info octets) whole block symbol lt low =
    let t : ℕ = symbols_in (length octets) p.e in
    let n : ℕ = blocks_in t p.b in
    let within = block_within t n block (omega (arith, low)) low in
    (Decides-ltb symbol (closed_in (shape_of p (Whole kind info octets)) block)).1 (inside t n (block_size t n block) within lt)
  where
    inside : (t n size : ℕ) → symbols_before t n block + size ≤ t → symbol < size → symbol < min size (t - (symbols_before t n block + 0))
    inside t n size within lt = omega (arith, within, lt)

-- all of an object is had
record AllHad (p : Settings) (order : List Entry) (h : Holding) (index : ℕ) : Type 0 where
  bound : ℕ
  block : ℕ
  had : HadBefore p order h bound block
  below : index < bound

module _ (p : Settings) (range : InRange p) (order : List Entry) (sized : AreSized p order) (whole : AllByRecursion (λ (x : Entry). is_stream_object x.object ≡ false) order)
    (h : Holding) (plans : AllByRecursion (IsPlanOf p order) h.plans) (farthest : Option Point) (flush : Option Position)
    (far : IfSome farthest (λ (at : Point). HadBefore p order h at.index at.block)) (near : IfSome flush (λ (at : Position). HadBefore p order h (at.index + 1) 0)) where
  -- it is so of a covered one
  covered_had : (index : ℕ) → is_covered farthest flush index ≡ true → AllHad p order h index
  covered_had index e = by_farthest farthest far e
    where
      by_flush : (q : Option Position) → IfSome q (λ (at : Position). HadBefore p order h (at.index + 1) 0) → (elim q as (λ _. Bool) [ Some at ↦ nat_le index at.index | None ↦ false ]) ≡ true
          → AllHad p order h index
      by_flush None had e = absurd (clash e)
      by_flush (Some at) had e = record { bound = at.index + 1; block = 0; had = had; below = (let le = le_true index at.index e in omega (arith, le)) }
        where
          le_true : (a b : ℕ) → nat_le a b ≡ true → a ≤ b
          le_true a b e = go (leb_tells a b)
            where
              go : ((nat_le a b ≡ true) × (a ≤ b)) ⊎ ((nat_le a b ≡ false) × (b < a)) → a ≤ b
              go (inl tells) = tells.1
              go (inr tells) = absurd (clash (sym tells.0 ∙ e))

      by_farthest : (f : Option Point) → IfSome f (λ (at : Point). HadBefore p order h at.index at.block)
          → (nat_lt index (farthest_index f) || (elim flush as (λ _. Bool) [ Some at ↦ nat_le index at.index | None ↦ false ])) ≡ true → AllHad p order h index
      by_farthest None had e = by_flush flush near (sym (ap (λ (b : Bool). b || (elim flush as (λ _. Bool) [ Some at ↦ nat_le index at.index | None ↦ false ])) (none_below index)) ∙ e)
        where
          none_below : (i : ℕ) → nat_lt i 0 ≡ false
          none_below i = go (nat_lt i 0) refl
            where
              go : (b : Bool) → nat_lt i 0 ≡ b → nat_lt i 0 ≡ false
              go false e = e
              go true e = absurd (let lt = (Decides-ltb i 0).0 e in omega (arith, lt))
      by_farthest (Some at) had e = go (nat_lt index at.index) refl e
        where
          go : (b : Bool) → nat_lt index at.index ≡ b → (b || (elim flush as (λ _. Bool) [ Some at ↦ nat_le index at.index | None ↦ false ])) ≡ true → AllHad p order h index
          go true lt e = record { bound = at.index; block = at.block; had = had; below = (Decides-ltb index at.index).0 lt }
          go false lt e = by_flush flush near e

  -- an object that is not over
  not_over : (index : ℕ) → h.point.index ≤ index → is_over h index ≡ true → ⊥
  not_over index le over = let lt = (Decides-ltb index h.point.index).0 over in omega (arith, le, lt)

  -- its plan is known if it is covered
  none_covered : (index : ℕ) → h.point.index ≤ index → plan_of h index ≡ None → is_covered farthest flush index ≡ true → ⊥
  none_covered index le none e =
      let all = covered_had index e in
      let found = entry_within order index (let there = all.had.there in let lt = all.below in omega (arith, there, lt)) in
      let own : IsSized p found.0.object = sized_at p order index found.0 sized found.1 in
      let some : 0 < (shape_of p found.0.object).closed = closed_some found.0.object own (whole_at order index found.0 whole found.1) in
      let first = first_closed p range found.0.object own some in
      had_none (all.had.symbols (position index 0 0) (shape_at p order index found.0 (λ (s : Shape). nat_lt 0 (closed_in s 0)) found.1
      ((Decides-ltb 0 (closed_in (shape_of p found.0.object) 0)).1 first)) (inl all.below))
    where
      closed_some : (object : Object) → IsSized p object → is_stream_object object ≡ false → 0 < (shape_of p object).closed
      closed_some (Whole kind info octets) own w = finished_closed p range (Whole kind info octets) own tt
      closed_some (Stream parts) own w = absurd (clash (sym w))

      had_none : IsHad h (position index 0 0) → ⊥
      had_none (inl over) = not_over index le over
      had_none (inr (plan, known, has)) = differ (sym none ∙ known)
        where
          differ : None ≡ Some plan → ⊥
          differ e = cc

  module _ (index : ℕ) (le : h.point.index ≤ index) (plan : Plan) (known : plan_of h index ≡ Some plan) where
    own_plan : IsPlanOf p order plan × (plan.index ≡ index)
    own_plan = found_plan (IsPlanOf p order) h.plans index plan plans known

    -- a symbol of it that is had is held, or its block is done
    had_held : (block symbol : ℕ) → IsHad h (position plan.index block symbol) → (holds h (position plan.index block symbol) || is_done h plan block) ≡ true
    had_held block symbol (inl over) = absurd (not_over index le (ap (is_over h) (sym own_plan.1) ∙ over))
    had_held block symbol (inr (other, found, has)) =
        let same : other ≡ plan = same_plan (sym found ∙ ap (plan_of h) own_plan.1 ∙ known) in
        subst (λ (q : Plan). (holds h (position plan.index block symbol) || is_done h q block) ≡ true) same has
      where
        same_plan : {a b : Plan} → Some a ≡ Some b → a ≡ b
        same_plan e = cc

    module _ (x : Entry) (found : slice_get order plan.index ≡ Some x) where
      is : PlanIs p x.object plan.fti plan.flags
      is = plan_is p order x plan own_plan.0 found

      its_cuts : cut_of_plan plan ≡ (shape_of p x.object).cut
      its_cuts = its_cut p x.object plan.fti plan.flags is

      no_stream : says_stream plan.flags ≡ false
      no_stream = says_its x.object plan.flags is.flags ∙ whole_at order plan.index x whole found

      infos : is_covered farthest flush plan.index ≡ true → has_its_info h plan ≡ true
      infos e = go (says_info plan.flags) refl
        where
          said : (object : Object) → is_stream_object object ≡ false → 4 * (plan.flags / 4) ≡ object_flags object → says_info plan.flags ≡ true → (shape_of p object).info ≡ true
          said (Whole kind info octets) w flags says = sym (flags_say plan.flags kind info octets flags).infos ∙ says
          said (Stream parts) w flags says = absurd (clash (sym w))

          had : InfoIsHad h plan.index → is_some (info_of h plan.index) ≡ true
          had (inl over) = absurd (not_over index le (ap (is_over h) (sym own_plan.1) ∙ over))
          had (inr some) = some

          go : (b : Bool) → says_info plan.flags ≡ b → (elim b as (λ _. Bool) [ true ↦ is_some (info_of h plan.index) | false ↦ true ]) ≡ true
          go false says = refl
          go true says =
              let all = covered_had plan.index e in
              had (all.had.infos plan.index (shape_at p order plan.index x (λ (s : Shape). s.info) found
              (said x.object (whole_at order plan.index x whole found) is.flags says)) all.below)

      -- each source symbol of a block before what was seen is had
      block_done : (block bound last : ℕ) → block < blocks (cut_of_plan plan) → HadBefore p order h bound last → (plan.index < bound) ⊎ ((plan.index ≡ bound) × (block < last))
          → is_done h plan block ≡ true
      block_done block bound last low had before =
          block_there h plan block (λ symbol lt. had_held block symbol (had.symbols (position plan.index block symbol)
          (shape_at p order plan.index x (λ (s : Shape). nat_lt symbol (closed_in s block)) found
          (source_closed p x.object (whole_at order plan.index x whole found) block symbol
          (subst (λ (c : Cut). symbol < source_symbols c block) its_cuts lt) (subst (λ (c : Cut). block < blocks c) its_cuts low))) before))

      there : BlocksAreThere farthest flush h plan
      there block low (inl (at, seen, before)) =
          let had = subst (λ (f : Option Point). IfSome f (λ (q : Point). HadBefore p order h q.index q.block)) seen far in
          block_done block at.index at.block low had (point_before_is (point plan.index block) at before)
      there block low (inr (at, seen, behind)) =
          let had = subst (λ (f : Option Position). IfSome f (λ (q : Position). HadBefore p order h (q.index + 1) 0)) seen near in
          block_done block (at.index + 1) 0 low had (inl (upto (behind_point (point_of at) (point plan.index block) behind)))
        where
          upto : (plan.index < at.index) ⊎ ((plan.index ≡ at.index) × (block ≤ at.block)) → plan.index < at.index + 1
          upto (inl lt) = omega (arith, lt)
          upto (inr (same, low)) = omega (arith, same)

      by_plan : IsThereByPlan p farthest flush h plan
      by_plan = record {
        info = infos;
        octets = λ none. there;
        stream = λ says. absurd (clash (sym no_stream ∙ says));
      }

    planned : IsThereByPlan p farthest flush h plan
    planned = some_entry (slice_get order plan.index) refl own_plan.0
      where
        some_entry : (found : Option Entry) → slice_get order plan.index ≡ found → IsSomeAnd found (λ (x : Entry).
            (plan.fti ≡ fti_of_object p x.object) × (4 * (plan.flags / 4) ≡ object_flags x.object)) → IsThereByPlan p farthest flush h plan
        some_entry None e some = absurd some
        some_entry (Some x) e some = by_plan x e

  is_there : (index : ℕ) → h.point.index ≤ index → (found : Option Plan) → plan_of h index ≡ found → ObjectIsThere p farthest flush h index found
  is_there index le (Some plan) known = planned index le plan known
  is_there index le None none = go (is_covered farthest flush index) refl
    where
      go : (b : Bool) → is_covered farthest flush index ≡ b → is_covered farthest flush index ≡ false
      go true e = absurd (none_covered index le none e)
      go false e = e

-- A receiver of a sender's instance that has all before what it saw needs nothing.
pub needs_none : (p : Settings) → InRange p → (s : SenderState) (past : List Happening) (node : ℕ) (r : ReceiverState) → SenderHolds p s
    → IsDistinct nat_eq (instance_ids s) → AllByRecursion (λ (x : Entry). is_stream_object x.object ≡ false) s.current.order → AtReceiver p s past node r
    → r.instance ≡ Some s.current.id → HadSeen p s.current.order r → needs_nothing p r ≡ true
needs_none p range s past node r sender ids whole here inside had =
    let S : Option ℕ → Type 0 = λ instance. StandingIn p s (hands past node) r instance in
    let H : List Entry → Type 0 = λ order. HoldsOf p order (drop_of s s.current.id) (hands past node s.current.id) r.knows.due r.holding in
    let holds = subst H (current_order s ids) (subst S inside here.stands) in
    (needs_laws.exact p r).1 (λ index le lt. is_there p range s.current.order (current_sized p s sender) whole r.holding holds.plans r.knows.farthest r.knows.flush
    had.farthest had.flush index le (plan_of r.holding index) refl)

pub had_is_not_needed : HadIsNotNeeded
had_is_not_needed p range events lawful are whole node r found inside had =
    let s : SenderState = (run p events).sender in
    let k = after_run p range events lawful are in
    let here : AtReceiver p s k.past node r = subst (AtNode p s k.past node) found (k.holds.nodes node) in
    needs_none p range s k.past node r k.holds.sender k.holds.once.ids whole here inside had
