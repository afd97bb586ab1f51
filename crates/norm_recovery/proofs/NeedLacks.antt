-- Of each need of a member there is something of the window that it does not have.
use Rattle.std.proofs.Common.{◌≡◌, ℕ, zero, suc, ◌+◌, ◌-◌, ◌*◌, ◌/◌, ◌<◌, ◌≤◌, cond, List, [], ◌∷◌, ◌++◌, length, map, filter, Bool, true, false, Option, None, Some, refl, sym, ap, ◌∙◌, subst, arith, ◌⊎◌, inl, inr}
use Rattle.std.specs.Prelude.{Contains, ◌==◌, ◌&&◌, ◌||◌, not, nat_lt, nat_le, min, is_some, slice_get, IfSome, ⊤}
use Rattle.std.specs.List.{AllByRecursion, list_any, range_with_len}
use Rattle.std.specs.Option.{option_map}
use Rattle.std.proofs.lemmas.Bool.{cases_lt}
use Rattle.std.proofs.lemmas.Bool.Decides.{Decides-eqb, Decides-ltb, leb_tells}
use Rattle.std.proofs.lemmas.List.{length-map}
use Rattle.std.proofs.lemmas.Option.{slice_get-map, slice_get_within}
use Rattle.norm_base.specs.Members.{receivers_of}
use Rattle.norm_base.specs.Settings.{Settings, InRange}
use Rattle.norm_base.specs.declared.kinds.Mode.TheVariants.{Hold}
use Rattle.norm_base.specs.declared.node.Origin.{Origin}
use Rattle.fec_plan.specs.Partition.{Cut, source_symbols}
use Rattle.fec_plan.specs.Points.{Point, point, point_of, position, point_before}
use Rattle.fec_plan.specs.declared.position.Position.{Position}
use Rattle.fec_plan.proofs.PointLemmas.{behind_point, not_before}
use Rattle.norm_order.specs.Entries.{Object, Whole, Stream, Entry}
use Rattle.norm_order.specs.Sets.{is_member}
use Rattle.norm_order.specs.Shapes.{Shape, shape_of, closed_in, encoded_in, symbols_of, is_full, is_source, has_info}
use Rattle.norm_receive_rules.specs.AllNeeds.{planned_needs, needs_of, needs_from, last_known, needs_by, needs}
use Rattle.norm_receive_rules.specs.HeardNeeds.{width_of}
use Rattle.norm_receive_rules.specs.Holding.{Holding, Plan, Held, holding_nothing}
use Rattle.norm_receive_rules.specs.Lazy.{Lazy, Nil, Next, followed_by, lazily, all_of}
use Rattle.norm_receive_rules.specs.Leaving.{is_in}
use Rattle.norm_receive_rules.specs.NackLaws.{width_at}
use Rattle.norm_receive_rules.specs.Needs.{Need, Object as Unknown, ObjectInfo, Symbols, Source, Rest, farthest_index, is_covered, info_needs, blocks_due, counts_from, object_needs, unknown_needs}
use Rattle.norm_receive_rules.specs.Plans.{cut_of_plan, says_stream, says_info, plan_of, is_over, held_of, holds, lacking, info_of, has_its_info}
use Rattle.norm_receive_rules.specs.ReceiverState.{ReceiverState, receiver_opening}
use Rattle.norm_receive_rules.specs.StreamNeeds.{stream_needs}
use Rattle.norm_receive_rules.proofs.HandUpLemmas.{index_of_found}
use Rattle.norm_send_rules.specs.InWindow.{stands_behind, current_shapes}
use Rattle.norm_send_rules.specs.Messages.{object_flags}
use Rattle.norm_send_rules.specs.Repairable.{is_stream, streams}
use Rattle.norm_send_rules.specs.SenderState.{SenderState}
use Rattle.norm_send_rules.specs.Wants.{want_before}
use Rattle.norm_send_rules.specs.Watermarks.{has_member}
use Rattle.norm_send_rules.specs.declared.want.Want.{Want}
use Rattle.norm_send_rules.specs.declared.want.Want.TheVariants as want
use Rattle.norm_send_rules.proofs.CutNames.{cut_range, is_sound}
use Rattle.norm_send_rules.proofs.ShapeLemmas.{blocks_of, shape_parity, closed_is_encoded}
use Rattle.norm_safety.specs.Events.{Event}
use Rattle.norm_safety.specs.Hands.{hands}
use Rattle.norm_safety.specs.History.{Happening}
use Rattle.norm_safety.specs.InOrder.{is_stream_object, drop_of}
use Rattle.norm_safety.specs.Jobs.{AreEvents}
use Rattle.norm_safety.specs.Lawful.{accepted_with, LawfulFrom, Lawful}
use Rattle.norm_safety.specs.World.{World, world_opening, receiver_at}
use Rattle.norm_safety.specs.WorldStep.{world_step, run_from, run}
use Rattle.norm_safety.proofs.EntryLemmas.{clash}
use Rattle.norm_safety.proofs.Holding.{IsPlanOf, HoldsOf, found_plan, some_and, flags_say}
use Rattle.norm_safety.proofs.OrderRun.{happening, found_holds, event_holds, opening_world}
use Rattle.norm_safety.proofs.Passed.{StandsIn, StandsAt}
use Rattle.norm_safety.proofs.PleaNeeds.{Each, IsNeedOf, each_all, each_need}
use Rattle.norm_safety.proofs.ReceiverMoves.{StandingIn, in_instance_is}
use Rattle.norm_safety.proofs.SeenPasses.{FlushSeen, SeenIn, SeenBy, SeenAt, SeenWorld, event_seen, opening_seen}
use Rattle.norm_safety.proofs.SenderHolds.{current_sized}
use Rattle.norm_safety.proofs.SizedOrders.{IsSized, AreSized}
use Rattle.norm_safety.proofs.Spoken.{current_order}
use Rattle.norm_safety.proofs.WorldHolds.{AtReceiver, AtNode, WorldHolds}
use Rattle.norm_laws.proofs.HeldLengths.{PlanIs, says_its, its_cut}
use Rattle.norm_laws.proofs.PassingTicks.{first_closed}
use Rattle.norm_recovery.specs.Left.{in_window, is_there, is_complete, is_had}
use Rattle.norm_recovery.specs.NeedLacks.{LacksOf, NeedLacks}
use Rattle.norm_recovery.specs.RoundAsks.{IsOfNeed, is_info_or_source, IsNarrow}
use Rattle.norm_recovery.proofs.ClosingHad.{is_missing, none_member, both_false, or_true}
use Rattle.norm_recovery.proofs.ClosingHelps.{within}
use Rattle.norm_recovery.proofs.ClosingLists.{In, in_all, in_contained, more_mapped, many_pass, some_fails}
use Rattle.norm_recovery.proofs.FlushKnown.{HoldsIn, after_run}
use Rattle.norm_recovery.proofs.FlushLacks.{none_in_window}
use Rattle.norm_recovery.proofs.MembersTail.{stands_in_run}
use Rattle.norm_recovery.proofs.PassTurn.{After, Still, Steps, Before, before}
use Rattle.norm_recovery.proofs.NeedHeld.{has_plan, ArePlanned, none_has, planned_step}

-- ---- what each need says of what is held

-- what a need of data or a file says: its object is at the hand-up point or behind it, and has no plan, or lacks its info or symbols of a block
abbrev pub Says : Option Point → Option Position → Holding → Need → Type 0
Says farthest flush h (Unknown index) = (h.point.index ≤ index) × (plan_of h index ≡ None) × (is_covered farthest flush index ≡ true)
Says farthest flush h (ObjectInfo index) = (h.point.index ≤ index) × (plan : Plan) × (plan_of h index ≡ Some plan) × (has_its_info h plan ≡ false)
Says farthest flush h (Symbols index block wanted) =
    (h.point.index ≤ index) × (plan : Plan) × (plan_of h index ≡ Some plan) × (lacking h plan block ≡ wanted) × (0 < wanted)
Says farthest flush h (Source at) = ⊥
Says farthest flush h (Rest index block) = ⊥

-- no object at the hand-up point or behind it is a stream
abbrev pub NoStreams : Holding → Type 0
NoStreams h = (index : ℕ) (plan : Plan) → h.point.index ≤ index → plan_of h index ≡ Some plan → says_stream plan.flags ≡ false

each_followed : (P : Need → Type 0) (xs : Lazy Need) (more : ⊤ → Lazy Need) → Each P xs → Each P (more tt) → Each P (followed_by xs more)
unfolding followed_by
each_followed P Nil more h g = g
each_followed P (Next need rest) more h g = (h.0, each_followed P (rest tt) more h.1 g)

each_lazily : (P : Need → Type 0) (xs : List Need) → AllByRecursion P xs → Each P (lazily xs)
unfolding lazily
each_lazily P [] all = tt
each_lazily P (need ∷ xs) all = (all.0, each_lazily P xs all.1)

module _ (p : Settings) (farthest : Option Point) (flush : Option Position) (h : Holding) where
  abbrev S : Need → Type 0
  S = Says farthest flush h

  each_count : (plan : Plan) → plan_of h plan.index ≡ Some plan → h.point.index ≤ plan.index → (n block : ℕ) → Each S (counts_from h plan n block)
  unfolding counts_from
  each_count plan known le zero block = tt
  each_count plan known le (suc n) block = go (lacking h plan block) refl (each_count plan known le n (suc block))
    where
      go : (lack : ℕ) → lacking h plan block ≡ lack → Each S (counts_from h plan n (suc block)) → Each S (elim lack [
        | zero ↦ counts_from h plan n (suc block)
        | suc less ↦ Next (Symbols plan.index block (suc less)) (λ u. counts_from h plan n (suc block))
      ])
      go zero e more = more
      go (suc less) e more = ((le, plan, known, e, omega arith), more)

  each_planned : (plan : Plan) → plan_of h plan.index ≡ Some plan → h.point.index ≤ plan.index
      → says_stream plan.flags ≡ false → Each S (planned_needs p farthest flush h plan)
  each_planned plan known le none =
      each_followed S (lazily (info_needs h plan (is_covered farthest flush plan.index)))
      (λ u. elim (says_stream plan.flags) [ true ↦ stream_needs p farthest flush h plan | false ↦ object_needs farthest flush h plan ])
      (each_lazily S (info_needs h plan (is_covered farthest flush plan.index))
      (infos (is_covered farthest flush plan.index) (has_its_info h plan) refl))
      (kind (says_stream plan.flags) none)
    where
      infos : (covered has : Bool) → has_its_info h plan ≡ has → AllByRecursion S (elim (covered && not has) [ true ↦ ObjectInfo plan.index ∷ [] | false ↦ [] ])
      infos true true e = tt
      infos true false e = ((le, plan, known, e), tt)
      infos false has e = tt

      kind : (b : Bool) → b ≡ false → Each S (elim b [ true ↦ stream_needs p farthest flush h plan | false ↦ object_needs farthest flush h plan ])
      kind true e = absurd (clash (sym e))
      kind false e = each_count plan known le (blocks_due farthest flush plan.index _) 0

  each_of : NoStreams h → (index : ℕ) → h.point.index ≤ index
      → Each S (needs_of p farthest flush h index)
  each_of none index le = go (plan_of h index) refl
    where
      unknown : plan_of h index ≡ None → (b : Bool) → is_covered farthest flush index ≡ b → AllByRecursion S (elim b [ true ↦ Unknown index ∷ [] | false ↦ [] ])
      unknown e true is = ((le, e, is), tt)
      unknown e false is = tt

      go : (found : Option Plan) → plan_of h index ≡ found → Each S (elim found [
        | Some plan ↦ planned_needs p farthest flush h plan
        | None ↦ lazily (unknown_needs index (is_covered farthest flush index))
      ])
      go (Some plan) e =
          let same = index_of_found index h.plans plan e in
          each_planned plan (ap (plan_of h) same ∙ e) (omega (arith, same, le)) (none index plan le e)
      go None e = each_lazily S (unknown_needs index (is_covered farthest flush index)) (unknown e (is_covered farthest flush index) refl)

  each_from : NoStreams h → (n index : ℕ) → h.point.index ≤ index
      → Each S (needs_from n p farthest flush h index)
  unfolding needs_from
  each_from none zero index le = tt
  each_from none (suc n) index le =
      each_followed S (needs_of p farthest flush h index) (λ u. needs_from n p farthest flush h (suc index)) (each_of none index le)
      (each_from none n (suc index) (omega (arith, le)))

  pub each_says : NoStreams h → Each S (needs_by p farthest flush h)
  each_says none = each_from none (last_known farthest flush - h.point.index) h.point.index (omega arith)

-- ---- the symbols that are held of a block, counted by their places

either_few : {X : Type 0} (a b : X → Bool) (xs : List X) → length (filter (λ x. a x || b x) xs) ≤ length (filter a xs) + length (filter b xs)
either_few a b [] = omega arith
either_few {X} a b (x ∷ xs) = go (a x) (b x) (either_few a b xs)
  where
    both : List X
    both = filter (λ y. a y || b y) xs

    go : (c d : Bool) → length both ≤ length (filter a xs) + length (filter b xs)
        → length (cond (c || d) (x ∷ both) both) ≤ length (cond c (x ∷ filter a xs) (filter a xs)) + length (cond d (x ∷ filter b xs) (filter b xs))
    go true true le = omega (arith, le)
    go true false le = omega (arith, le)
    go false true le = omega (arith, le)
    go false false le = le

none_passes : {X : Type 0} (f : ℕ → X) (test : X → Bool) (n from : ℕ) → ((i : ℕ) → from ≤ i → test (f i) ≡ false) → length (filter test (map f (range_with_len from n))) ≤ 0
none_passes f test zero from none = omega arith
none_passes {X} f test (suc n) from none = go (test (f from)) (none from (omega arith)) (none_passes f test n (from + 1) (λ i le. none i (omega (arith, le))))
  where
    rest : List X
    rest = filter test (map f (range_with_len (from + 1) n))

    go : (b : Bool) → b ≡ false → length rest ≤ 0 → length (cond b (f from ∷ rest) rest) ≤ 0
    go true e le = absurd (clash (sym e))
    go false e le = le

-- one number is there once
once_there : (index block m n from : ℕ) → length (filter (λ (x : Position). m == x.symbol) (map (λ i. position index block i) (range_with_len from n))) ≤ 1
once_there index block m zero from = omega arith
once_there index block m (suc n) from =
    go (m == from) refl (once_there index block m n (from + 1))
    (λ same. none_passes (λ i. position index block i) (λ (x : Position). m == x.symbol) n (from + 1) (λ i le. differ i (omega (arith, le, same))))
  where
    rest : List Position
    rest = filter (λ (x : Position). m == x.symbol) (map (λ i. position index block i) (range_with_len (from + 1) n))

    differ : (i : ℕ) → m < i → (m == i) ≡ false
    differ i lt = by (m == i) refl
      where
        by : (b : Bool) → (m == i) ≡ b → b ≡ false
        by true e = absurd (let same = (Decides-eqb m i).0 e in omega (arith, lt, same))
        by false e = refl

    go : (b : Bool) → (m == from) ≡ b → length rest ≤ 1 → (m ≡ from → length rest ≤ 0) → length (cond b (position index block from ∷ rest) rest) ≤ 1
    go true e more few = let le = few ((Decides-eqb m from).0 e) in omega (arith, le)
    go false e more few = more

few_held : (index block n : ℕ) (held : List Held)
    → length (filter (λ (x : Position). list_any (λ (y : Held). y.at.symbol == x.symbol) held) (map (λ i. position index block i) (range_with_len 0 n))) ≤ length held
few_held index block n [] = none_passes (λ i. position index block i) (λ (x : Position). false) n 0 (λ i le. refl)
few_held index block n (y ∷ held) =
    let places : List Position = map (λ i. position index block i) (range_with_len 0 n) in
    let some = either_few (λ (x : Position). y.at.symbol == x.symbol) (λ (x : Position). list_any (λ (z : Held). z.at.symbol == x.symbol) held) places in
    let one = once_there index block y.at.symbol n 0 in
    let more = few_held index block n held in
    omega (arith, some, one, more)

-- as many are there as are held of the block, at most
pub few_there : (h : Holding) (index block n : ℕ) → length (filter (is_there [] h) (symbols_of index n block)) ≤ length (held_of h index block)
few_there h index block n =
    let le = more_mapped (λ i. position index block i) (is_there [] h) (λ (x : Position). list_any (λ (y : Held). y.at.symbol == x.symbol) (held_of h index block)) (range_with_len 0 n)
    (λ i e. own (holds h (position index block i)) (is_member want_before (want.Symbol (position index block i)) []) (none_member (want.Symbol (position index block i))) e) in
    let few = few_held index block n (held_of h index block) in omega (arith, le, few)
  where
    own : (a b : Bool) → b ≡ false → (a || b) ≡ true → a ≡ true
    own true b e f = refl
    own false true e f = absurd (clash (sym e))
    own false false e f = absurd (clash f)

-- ---- a holding of the order

-- What a member holds: plans of the order, symbols of planned objects alone, and it stands at the drop point or past it, with no stream behind that.
pub record Holds (p : Settings) (s : SenderState) (h : Holding) : Type 0 where
  pub plans : AllByRecursion (IsPlanOf p s.current.order) h.plans
  pub planned : ArePlanned h
  pub front : point_before (point_of h.point) s.current.drop ≡ false
  pub stands : StandsAt p (slice_get s.current.order h.point.index) h.point.block h.point.symbol
  pub none : streams s ≡ 0
  pub sized : AreSized p s.current.order

-- Of a need, an info or a closed source symbol of the window that is not had.
pub record NotHad (p : Settings) (s : SenderState) (h : Holding) (need : Need) : Type 0 where
  pub y : Want
  pub there : In y (in_window p s)
  pub lacks : is_had [] p s h y ≡ false
  pub of : IsOfNeed need y
  pub narrow : IsNarrow (width_at h need) y
  pub source : is_info_or_source (current_shapes p s) y ≡ true

module _ (p : Settings) (range : InRange p) (s : SenderState) (h : Holding) (k : Holds p s h) where
  abbrev order : List Entry
  order = s.current.order

  abbrev d : Point
  d = s.current.drop

  pub low : d.index ≤ h.point.index
  low = let past = behind_point (point_of h.point) d k.front in omega (arith, past)

  pub no_stream : (index : ℕ) (x : Entry) → h.point.index ≤ index → slice_get order index ≡ Some x → is_stream x ≡ false
  no_stream index x le found = none_in_window d.index order index x k.none (let least = low in omega (arith, least, le)) found

  -- an entry's shape
  pub shape_found : (index : ℕ) (x : Entry) → slice_get order index ≡ Some x → slice_get (current_shapes p s) index ≡ Some (shape_of p x.object)
  shape_found index x found =
      slice_get-map (λ (e : Entry). shape_of p e.object) order index ∙ ap (option_map (λ (e : Entry). shape_of p e.object)) found

  -- the entry of a plan
  pub entry_of : (index : ℕ) (plan : Plan) → plan_of h index ≡ Some plan → (x : Entry) × (slice_get order index ≡ Some x) × PlanIs p x.object plan.fti plan.flags
  entry_of index plan known =
      let of = found_plan (IsPlanOf p order) h.plans index plan k.plans known in
      let x = some_and _ (slice_get order plan.index) of.0 in
      (x.0, ap (slice_get order) (sym of.1) ∙ x.1, record { fti = x.2.0; flags = x.2.1 })

  kind_is : (x : Entry) → is_stream x ≡ false → (o : Object) → x.object ≡ o → (elim o as (λ _. Bool) [ Whole kind info octets ↦ false | Stream parts ↦ true ]) ≡ false
  kind_is x e o is = ap (λ (z : Object). elim z as (λ _. Bool) [ Whole kind info octets ↦ false | Stream parts ↦ true ]) (sym is) ∙ e

  -- whatever is of an object at the hand-up point or behind it stands behind the drop point
  pub block_zero : (x : Entry) → slice_get order h.point.index ≡ Some x → h.point.block ≡ 0
  block_zero x found = go x.object refl (no_stream h.point.index x (omega arith) found)
    where
      S : Option Entry → Type 0
      S o = StandsAt p o h.point.block h.point.symbol

      go : (o : Object) → x.object ≡ o → is_stream x ≡ false → h.point.block ≡ 0
      go (Whole kind info octets) e whole =
          let O : Object → Type 0 = λ z. StandsIn p z h.point.block h.point.symbol in
          let both = subst O e (subst S found k.stands) in both.0
      go (Stream parts) e whole = absurd (clash (sym (kind_is x whole (Stream parts) e)))

  symbol_behind : (at : Position) (x : Entry) → h.point.index ≤ at.index → slice_get order at.index ≡ Some x → stands_behind d (want.Symbol at) ≡ true
  symbol_behind at x le found = ap not (not_before (point_of at) d (go (cases_lt d.index at.index)))
    where
      go : (d.index < at.index) ⊎ (at.index ≤ d.index) → (d.index < at.index) ⊎ ((d.index ≡ at.index) × (d.block ≤ at.block))
      go (inl lt) = inl lt
      go (inr ge) =
          let least = low in
          let here : at.index ≡ h.point.index = omega (arith, ge, least, le) in
          let zero_block = block_zero x (ap (slice_get order) (sym here) ∙ found) in
          let past = behind_point (point_of h.point) d k.front in
          inr (omega (arith, ge, least, le), omega (arith, past, zero_block, here, ge))

  not_over : (index : ℕ) → h.point.index ≤ index → is_over h index ≡ false
  not_over index le = go (is_over h index) refl
    where
      go : (b : Bool) → is_over h index ≡ b → b ≡ false
      go true e = absurd (let lt = (Decides-ltb index h.point.index).0 e in omega (arith, lt, le))
      go false e = refl

  -- a block of which too few are held is not complete
  pub not_complete : (index block : ℕ) (x : Entry) → slice_get order index ≡ Some x
      → length (held_of h index block) < source_symbols (shape_of p x.object).cut block
      → is_complete [] h index block (slice_get (current_shapes p s) index) ≡ false
  not_complete index block x found few =
      ap (is_complete [] h index block) (shape_found index x found)
      ∙ too_few (source_symbols (shape_of p x.object).cut block) (length (filter (is_there [] h) (symbols_of index (encoded_in (shape_of p x.object) block) block)))
      (let le = few_there h index block (encoded_in (shape_of p x.object) block) in omega (arith, le, few))
    where
      too_few : (a b : ℕ) → b < a → nat_le a b ≡ false
      too_few a b lt = go (leb_tells a b)
        where
          go : ((nat_le a b ≡ true) × (a ≤ b)) ⊎ ((nat_le a b ≡ false) × (b < a)) → nat_le a b ≡ false
          go (inl both) = absurd (let le = both.1 in omega (arith, lt, le))
          go (inr both) = both.0

  -- a closed source symbol that is not held, of a block of which too few are held
  symbol_lacks : (need : Need) (at : Position) (x : Entry) → h.point.index ≤ at.index → slice_get order at.index ≡ Some x
      → at.symbol < closed_in (shape_of p x.object) at.block → holds h at ≡ false
      → length (held_of h at.index at.block) < source_symbols (shape_of p x.object).cut at.block → IsOfNeed need (want.Symbol at) → at.symbol < width_at h need
      → NotHad p s h need
  symbol_lacks need at x le found lt held few of narrow = record {
    y = want.Symbol at;
    there = within p s range (want.Symbol at)
        (ap (λ (o : Option Shape). elim o as (λ _. Bool) [ Some z ↦ nat_lt at.symbol (encoded_in z at.block) | None ↦ false ]) (shape_found at.index x found)
        ∙ (Decides-ltb at.symbol (encoded_in (shape_of p x.object) at.block)).1
        (let most = closed_is_encoded (shape_of p x.object) at.block (shape_parity p (blocks_of p range) x.object) in omega (arith, lt, most)))
        (symbol_behind at x le found);
    lacks = is_missing p s h at (record { over = not_over at.index le; held = held; complete = not_complete at.index at.block x found few });
    of = of;
    narrow = narrow;
    source = ap (λ (o : Option Shape). elim o as (λ _. Bool) [ Some z ↦ nat_lt at.symbol (closed_in z at.block) | None ↦ false ]) (shape_found at.index x found)
        ∙ (Decides-ltb at.symbol (closed_in (shape_of p x.object) at.block)).1 lt;
  }

  -- ---- each kind of need

  -- of an object without a plan nothing is held
  pub nothing_held : (index block : ℕ) → plan_of h index ≡ None → length (held_of h index block) ≡ 0
  nothing_held index block none = go h.held k.planned
    where
      go : (held : List Held) → AllByRecursion (λ (x : Held). has_plan h.plans x.at.index ≡ true) held
          → length (filter (λ (x : Held). x.at.index == index && x.at.block == block) held) ≡ 0
      go [] all = refl
      go (x ∷ held) all = by (x.at.index == index) (x.at.block == block) refl (go held all.1)
        where
          rest : List Held
          rest = filter (λ (y : Held). y.at.index == index && y.at.block == block) held

          by : (a b : Bool) → (x.at.index == index) ≡ a → length rest ≡ 0 → length (cond (a && b) (x ∷ rest) rest) ≡ 0
          by true b e more =
              absurd (clash (sym (none_has h.plans index none) ∙ ap (has_plan h.plans) (sym ((Decides-eqb x.at.index index).0 e)) ∙ all.0))
          by false b e more = more

  no_length : (held : List Held) (test : Held → Bool) → length held ≡ 0 → list_any test held ≡ false
  no_length [] test e = refl
  no_length (x ∷ held) test e = absurd (omega (arith, e))

  unknown_lacks : (index : ℕ) (x : Entry) → h.point.index ≤ index → plan_of h index ≡ None → slice_get order index ≡ Some x → IsSized p x.object → NotHad p s h (Unknown index)
  unknown_lacks index x le none found sized =
      symbol_lacks (Unknown index) (position index 0 0) x le found first
      (no_length (held_of h index 0) (λ (y : Held). y.at.symbol == 0) (nothing_held index 0 none))
      (let nothing = nothing_held index 0 none in let some = sources in omega (arith, nothing, some)) refl
      (let same = ap (λ (o : Option Plan). elim o as (λ _. ℕ) [ Some plan ↦ source_symbols (cut_of_plan plan) 0 | None ↦ 256 ]) none in omega (arith, same))
    where
      some_closed : 0 < (shape_of p x.object).closed
      some_closed = go x.object refl (no_stream index x le found) sized
        where
          go : (o : Object) → x.object ≡ o → is_stream x ≡ false → IsSized p o → 0 < (shape_of p x.object).closed
          go (Whole kind info octets) e whole sized =
              subst (λ (z : Object). 0 < (shape_of p z).closed) (sym e) ((is_sound p (cut_range p range) (length octets) sized.0 sized.1).some)
          go (Stream parts) e whole sized = absurd (clash (sym (kind_is x whole (Stream parts) e)))

      first : 0 < closed_in (shape_of p x.object) 0
      first = first_closed p range x.object sized some_closed

      sources : 0 < source_symbols (shape_of p x.object).cut 0
      sources = least (source_symbols (shape_of p x.object).cut 0) _ first
        where
          least : (a b : ℕ) → 0 < min a b → 0 < a
          least a b lt = omega (arith, lt)

  info_lacks : (index : ℕ) → h.point.index ≤ index → (plan : Plan) → plan_of h index ≡ Some plan → has_its_info h plan ≡ false → NotHad p s h (ObjectInfo index)
  info_lacks index le plan known lacks =
      let x = entry_of index plan known in
      let parts = info_out (says_info plan.flags) (is_some (info_of h plan.index)) lacks in
      let same = index_of_found index h.plans plan known in
      let has : has_info (current_shapes p s) index ≡ true =
      ap (λ (o : Option Shape). elim o as (λ _. Bool) [ Some z ↦ z.info | None ↦ false ]) (shape_found index x.0 x.1) ∙ info_is x.0 (no_stream index x.0 le x.1) x.2.flags parts.0 in
      record {
        y = want.Info index;
        there = within p s range (want.Info index) has (not_low (let least = low in omega (arith, least, le)));
        lacks = both_false (is_over h index || is_some (info_of h index)) (is_member want_before (want.Info index) [])
            (both_false (is_over h index) (is_some (info_of h index)) (not_over index le) (ap (λ (i : ℕ). is_some (info_of h i)) (sym same) ∙ parts.1)) (none_member (want.Info index));
        of = refl;
        narrow = tt;
        source = has;
      }
    where
      info_out : (a b : Bool) → (elim a as (λ _. Bool) [ true ↦ b | false ↦ true ]) ≡ false → (a ≡ true) × (b ≡ false)
      info_out true b e = (refl, e)
      info_out false b e = absurd (clash (sym e))

      not_low : d.index ≤ index → not (nat_lt index d.index) ≡ true
      not_low le = go (nat_lt index d.index) refl
        where
          go : (b : Bool) → nat_lt index d.index ≡ b → not b ≡ true
          go true e = absurd (let lt = (Decides-ltb index d.index).0 e in omega (arith, lt, le))
          go false e = refl

      info_is : (x : Entry) → is_stream x ≡ false → 4 * (plan.flags / 4) ≡ object_flags x.object → says_info plan.flags ≡ true → (shape_of p x.object).info ≡ true
      info_is x whole flags says = go x.object refl
        where
          go : (o : Object) → x.object ≡ o → (shape_of p x.object).info ≡ true
          go (Whole kind info octets) e =
              ap (λ (z : Object). (shape_of p z).info) e ∙ sym (flags_say plan.flags kind info octets (flags ∙ ap object_flags e)).infos ∙ says
          go (Stream parts) e = absurd (clash (sym (kind_is x whole (Stream parts) e)))

  symbols_lack : (index block wanted : ℕ) → h.point.index ≤ index → (plan : Plan) → plan_of h index ≡ Some plan → lacking h plan block ≡ wanted → 0 < wanted
      → (x : Entry) → slice_get order index ≡ Some x → is_full (shape_of p x.object) block ≡ true → NotHad p s h (Symbols index block wanted)
  symbols_lack index block wanted le plan known lack some x found full = go (some_fails (λ i. holds h (position index block i)) (source_symbols (shape_of p x.object).cut block) 0)
    where
      n : ℕ
      n = source_symbols (shape_of p x.object).cut block

      same : plan.index ≡ index
      same = index_of_found index h.plans plan known

      own : PlanIs p x.object plan.fti plan.flags
      own = (let e = entry_of index plan known in subst (λ (z : Entry). PlanIs p z.object plan.fti plan.flags) (this (sym e.1 ∙ found)) e.2)
        where
          this : {a b : Entry} → Some a ≡ Some b → a ≡ b
          this e = cc

      cut_is : source_symbols (cut_of_plan plan) block ≡ n
      cut_is = ap (λ (c : Cut). source_symbols c block) (its_cut p x.object plan.fti plan.flags own)

      few : length (held_of h index block) < n
      few =
          let is : lacking h plan block ≡ source_symbols (cut_of_plan plan) block - length (held_of h index block) =
          ap (λ (i : ℕ). source_symbols (cut_of_plan plan) block - length (held_of h i block)) same in
          let cut = cut_is in
          omega (arith, is, lack, some, cut)

      closed : closed_in (shape_of p x.object) block ≡ n
      closed = (Decides-eqb (closed_in (shape_of p x.object) block) n).0 full

      width : width_of h (point index block) ≡ n
      width = ap (λ (o : Option Plan). elim o as (λ _. ℕ) [ Some z ↦ source_symbols (cut_of_plan z) block | None ↦ 256 ]) known ∙ cut_is

      go : ((i : ℕ) × (0 ≤ i) × (i < 0 + n) × (holds h (position index block i) ≡ false)) ⊎ ((i : ℕ) → 0 ≤ i → i < 0 + n → holds h (position index block i) ≡ true)
          → NotHad p s h (Symbols index block wanted)
      go (inl (i, least, most, held)) =
          let all = closed in
          let wide = width in
          symbol_lacks (Symbols index block wanted) (position index block i) x le found (omega (arith, most, all)) held few (refl, some) (omega (arith, most, wide))
      go (inr all) =
          absurd (
          let many = many_pass (λ i. position index block i) (λ (z : Position). list_any (λ (y : Held). y.at.symbol == z.symbol) (held_of h index block)) n n 0 (omega arith) all in
          let le = few_held index block n (held_of h index block) in
          let lt = few in
          omega (arith, many, le, lt)
          )

  -- ---- a need

  -- the object of a need without a plan is there, and a block that is counted is closed
  abbrev pub Knows : Need → Type 0
  Knows (Unknown index) = index < length order
  Knows (Symbols index block wanted) = (x : Entry) × (slice_get order index ≡ Some x) × (is_full (shape_of p x.object) block ≡ true)
  Knows _ = ⊤

  pub need_not_had : (farthest : Option Point) (flush : Option Position) (need : Need) → Says farthest flush h need → Knows need → NotHad p s h need
  need_not_had farthest flush (Unknown index) says knows =
      let x = entry_at order index knows in unknown_lacks index x.0 says.0 says.1 x.1 (all_at order index x.0 x.1 k.sized)
    where
      entry_at : (xs : List Entry) (i : ℕ) → i < length xs → (x : Entry) × (slice_get xs i ≡ Some x)
      entry_at [] i lt = absurd (omega (arith, lt))
      entry_at (y ∷ xs) zero lt = (y, refl)
      entry_at (y ∷ xs) (suc i) lt = entry_at xs i (omega (arith, lt))

      all_at : (xs : List Entry) (i : ℕ) (x : Entry) → slice_get xs i ≡ Some x → AreSized p xs → IsSized p x.object
      all_at [] i x found all = absurd (none_some found)
        where
          none_some : None ≡ Some x → ⊥
          none_some e = cc
      all_at (y ∷ xs) zero x found all = subst (λ (z : Entry). IsSized p z.object) (this found) all.0
        where
          this : Some y ≡ Some x → y ≡ x
          this e = cc
      all_at (y ∷ xs) (suc i) x found all = all_at xs i x found all.1
  need_not_had farthest flush (ObjectInfo index) says knows = info_lacks index says.0 says.1 says.2 says.3
  need_not_had farthest flush (Symbols index block wanted) says knows = symbols_lack index block wanted says.0 says.1 says.2 says.3 says.4 knows.0 knows.1 knows.2
  need_not_had farthest flush (Source at) says knows = absurd says
  need_not_had farthest flush (Rest index block) says knows = absurd says

-- ---- after a lawful run

-- each receiver saw what is of its instance's order
pub seen_from : (p : Settings) → InRange p → (past : List Happening) (accepted : List Origin) (w : World) (events : List Event) → LawfulFrom p w accepted events
    → AreEvents events → WorldHolds p past accepted w → SeenWorld p w → SeenWorld p (run_from p w events)
seen_from p range past accepted w [] lawful are holds seen = seen
seen_from p range past accepted w (e ∷ events) lawful are holds seen =
    let step = world_step p w e in
    seen_from p range (past ++ happening w e step ∷ []) (accepted_with accepted e step.1) step.0 events lawful.1 are.1
    (event_holds p range past accepted w e lawful.0 are.0 holds) (event_seen p range past accepted w e lawful.0 are.0 holds seen)

-- each receiver holds symbols of planned objects alone
abbrev AllPlanned : Settings → World → Type 0
AllPlanned p w = (node : ℕ) (r : ReceiverState) → (node == p.sender) ≡ false → receiver_at w node ≡ Some r → ArePlanned r.holding

planned_from : (p : Settings) (w : World) (events : List Event) → AllPlanned p w → AllPlanned p (run_from p w events)
planned_from p w [] h = h
planned_from p w (e ∷ events) h = planned_from p (world_step p w e).0 events next
  where
    next : AllPlanned p (world_step p w e).0
    next node t other found = go (before p w e node other t found)
      where
        go : Before p w node t → ArePlanned t.holding
        go b = by b.after
          where
            by : After p b.r t → ArePlanned t.holding
            by (Still same) = subst (λ (x : ReceiverState). ArePlanned x.holding) (sym same) (h node b.r other b.found)
            by (Steps own is) = subst (λ (x : ReceiverState). ArePlanned x.holding) (sym is) (planned_step p b.r own (h node b.r other b.found))

planned_opening : (p : Settings) → AllPlanned p (world_opening p)
planned_opening p node r other found =
    found_holds (λ (x : ReceiverState). ArePlanned x.holding) (λ (x : ReceiverState). x.node == node) (world_opening p).receivers r (each (receivers_of p p.receivers)) found
  where
    each : (nodes : List ℕ) → AllByRecursion (λ (x : ReceiverState). ArePlanned x.holding) (map receiver_opening nodes)
    each [] = tt
    each (n ∷ nodes) = (tt, each nodes)

pub contained : {X : Type 0} (x : X) (xs : List X) → In x xs → Contains xs x
contained x [] h = absurd h
contained x (y ∷ xs) (inl same) = (zero, omega arith, sym same)
contained x (y ∷ xs) (inr more) = let found = contained x xs more in (suc found.0, (let lt = found.1 in omega (arith, lt)), found.2)

module _ (p : Settings) (range : InRange p) (hold : p.mode ≡ Hold) (events : List Event) (lawful : Lawful p events) (are : AreEvents events)
    (none : streams (run p events).sender ≡ 0) (node : ℕ) (other : (node == p.sender) ≡ false) (r : ReceiverState) (found : receiver_at (run p events) node ≡ Some r)
    (member : has_member node (run p events).sender ≡ true) (inside : is_in r (run p events).sender.current.id ≡ true) where
  abbrev s : SenderState
  s = (run p events).sender

  world : HoldsIn p (run p events)
  world = after_run p range events lawful are

  held : HoldsOf p s.current.order (drop_of s s.current.id) (hands world.past node s.current.id) r.knows.due r.holding
  held =
      let at_node : AtReceiver p s world.past node r = subst (AtNode p s world.past node) found (world.holds.nodes node) in
      let stands : StandingIn p s (hands world.past node) r (Some s.current.id) =
      subst (StandingIn p s (hands world.past node) r) (in_instance_is r s.current.id inside) at_node.stands in
      subst (λ (order : List Entry). HoldsOf p order (drop_of s s.current.id) (hands world.past node s.current.id) r.knows.due r.holding)
      (current_order s world.holds.once.ids) stands

  seen : SeenIn p s.current.order r
  seen =
      let A : Option ReceiverState → Type 0 = λ o. SeenAt p s o in
      let all : SeenWorld p (run p events) = seen_from p range [] [] (world_opening p) events lawful are (opening_world p range) (opening_seen p) in
      let own : SeenBy p s r (Some s.current.id) = subst (SeenBy p s r) (in_instance_is r s.current.id inside) (subst A found (all node)) in
      subst (λ (order : List Entry). SeenIn p order r) (current_order s world.holds.once.ids) own

  pub holds_so : Holds p s r.holding
  holds_so = record {
    plans = held.plans;
    planned = planned_from p (world_opening p) events (planned_opening p) node r other found;
    front = ((stands_in_run p range hold events lawful are node r found member).inside inside).0;
    stands = held.gone.stands;
    none = none;
    sized = current_sized p s world.holds.sender;
  }

  no_streams : NoStreams r.holding
  no_streams index plan le known =
      let x = entry_of p range s r.holding holds_so index plan known in
      says_its x.0.object plan.flags x.2.flags ∙ by_object x.0.object (no_stream p range s r.holding holds_so index x.0 le x.1)
    where
      by_object : (o : Object) → is_stream (record { by = record { producer = 0; number = 0 }; object = o }) ≡ false → is_stream_object o ≡ false
      by_object (Whole kind info octets) e = refl
      by_object (Stream parts) e = e

  each_need_says : Each (Says r.knows.farthest r.knows.flush r.holding) (needs p r)
  each_need_says = each_says p r.knows.farthest r.knows.flush r.holding no_streams

  each_is : Each (IsNeedOf p s.current.order r) (needs p r)
  each_is = each_need p range s.current.order r (current_sized p s world.holds.sender) held.plans held.symbols held.rising seen

  -- an object that is covered is there
  covered_there : (index : ℕ) → is_covered r.knows.farthest r.knows.flush index ≡ true → index < length s.current.order
  covered_there index e = go r.knows.farthest r.knows.flush seen.knows.farthest seen.flush (or_true (nat_lt index (farthest_index r.knows.farthest)) _ e)
    where
      within_order : (at : Position) → is_source (current_shapes p s) at ≡ true → at.index < length s.current.order
      within_order at e = by (slice_get (current_shapes p s) at.index) refl e
        where
          by : (o : Option Shape) → slice_get (current_shapes p s) at.index ≡ o → (elim o as (λ _. Bool) [ Some x ↦ nat_lt at.symbol (closed_in x at.block) | None ↦ false ]) ≡ true
              → at.index < length s.current.order
          by None is f = absurd (clash f)
          by (Some x) is f =
              let lt = slice_get_within (current_shapes p s) at.index x is in
              let long = length-map s.current.order (λ (e : Entry). shape_of p e.object) in
              omega (arith, lt, long)

      go : (farthest : Option Point) (flush : Option Position) → IfSome farthest (λ at. at.index ≤ r.knows.known) → FlushSeen p s.current.order flush
          → (nat_lt index (farthest_index farthest) ≡ true) ⊎ ((elim flush as (λ _. Bool) [ Some at ↦ nat_le index at.index | None ↦ false ]) ≡ true)
          → index < length s.current.order
      go None flush far near (inl lt) = absurd (let less = (Decides-ltb index 0).0 lt in omega (arith, less))
      go (Some at) flush far near (inl lt) = let less = (Decides-ltb index at.index).0 lt in let most = seen.knows.within in omega (arith, less, far, most)
      go farthest None far near (inr le) = absurd (clash le)
      go farthest (Some at) far near (inr le) = by (leb_tells index at.index)
        where
          by : ((nat_le index at.index ≡ true) × (index ≤ at.index)) ⊎ ((nat_le index at.index ≡ false) × (at.index < index)) → index < length s.current.order
          by (inl both) = let most = both.1 in let lt = within_order at near in omega (arith, most, lt)
          by (inr both) = absurd (clash (sym both.0 ∙ le))

  knows_so : (need : Need) → Says r.knows.farthest r.knows.flush r.holding need → IsNeedOf p s.current.order r need → Knows p range s r.holding holds_so need
  knows_so (Unknown index) says is = covered_there index says.2
  knows_so (ObjectInfo index) says is = tt
  knows_so (Symbols index block wanted) says is = (is.2.entry, is.2.found, is.2.full)
  knows_so (Source at) says is = tt
  knows_so (Rest index block) says is = tt

  lacks_in_run : (need : Need) → Contains (all_of (needs p r)) need → LacksOf p s r need
  lacks_in_run need has =
      let there : In need (all_of (needs p r)) = in_contained need (all_of (needs p r)) has in
      let says = in_all (Says r.knows.farthest r.knows.flush r.holding) need (all_of (needs p r)) (each_all (Says r.knows.farthest r.knows.flush r.holding) (needs p r) each_need_says) there in
      let is = in_all (IsNeedOf p s.current.order r) need (all_of (needs p r)) (each_all (IsNeedOf p s.current.order r) (needs p r) each_is) there in
      let n : NotHad p s r.holding need = need_not_had p range s r.holding holds_so r.knows.farthest r.knows.flush need says (knows_so need says is) in
      record {
        y = n.y;
        within = contained n.y (in_window p s) n.there;
        lacks = ap (λ (b : Bool). is_had [] p s (elim b as (λ _. Holding) [ true ↦ r.holding | false ↦ holding_nothing ]) n.y) inside ∙ n.lacks;
        of = n.of;
        narrow = n.narrow;
        source = n.source;
      }

pub need_lacks : NeedLacks
need_lacks p range hold events lawful are none node other r found member inside need has =
    lacks_in_run p range hold events lawful are none node other r found member inside need has
