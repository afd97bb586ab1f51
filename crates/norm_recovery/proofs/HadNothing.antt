-- A member that hears what it has of the window, a flush, or a squelch up to where the window begins, holds then what it held.
use Rattle.std.proofs.Common.{◌≡◌, ℕ, ◌-◌, ◌<◌, ◌≤◌, ◌⊎◌, inl, inr, List, [], ◌∷◌, ◌++◌, length, filter, cond, Bool, true, false, Option, None, Some, Result, Ok, refl, sym, ap, ◌∙◌, subst, arith}
use Rattle.std.specs.Prelude.{◌==◌, ◌&&◌, ◌||◌, not, nat_lt, nat_le, is_some, slice_get, find, unwrap_or, option_and_then}
use Rattle.std.specs.List.{AllByRecursion, list_any}
use Rattle.std.proofs.lemmas.Bool.{cases_lt}
use Rattle.std.proofs.lemmas.Bool.Decides.{Decides-eqb, Decides-ltb, leb_tells}
use Rattle.norm_base.specs.Settings.{Settings, InRange}
use Rattle.norm_base.specs.declared.kinds.Mode.TheVariants.{Hold}
use Rattle.fec_plan.specs.Partition.{Cut, source_symbols}
use Rattle.fec_plan.specs.Points.{Point, point, point_of, position, point_before, same_point}
use Rattle.fec_plan.specs.declared.position.Position.{Position}
use Rattle.fec_plan.proofs.PartitionLemmas.{some_sources}
use Rattle.fec_plan.proofs.PointLemmas.{behind_point}
use Rattle.norm_ext.specs.Message.{Message, Info, Data, Flush, Eot, Squelch, RepairAdv, AckReq, Opaque, Nack, Ack, Report, InfoMessage, DataMessage, FlushCommand, SquelchCommand}
use Rattle.norm_ext.specs.ObjectIds.{object_id}
use Rattle.norm_ext.specs.Reading.{decoded}
use Rattle.norm_ext.specs.Written.{Written}
use Rattle.norm_ext.specs.declared.refusal.Refusal.{Refusal}
use Rattle.norm_order.specs.Entries.{Object, Whole, Stream, Entry}
use Rattle.norm_order.specs.Sets.{is_member}
use Rattle.norm_order.specs.Shapes.{shape_of, encoded_in, symbols_of}
use Rattle.norm_receive_rules.specs.BackingOff.{may_need}
use Rattle.norm_receive_rules.specs.HandingUp.{hands_one}
use Rattle.norm_receive_rules.specs.Holding.{Holding, Plan, Held, HeldInfo, holding_nothing}
use Rattle.norm_receive_rules.specs.Leaving.{is_in, goes_to, enters, entered}
use Rattle.norm_receive_rules.specs.Losing.{squelched}
use Rattle.norm_receive_rules.specs.Plans.{cut_of_plan, says_stream, plan_of, is_over, held_of, holds, is_done, info_of}
use Rattle.norm_receive_rules.specs.Putting.{put_symbol, put_info}
use Rattle.norm_receive_rules.specs.ReceiverState.{ReceiverState}
use Rattle.norm_receive_rules.specs.Receiving.{object_held, info_received, data_received, flush_received, squelch_received, takes_in, in_instance, message_received, received}
use Rattle.norm_receive_rules.specs.Seeing.{sees_block}
use Rattle.norm_receive_rules.proofs.HandUpLemmas.{index_of_found}
use Rattle.norm_send_rules.specs.InWindow.{current_shapes}
use Rattle.norm_send_rules.specs.Repairable.{is_stream, streams}
use Rattle.norm_send_rules.specs.SenderState.{SenderState}
use Rattle.norm_send_rules.specs.Wants.{want_before}
use Rattle.norm_send_rules.specs.Watermarks.{has_member}
use Rattle.norm_send_rules.specs.declared.want.Want.TheVariants as want
use Rattle.norm_send_rules.proofs.CutNames.{cut_range, is_sound}
use Rattle.norm_safety.specs.Events.{Event, Delivered}
use Rattle.norm_safety.specs.Lawful.{are_near}
use Rattle.norm_safety.specs.OnceEach.{order_of}
use Rattle.norm_safety.specs.Said.{about, first_index}
use Rattle.norm_safety.specs.SaysSymbols.{SaysSymbol}
use Rattle.norm_safety.specs.World.{world_opening, receiver_at}
use Rattle.norm_safety.specs.WorldStep.{run}
use Rattle.norm_safety.proofs.EntryLemmas.{clash}
use Rattle.norm_safety.proofs.Holding.{IsPlanOf, some_and}
use Rattle.norm_safety.proofs.InTime.{true_low}
use Rattle.norm_safety.proofs.Passed.{StandsIn, StandsAt}
use Rattle.norm_safety.proofs.ReceiverMoves.{knowing, known_in, near_named, need_same}
use Rattle.norm_safety.proofs.RunFronts.{front_laws}
use Rattle.norm_safety.proofs.SenderHolds.{orders_hold}
use Rattle.norm_safety.proofs.SizedOrders.{IsSized, AreSized}
use Rattle.norm_safety.proofs.Spoken.{IsTrueOf, SaysTrue, sized_at}
use Rattle.norm_safety.proofs.WorldHolds.{all_contains}
use Rattle.norm_laws.proofs.HeldLengths.{PlanIs, its_cut}
use Rattle.norm_recovery.specs.HadBringsNothing.{has_of_window, says_nothing_more, HadBringsNothing}
use Rattle.norm_recovery.specs.Left.{held_for, is_there, is_complete, is_had, has}
use Rattle.norm_recovery.specs.MembersEnter.{IsOwnMessage}
use Rattle.norm_recovery.specs.TailLawful.{MayGoOn}
use Rattle.norm_recovery.proofs.ClosingHad.{none_member, or_true}
use Rattle.norm_recovery.proofs.FlushKnown.{HoldsIn, after_run}
use Rattle.norm_recovery.proofs.FlushLacks.{far_from, far_opening, none_in_window, planned_by, says_no_stream}
use Rattle.norm_recovery.proofs.HeldSame.{IsKnown, HasIt, HasItsInfo, squelch_same, not_cut_off, seen_same, fits_same, symbol_same, info_same, object_same}
use Rattle.norm_recovery.proofs.InfoHeld.{InfosArePlanned, infos_in_run}
use Rattle.norm_recovery.proofs.LeftComes.{near, order_is, few, stands, sized as window_sized, lawful, jobs}
use Rattle.norm_recovery.proofs.NeedHeld.{has_plan, none_has}
use Rattle.norm_recovery.proofs.NeedLacks.{Holds, few_there, entry_of, no_stream, nothing_held, block_zero, shape_found, low, holds_so}

no_some : {X : Type 0} (x : X) → None ≡ Some x → ⊥
no_some x e = cc

both : (a b : Bool) → (a && b) ≡ true → (a ≡ true) × (b ≡ true)
both true b e = (refl, e)
both false b e = absurd (clash e)

le_of : (a b : ℕ) → nat_le a b ≡ true → a ≤ b
le_of a b e = go (leb_tells a b)
  where
    go : ((nat_le a b ≡ true) × (a ≤ b)) ⊎ ((nat_le a b ≡ false) × (b < a)) → a ≤ b
    go (inl tells) = tells.1
    go (inr tells) = absurd (clash (sym tells.0 ∙ e))

-- ---- what is held of the current instance

-- nothing of it can be handed up, and each info is of a planned object
record Rests (p : Settings) (s : SenderState) (h : Holding) : Type 0 where
  holds : Holds p s h
  infos : InfosArePlanned h
  stuck : hands_one p h ≡ None

module _ (p : Settings) (range : InRange p) (s : SenderState) (h : Holding) (k : Rests p s h) where
  abbrev order : List Entry
  order = s.current.order

  abbrev d : Point
  d = s.current.drop

  -- no plan of the window is of a stream
  whole_plans : (index : ℕ) → d.index ≤ index → AllByRecursion (λ (plan : Plan). plan.index ≡ index → says_stream plan.flags ≡ false) h.plans
  whole_plans index le = each h.plans k.holds.plans
    where
      one : (plan : Plan) → IsPlanOf p order plan → plan.index ≡ index → says_stream plan.flags ≡ false
      one plan of same =
          let by = planned_by p order plan of in
          says_no_stream p by.entry plan by.is (none_in_window d.index order plan.index by.entry k.holds.none (omega (arith, le, same)) by.found)

      each : (plans : List Plan) → AllByRecursion (IsPlanOf p order) plans → AllByRecursion (λ (plan : Plan). plan.index ≡ index → says_stream plan.flags ≡ false) plans
      each [] all = tt
      each (q ∷ plans) all = (one q all.0, each plans all.1)

  seen : (at : Position) → d.index ≤ at.index → sees_block (point_of at) h ≡ h
  seen at le = seen_same (point_of at) h (whole_plans at.index le)

  -- of what symbols are held there is a plan
  plan_held : (index block : ℕ) → 0 < length (held_of h index block) → (plan : Plan) × (plan_of h index ≡ Some plan)
  plan_held index block some = go (plan_of h index) refl
    where
      go : (o : Option Plan) → plan_of h index ≡ o → (plan : Plan) × (plan_of h index ≡ Some plan)
      go None e = absurd (let none = nothing_held p range s h k.holds index block e in omega (arith, none, some))
      go (Some plan) e = (plan, e)

  any_held : (held : List Held) (test : Held → Bool) → list_any test held ≡ true → 0 < length held
  any_held [] test e = absurd (clash e)
  any_held (x ∷ held) test e = omega arith

  -- each block of the window has a source symbol
  some_source : (index block : ℕ) (x : Entry) → d.index ≤ index → slice_get order index ≡ Some x → 1 ≤ source_symbols (shape_of p x.object).cut block
  some_source index block x le found =
      go x.object (none_in_window d.index order index x k.holds.none le found) (sized_at p order index x k.holds.sized found)
    where
      go : (o : Object) → is_stream (record x { object = o }) ≡ false → IsSized p o → 1 ≤ source_symbols (shape_of p o).cut block
      go (Whole kind info octets) whole sized =
          some_sources (shape_of p (Whole kind info octets)).cut block (is_sound p (cut_range p range) (length octets) sized.0 sized.1)
      go (Stream parts) whole sized = absurd (clash (sym whole))

  -- a symbol that is had
  has_it : (at : Position) (x : Entry) → d.index ≤ at.index → slice_get order at.index ≡ Some x → is_had [] p s h (want.Symbol at) ≡ true → HasIt h at
  has_it at x le found e = first (or_true (is_over h at.index || is_there [] h at) (is_complete [] h at.index at.block (slice_get (current_shapes p s) at.index)) e)
    where
      there : is_there [] h at ≡ true → HasIt h at
      there f = by (or_true (holds h at) (is_member want_before (want.Symbol at) []) f)
        where
          by : (holds h at ≡ true) ⊎ (is_member want_before (want.Symbol at) [] ≡ true) → HasIt h at
          by (inr wanted) = absurd (clash (sym (none_member (want.Symbol at)) ∙ wanted))
          by (inl own) =
              let plan = plan_held at.index at.block (any_held (held_of h at.index at.block) (λ (x : Held). x.at.symbol == at.symbol) own) in
              inr (plan.0, plan.1, ap (λ (b : Bool). b || is_done h plan.0 at.block) own)

      complete : is_complete [] h at.index at.block (slice_get (current_shapes p s) at.index) ≡ true → HasIt h at
      complete f = inr (plan.0, plan.1, or_right (holds h at) (is_done h plan.0 at.block) done)
        where
          n : ℕ
          n = source_symbols (shape_of p x.object).cut at.block

          many : n ≤ length (held_of h at.index at.block)
          many =
              let le = le_of n (length (filter (is_there [] h) (symbols_of at.index (encoded_in (shape_of p x.object) at.block) at.block)))
              (sym (ap (is_complete [] h at.index at.block) (shape_found p range s h k.holds at.index x found)) ∙ f) in
              let few = few_there h at.index at.block (encoded_in (shape_of p x.object) at.block) in
              omega (arith, le, few)

          plan : (plan : Plan) × (plan_of h at.index ≡ Some plan)
          plan = plan_held at.index at.block (let some = some_source at.index at.block x le found in let more = many in omega (arith, some, more))

          same : plan.0.index ≡ at.index
          same = index_of_found at.index h.plans plan.0 plan.1

          own : PlanIs p x.object plan.0.fti plan.0.flags
          own = (let e = entry_of p range s h k.holds at.index plan.0 plan.1 in subst (λ (z : Entry). PlanIs p z.object plan.0.fti plan.0.flags) (this (sym e.1 ∙ found)) e.2)
            where
              this : {a b : Entry} → Some a ≡ Some b → a ≡ b
              this e = cc

          or_right : (a b : Bool) → b ≡ true → (a || b) ≡ true
          or_right true b e = refl
          or_right false b e = e

          done : is_done h plan.0 at.block ≡ true
          done = (Decides-eqb (source_symbols (cut_of_plan plan.0) at.block - length (held_of h plan.0.index at.block)) 0).1 (
              let cut = ap (λ (c : Cut). source_symbols c at.block) (its_cut p x.object plan.0.fti plan.0.flags own) in
              let place = ap (λ (i : ℕ). length (held_of h i at.block)) same in
              let more = many in
              omega (arith, cut, place, more)
              )

      first : ((is_over h at.index || is_there [] h at) ≡ true) ⊎ (is_complete [] h at.index at.block (slice_get (current_shapes p s) at.index) ≡ true) → HasIt h at
      first (inr f) = complete f
      first (inl f) = by (or_true (is_over h at.index) (is_there [] h at) f)
        where
          by : (is_over h at.index ≡ true) ⊎ (is_there [] h at ≡ true) → HasIt h at
          by (inl over) = inl over
          by (inr own) = there own

  -- an info that is had
  has_info : (index : ℕ) → is_had [] p s h (want.Info index) ≡ true → HasItsInfo h index
  has_info index e = first (or_true (is_over h index || is_some (info_of h index)) (is_member want_before (want.Info index) []) e)
    where
      -- of an info that is held there is a plan
      planned : (infos : List HeldInfo) → AllByRecursion (λ (x : HeldInfo). has_plan h.plans x.index ≡ true) infos
          → is_some (elim (find (λ (x : HeldInfo). x.index == index) infos) as (λ _. Option (List ℕ)) [ Some x ↦ Some x.info | None ↦ None ]) ≡ true
          → has_plan h.plans index ≡ true
      planned [] all f = absurd (clash f)
      planned (x ∷ infos) all f = go (x.index == index) refl f (planned infos all.1)
        where
          rest : Option HeldInfo
          rest = find (λ (x : HeldInfo). x.index == index) infos

          I : Option HeldInfo → Option (List ℕ)
          I o = elim o [ Some x ↦ Some x.info | None ↦ None ]

          go : (b : Bool) → (x.index == index) ≡ b → is_some (I (cond b (Some x) rest)) ≡ true → (is_some (I rest) ≡ true → has_plan h.plans index ≡ true) → has_plan h.plans index ≡ true
          go true same g more = ap (has_plan h.plans) (sym ((Decides-eqb x.index index).0 same)) ∙ all.0
          go false same g more = more g

      held : is_some (info_of h index) ≡ true → HasItsInfo h index
      held f = go (plan_of h index) refl
        where
          go : (o : Option Plan) → plan_of h index ≡ o → HasItsInfo h index
          go None none = absurd (clash (sym (none_has h.plans index none) ∙ planned h.infos k.infos f))
          go (Some plan) known = inr (plan, known, ap (λ (i : ℕ). is_some (info_of h i)) (index_of_found index h.plans plan known) ∙ f)

      first : ((is_over h index || is_some (info_of h index)) ≡ true) ⊎ (is_member want_before (want.Info index) [] ≡ true) → HasItsInfo h index
      first (inr wanted) = absurd (clash (sym (none_member (want.Info index)) ∙ wanted))
      first (inl f) = by (or_true (is_over h index) (is_some (info_of h index)) f)
        where
          by : (is_over h index ≡ true) ⊎ (is_some (info_of h index) ≡ true) → HasItsInfo h index
          by (inl over) = inl over
          by (inr own) = held own

  known_symbol : (at : Position) → HasIt h at → IsKnown h at.index
  known_symbol at (inl over) = inl over
  known_symbol at (inr (plan, known, own)) = inr (plan, known)

  known_info : (index : ℕ) → HasItsInfo h index → IsKnown h index
  known_info index (inl over) = inl over
  known_info index (inr (plan, known, own)) = inr (plan, known)

  -- ---- what each message leaves

  data_same : (m : DataMessage) (index : ℕ) (x : Entry) → d.index ≤ index → slice_get order index ≡ Some x
      → is_had [] p s h (want.Symbol (position index m.id.block m.id.symbol)) ≡ true
      → object_held p (position index m.id.block m.id.symbol) m.extensions m.head.flags (put_symbol p (position index m.id.block m.id.symbol) m.payload) h ≡ h
  data_same m index x le found e =
      let at = position index m.id.block m.id.symbol in
      let has = has_it (position index m.id.block m.id.symbol) x le found e in
      object_same p (position index m.id.block m.id.symbol) m.extensions m.head.flags (put_symbol p (position index m.id.block m.id.symbol) m.payload) h k.stuck
      (seen (position index m.id.block m.id.symbol) le) (λ f. fits_same p h index f m.head.flags (known_symbol (position index m.id.block m.id.symbol) has))
      (symbol_same p h (position index m.id.block m.id.symbol) m.payload has)

  info_leaves : (m : InfoMessage) (index : ℕ) → d.index ≤ index → is_had [] p s h (want.Info index) ≡ true
      → object_held p (position index 0 0) m.extensions m.head.flags (put_info p index m.info) h ≡ h
  info_leaves m index le e =
      let has = has_info index e in
      object_same p (position index 0 0) m.extensions m.head.flags (put_info p index m.info) h k.stuck (seen (position index 0 0) le)
      (λ f. fits_same p h index f m.head.flags (known_info index has)) (info_same p h index m.info has)

  squelch_leaves : (first : Point) → first ≡ d → squelched p first h ≡ h
  squelch_leaves first is =
      subst (λ (x : Point). squelched p x h ≡ h) (sym is)
      (squelch_same p d h k.stuck (low p range s h k.holds) (λ here. not_cut_off h d (zero_block here) (λ plan known. whole plan known)))
    where
      zero_block : h.point.index ≡ d.index → d.block ≡ 0
      zero_block here =
          let past = behind_point (point_of h.point) d k.holds.front in
          let own = own_block (slice_get order h.point.index) refl k.holds.stands in
          omega (arith, past, here, own)
        where
          own_block : (o : Option Entry) → slice_get order h.point.index ≡ o → StandsAt p o h.point.block h.point.symbol → h.point.block ≡ 0
          own_block None e there = there.0
          own_block (Some x) e there = block_zero p range s h k.holds x e

      whole : (plan : Plan) → plan_of h h.point.index ≡ Some plan → says_stream plan.flags ≡ false
      whole plan known =
          let x = entry_of p range s h k.holds h.point.index plan known in
          says_no_stream p x.0 plan x.2 (no_stream p range s h k.holds h.point.index x.0 (omega arith) x.1)

-- ---- a member of the instance, or one that comes to it

-- what is held of the instance depends on where a receiver is, and on what it holds
held_same : (s : SenderState) (a b : ReceiverState) → a.instance ≡ b.instance → a.holding ≡ b.holding → held_for s a ≡ held_for s b
held_same s a b inside holding = ap (λ (o : Option ℕ). of o a.holding) inside ∙ ap (of b.instance) holding
  where
    of : Option ℕ → Holding → Holding
    of o h = elim (elim o as (λ _. Bool) [ Some current ↦ current == s.current.id | None ↦ false ]) [ true ↦ h | false ↦ holding_nothing ]

instance_same : (p : Settings) (s : SenderState) (now draw source object index : ℕ) (does : ℕ → ReceiverState → ReceiverState) (r : ReceiverState)
    → object ≡ object_id p index → index ≤ 4294967294 → are_near (known_in (entered r s.current.id)) (index ∷ []) ≡ true
    → ((t : ReceiverState) → (does index t).instance ≡ t.instance) → ((t : ReceiverState) → t.holding ≡ held_for s r → (does index t).holding ≡ t.holding)
    → held_for s (in_instance p now draw source s.current.id object does r) ≡ held_for s r
instance_same p s now draw source object index does r named most near same keeps = go (source == p.sender) (is_in r s.current.id) (goes_to r s.current.id) refl near
  where
    after : ReceiverState → ReceiverState
    after t = may_need p now draw (does index (knowing index t))

    in_state : (t : ReceiverState) → t.holding ≡ held_for s r → held_for s t ≡ held_for s r → are_near (Some t.knows.known) (index ∷ []) ≡ true
        → held_for s (unwrap_or (takes_in p now draw object does t) r) ≡ held_for s r
    in_state t holding is close =
        let M : Option ℕ → Type 0 = λ found. held_for s (unwrap_or (elim found as (λ _. Option ReceiverState) [
          | Some i ↦ Some (may_need p now draw (does i (knowing i t)))
          | None ↦ None
        ]) r) ≡ held_for s r in
        let b : ReceiverState = does index (knowing index t) in
        let need = need_same p now draw b in
        let so : held_for s (after t) ≡ held_for s t =
        held_same s (after t) t (need.instance ∙ same (knowing index t)) (need.holding ∙ keeps (knowing index t) holding) in
        subst M (sym (near_named p t.knows.known object index named most close)) (so ∙ is)

    held_in : is_in r s.current.id ≡ true → r.holding ≡ held_for s r
    held_in e = ap (λ (b : Bool). elim b as (λ _. Holding) [ true ↦ r.holding | false ↦ holding_nothing ]) (sym e)

    held_out : is_in r s.current.id ≡ false → holding_nothing ≡ held_for s r
    held_out e = ap (λ (b : Bool). elim b as (λ _. Holding) [ true ↦ r.holding | false ↦ holding_nothing ]) (sym e)

    enters_is : held_for s (enters s.current.id r) ≡ holding_nothing
    enters_is = ap (λ (b : Bool). elim b as (λ _. Holding) [ true ↦ holding_nothing | false ↦ holding_nothing ]) ((Decides-eqb s.current.id s.current.id).1 refl)

    go : (own inner above : Bool) → is_in r s.current.id ≡ inner
        → are_near (known_in (elim inner as (λ _. Option ReceiverState) [ true ↦ Some r | false ↦ elim above as (λ _. Option ReceiverState) [ true ↦ Some (enters s.current.id r) | false ↦ None ] ])) (index ∷ []) ≡ true
        → held_for s (elim own as (λ _. ReceiverState) [
          | true ↦ unwrap_or (option_and_then (takes_in p now draw object does)
              (elim inner as (λ _. Option ReceiverState) [ true ↦ Some r | false ↦ elim above as (λ _. Option ReceiverState) [ true ↦ Some (enters s.current.id r) | false ↦ None ] ])) r
          | false ↦ r
        ]) ≡ held_for s r
    go false inner above e close = refl
    go true true above e close = in_state r (held_in e) refl close
    go true false true e close = in_state (enters s.current.id r) (held_out e) (enters_is ∙ held_out e) close
    go true false false e close = refl

-- ---- a delivery

module _ (p : Settings) (range : InRange p) (hold : p.mode ≡ Hold) (events : List Event) (node : ℕ) (other : (node == p.sender) ≡ false) (octets : List ℕ)
    (now draw : ℕ) (may : MayGoOn p (events ++ Delivered node octets now draw ∷ [])) (none : streams (run p events).sender ≡ 0) (r : ReceiverState)
    (found : receiver_at (run p events) node ≡ Some r) (member : has_member node (run p events).sender ≡ true) where
  abbrev u : SenderState
  u = (run p events).sender

  own_holding : (b : Bool) → is_in r u.current.id ≡ b → Rests p u (elim b as (λ _. Holding) [ true ↦ r.holding | false ↦ holding_nothing ])
  own_holding true inside = record {
    holds = holds_so p range hold events (lawful p range hold events node other octets now draw may none r found member)
        (jobs p range hold events node other octets now draw may none r found member) none node other r found member inside;
    infos = infos_in_run p events node r other found;
    stuck = (far_from p (world_opening p) events (far_opening p) node r other found).stuck;
  }
  own_holding false outside = record {
    holds = record {
      plans = tt;
      planned = tt;
      front = ap (point_before (point 0 0)) (drops);
      stands = begins (slice_get u.current.order 0) refl;
      none = none;
      sized = sized;
    };
    infos = tt;
    stuck = refl;
  }
    where
      drops : u.current.drop ≡ point 0 0
      drops = (stands p range hold events node other octets now draw may none r found member).outside outside

      sized : AreSized p u.current.order
      sized = window_sized p range hold events node other octets now draw may none r found member

      begins : (o : Option Entry) → slice_get u.current.order 0 ≡ o → StandsAt p o 0 0
      begins None e = (refl, refl)
      begins (Some x) e = go x.object (none_in_window u.current.drop.index u.current.order 0 x none (let z = ap (λ (q : Point). q.index) drops in omega (arith, z)) e)
        where
          go : (o : Object) → is_stream (record x { object = o }) ≡ false → StandsIn p o 0 0
          go (Whole kind info octets) whole = (refl, refl)
          go (Stream parts) whole = absurd (clash (sym whole))

  rests : Rests p u (held_for u r)
  rests = own_holding (is_in r u.current.id) refl

  k : HoldsIn p (run p events)
  k = after_run p range events (lawful p range hold events node other octets now draw may none r found member)
      (jobs p range hold events node other octets now draw may none r found member)

  not_dropped : (index : ℕ) → not (nat_lt index u.current.drop.index) ≡ true → u.current.drop.index ≤ index
  not_dropped index e = go (nat_lt index u.current.drop.index) refl e
    where
      go : (b : Bool) → nat_lt index u.current.drop.index ≡ b → not b ≡ true → u.current.drop.index ≤ index
      go true f e = absurd (clash e)
      go false f e = by (cases_lt index u.current.drop.index)
        where
          by : (index < u.current.drop.index) ⊎ (u.current.drop.index ≤ index) → u.current.drop.index ≤ index
          by (inl lt) = absurd (clash (sym f ∙ (Decides-ltb index u.current.drop.index).1 lt))
          by (inr le) = le

  not_before_drop : (at : Position) → not (point_before (point_of at) u.current.drop) ≡ true → u.current.drop.index ≤ at.index
  not_before_drop at e = go (point_before (point_of at) u.current.drop) refl e
    where
      go : (b : Bool) → point_before (point_of at) u.current.drop ≡ b → not b ≡ true → u.current.drop.index ≤ at.index
      go true f e = absurd (clash e)
      go false f e = let past = behind_point (point_of at) u.current.drop f in omega (arith, past)

  abbrev After : Result Message Refusal → Type 0
  After read = held_for u (message_received p now draw read r) ≡ held_for u r

  -- what keeps what is held leaves what is held of the instance
  by_held : (does : Holding → Holding) (h : Holding) → h ≡ held_for u r → does (held_for u r) ≡ held_for u r → does h ≡ h
  by_held does h e same = ap does e ∙ same ∙ sym e

  hears_data : (m : DataMessage) (indices : List ℕ) → decoded octets ≡ Ok (Data m) → m.head.instance ≡ u.current.id → IsTrueOf p u indices (Data m)
      → has_of_window p u r (want.Symbol (position (first_index indices) m.id.block m.id.symbol)) ≡ true → After (Ok (Data m))
  hears_data m indices read instance says e =
      let index : ℕ = says.0.index in
      let first : first_index indices ≡ says.0.index = ap first_index says.0.alone in
      let at : Position = position says.0.index m.id.block m.id.symbol in
      let parts = both (not (point_before (point_of (position says.0.index m.id.block m.id.symbol)) u.current.drop)) (has p u r (want.Symbol (position says.0.index m.id.block m.id.symbol)))
      (ap (λ (i : ℕ). has_of_window p u r (want.Symbol (position i m.id.block m.id.symbol))) (sym first) ∙ e) in
      let order : order_of u m.head.instance ≡ u.current.order =
      ap (order_of u) instance ∙ order_is p range hold events node other octets now draw may none r found member in
      let S : List ℕ → Type 0 = λ xs. SaysSymbol p u (about xs m) in
      let entry = some_and _ (slice_get (order_of u m.head.instance) says.0.index) (subst S says.0.alone says.1) in
      let there : slice_get u.current.order says.0.index ≡ Some entry.0 = ap (λ (o : List Entry). slice_get o says.0.index) (sym order) ∙ entry.1 in
      let D : Holding → Holding = object_held p (position says.0.index m.id.block m.id.symbol) m.extensions m.head.flags (put_symbol p (position says.0.index m.id.block m.id.symbol) m.payload) in
      let same = data_same p range u (held_for u r) rests m says.0.index entry.0 (not_before_drop (position says.0.index m.id.block m.id.symbol) parts.0) there parts.1 in
      let close = near p range hold events node other octets now draw may none r found member (Data m) m.head.instance m.head.object indices read (λ none. none) says.0
      (true_low p u indices (Data m) (orders_hold p u k.holds.sender) (few p range hold events node other octets now draw may none r found member) tt says)
      (λ xs true_of. (true_of.0, true_low p u xs (Data m) (orders_hold p u k.holds.sender) (few p range hold events node other octets now draw may none r found member) tt true_of)) in
      let I : ℕ → Type 0 = λ id. held_for u (in_instance p now draw m.head.source id m.head.object (data_received p m) r) ≡ held_for u r in
      subst I (sym instance)
      (instance_same p u now draw m.head.source m.head.object says.0.index (data_received p m) r says.0.named says.0.most
      (ap (λ (id : ℕ). are_near (known_in (entered r id)) (says.0.index ∷ [])) (sym instance) ∙ ap (are_near (known_in (entered r m.head.instance))) (sym says.0.alone) ∙ close)
      (λ t. refl) (λ t is. by_held D t.holding is same))

  hears_info : (m : InfoMessage) (indices : List ℕ) → decoded octets ≡ Ok (Info m) → m.head.instance ≡ u.current.id → IsTrueOf p u indices (Info m)
      → has_of_window p u r (want.Info (first_index indices)) ≡ true → After (Ok (Info m))
  hears_info m indices read instance says e =
      let first : first_index indices ≡ says.0.index = ap first_index says.0.alone in
      let parts = both (not (nat_lt says.0.index u.current.drop.index)) (has p u r (want.Info says.0.index))
      (ap (λ (i : ℕ). has_of_window p u r (want.Info i)) (sym first) ∙ e) in
      let D : Holding → Holding = object_held p (position says.0.index 0 0) m.extensions m.head.flags (put_info p says.0.index m.info) in
      let same = info_leaves p range u (held_for u r) rests m says.0.index (not_dropped says.0.index parts.0) parts.1 in
      let close = near p range hold events node other octets now draw may none r found member (Info m) m.head.instance m.head.object indices read (λ none. none) says.0
      (true_low p u indices (Info m) (orders_hold p u k.holds.sender) (few p range hold events node other octets now draw may none r found member) tt says)
      (λ xs true_of. (true_of.0, true_low p u xs (Info m) (orders_hold p u k.holds.sender) (few p range hold events node other octets now draw may none r found member) tt true_of)) in
      let I : ℕ → Type 0 = λ id. held_for u (in_instance p now draw m.head.source id m.head.object (info_received p m) r) ≡ held_for u r in
      subst I (sym instance)
      (instance_same p u now draw m.head.source m.head.object says.0.index (info_received p m) r says.0.named says.0.most
      (ap (λ (id : ℕ). are_near (known_in (entered r id)) (says.0.index ∷ [])) (sym instance) ∙ ap (are_near (known_in (entered r m.head.instance))) (sym says.0.alone) ∙ close)
      (λ t. refl) (λ t is. by_held D t.holding is same))

  hears_squelch : (m : SquelchCommand) (indices : List ℕ) → decoded octets ≡ Ok (Squelch m) → m.head.instance ≡ u.current.id → IsTrueOf p u indices (Squelch m)
      → same_point (point (first_index indices) m.id.block) u.current.drop ≡ true → After (Ok (Squelch m))
  hears_squelch m indices read instance says e =
      let first : first_index indices ≡ says.0.index = ap first_index says.0.alone in
      let parts = both (says.0.index == u.current.drop.index) (m.id.block == u.current.drop.block)
      (ap (λ (i : ℕ). same_point (point i m.id.block) u.current.drop) (sym first) ∙ e) in
      let index_is = (Decides-eqb says.0.index u.current.drop.index).0 parts.0 in
      let block_is = (Decides-eqb m.id.block u.current.drop.block).0 parts.1 in
      let is : point says.0.index m.id.block ≡ u.current.drop = ap (λ (i : ℕ). point i m.id.block) index_is ∙ ap (point u.current.drop.index) block_is in
      let D : Holding → Holding = squelched p (point says.0.index m.id.block) in
      let same = squelch_leaves p range u (held_for u r) rests (point says.0.index m.id.block) is in
      let close = near p range hold events node other octets now draw may none r found member (Squelch m) m.head.instance m.object indices read (λ none. none) says.0
      (true_low p u indices (Squelch m) (orders_hold p u k.holds.sender) (few p range hold events node other octets now draw may none r found member) tt says)
      (λ xs true_of. (true_of.0, true_low p u xs (Squelch m) (orders_hold p u k.holds.sender) (few p range hold events node other octets now draw may none r found member) tt true_of)) in
      let I : ℕ → Type 0 = λ id. held_for u (in_instance p now draw m.head.source id m.object (squelch_received p m) r) ≡ held_for u r in
      subst I (sym instance)
      (instance_same p u now draw m.head.source m.object says.0.index (squelch_received p m) r says.0.named says.0.most
      (ap (λ (id : ℕ). are_near (known_in (entered r id)) (says.0.index ∷ [])) (sym instance) ∙ ap (are_near (known_in (entered r m.head.instance))) (sym says.0.alone) ∙ close)
      (λ t. refl) (λ t is. by_held D t.holding is same))

  hears_flush : (m : FlushCommand) (indices : List ℕ) → decoded octets ≡ Ok (Flush m) → m.head.instance ≡ u.current.id → IsTrueOf p u indices (Flush m)
      → After (Ok (Flush m))
  hears_flush m indices read instance says =
      let close = near p range hold events node other octets now draw may none r found member (Flush m) m.head.instance m.object indices read (λ none. none) says.0
      (true_low p u indices (Flush m) (orders_hold p u k.holds.sender) (few p range hold events node other octets now draw may none r found member) tt says)
      (λ xs true_of. (true_of.0, true_low p u xs (Flush m) (orders_hold p u k.holds.sender) (few p range hold events node other octets now draw may none r found member) tt true_of)) in
      let I : ℕ → Type 0 = λ id. held_for u (in_instance p now draw m.head.source id m.object (flush_received m) r) ≡ held_for u r in
      subst I (sym instance)
      (instance_same p u now draw m.head.source m.object says.0.index (flush_received m) r says.0.named says.0.most
      (ap (λ (id : ℕ). are_near (known_in (entered r id)) (says.0.index ∷ [])) (sym instance) ∙ ap (are_near (known_in (entered r m.head.instance))) (sym says.0.alone) ∙ close)
      (λ t. refl) (λ t is. refl))

  pub hears_nothing : (indices : List ℕ) (m : Message) → IsOwnMessage p u.current.id m → IsTrueOf p u indices m → decoded octets ≡ Ok m
      → says_nothing_more p u r (first_index indices) m ≡ true → held_for u (received p r octets now draw) ≡ held_for u r
  hears_nothing indices m own says read e = subst After (sym read) (go m own says read e)
    where
      go : (m : Message) → IsOwnMessage p u.current.id m → IsTrueOf p u indices m → decoded octets ≡ Ok m → says_nothing_more p u r (first_index indices) m ≡ true
          → After (Ok m)
      go (Info m) mine true_of read e = hears_info m indices read mine.1 true_of e
      go (Data m) mine true_of read e = hears_data m indices read mine.1 true_of e
      go (Flush m) mine true_of read e = hears_flush m indices read mine.1 true_of
      go (Squelch m) mine true_of read e = hears_squelch m indices read mine.1 true_of e
      go (RepairAdv m) mine true_of read e = absurd mine
      go (Nack m) mine true_of read e = absurd mine
      go (Eot m) mine true_of read e = absurd mine
      go (AckReq m) mine true_of read e = absurd mine
      go (Opaque m) mine true_of read e = absurd mine
      go (Ack m) mine true_of read e = absurd mine
      go (Report m) mine true_of read e = absurd mine

-- ---- the law

pub had_brings_nothing : HadBringsNothing
had_brings_nothing p range hold events node now draw from d may none other r found member offered own e =
    hears_nothing p range hold events node other d.octets now draw may none r found member d.indices d.message own.message says own.read e
  where
    k' : HoldsIn p (run p events)
    k' = after_run p range events (front_laws.lawful p events (Delivered node d.octets now draw ∷ []) may.lawful)
        (front_laws.events events (Delivered node d.octets now draw ∷ []) may.jobs)

    says : IsTrueOf p (run p events).sender d.indices d.message
    says = (all_contains (λ (x : ℕ × Written). SaysTrue p (run p events).sender x.1) (run p events).offered (from, d) k'.holds.offered offered).1
