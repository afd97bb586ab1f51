-- In a session of data, files and marks over a direct network each receiver handed up all through the position of each flush, as that is given.
use Rattle.std.proofs.Common.{◌≡◌, ℕ, ◌+◌, ◌<◌, ◌≤◌, List, [], ◌∷◌, length, Bool, true, false, Option, Some, sym, ap, ◌∙◌, subst, arith, ◌⊎◌, inl, inr}
use Rattle.std.specs.Prelude.{◌&&◌, nat_lt}
use Rattle.std.proofs.lemmas.Bool.{cases_lt}
use Rattle.std.proofs.lemmas.Option.{slice_get_within}
use Rattle.norm_base.specs.Settings.{Settings, InRange}
use Rattle.norm_base.specs.declared.node.Origin.{Origin}
use Rattle.fec_plan.specs.Points.{position, position_before}
use Rattle.fec_plan.specs.declared.position.Position.{Position}
use Rattle.fec_plan.proofs.PositionLemmas.{before_decides}
use Rattle.norm_ext.specs.Message.{Message, Flush, FlushCommand}
use Rattle.norm_ext.specs.Written.{Written}
use Rattle.norm_order.specs.Entries.{Object, Whole, Stream, Entry}
use Rattle.norm_order.specs.Shapes.{Shape, shapes_of, is_source, closed_in}
use Rattle.norm_receive_rules.specs.Acknowledging.{has_handed_up}
use Rattle.norm_receive_rules.specs.ReceiverState.{ReceiverState}
use Rattle.norm_send_rules.specs.SenderState.{SenderState}
use Rattle.norm_safety.specs.Hands.{hands}
use Rattle.norm_safety.specs.History.{Happening}
use Rattle.norm_safety.specs.InOrder.{drop_of}
use Rattle.norm_safety.specs.OnceEach.{order_of}
use Rattle.norm_safety.specs.Said.{first_index}
use Rattle.norm_safety.specs.World.{World, receiver_at}
use Rattle.norm_safety.proofs.EntryLemmas.{clash}
use Rattle.norm_safety.proofs.GoesOn.{IsFinished}
use Rattle.norm_safety.proofs.Holding.{HoldsOf}
use Rattle.norm_safety.proofs.Passed.{StandsAt}
use Rattle.norm_safety.proofs.ReceiverMoves.{StandingIn}
use Rattle.norm_safety.proofs.SenderHolds.{current_sized}
use Rattle.norm_safety.proofs.Spoken.{IsTrueOf, SaysTrue, sized_at, current_order, entry_with}
use Rattle.norm_safety.proofs.WorldHolds.{AtReceiver, AtNode}
use Rattle.norm_laws.specs.HandedUp.{Passing}
use Rattle.norm_laws.proofs.Everything.{not_finished}
use Rattle.norm_laws.proofs.PassingRun.{HasAt}
use Rattle.norm_laws.proofs.PassingWords.{Has}
use Rattle.norm_laws.proofs.WholeOrders.{IsWhole, current_whole}
use Rattle.norm_recovery.proofs.SteadyBefore.{Before, whole_entry}
use Rattle.norm_recovery.proofs.SteadyNeeds.{entry_within, shape_at}
use Rattle.norm_recovery.proofs.SteadyNothing.{Along, apart}
use Rattle.norm_recovery.proofs.SteadyTells.{Leads}

-- a receiver is in the sender's instance, and handed up all through a position
pub record HandedThrough (s : SenderState) (r : ReceiverState) (at : Position) : Type 0 where
  pub inside : r.instance ≡ Some s.current.id
  pub past : at.index < r.holding.point.index
  pub handed : has_handed_up r.holding at ≡ true

module _ (p : Settings) (range : InRange p) (past : List Happening) (accepted : List Origin) (w : World) (x : Passing) (along : Along p past accepted w x) (node : ℕ) (r : ReceiverState)
    (found : receiver_at w node ≡ Some r) where
  abbrev s : SenderState
  s = w.sender

  abbrev order : List Entry
  order = s.current.order

  here : AtReceiver p s past node r
  here = let A : Option ReceiverState → Type 0 = λ o. AtNode p s past node o in subst A found (along.holds.nodes node)

  has : Has p along.passed.ticked x node r
  has =
      let H : Option ReceiverState → Type 0 = λ o. HasAt p along.passed.ticked x w.offered w.given node o in
      (subst H found (along.passed.nodes node (apart p w along.nodes node r found))).has

  holds : r.instance ≡ Some s.current.id → HoldsOf p order (drop_of s s.current.id) (hands past node s.current.id) r.knows.due r.holding
  holds inside =
      let S : Option ℕ → Type 0 = λ instance. StandingIn p s (hands past node) r instance in
      let H : List Entry → Type 0 = λ xs. HoldsOf p xs (drop_of s s.current.id) (hands past node s.current.id) r.knows.due r.holding in
      subst H (current_order s along.holds.once.ids) (subst S inside here.stands)

  -- an object that is had is handed up
  not_at : r.instance ≡ Some s.current.id → (index block : ℕ) → Before p s.current r index block → r.holding.point.index < index → r.holding.point.index < length order → ⊥
  not_at inside index block before lt within =
      let entry = entry_within order r.holding.point.index within in
      let whole : IsWhole entry.0.object = whole_entry order r.holding.point.index entry.0 (current_whole s along.calm.whole) entry.1 in
      let T : Option Entry → Type 0 = λ o. StandsAt p o r.holding.point.block r.holding.point.symbol in
      not_finished p range order r.holding entry.0 (holds inside).plans entry.1 (sized_at p order r.holding.point.index entry.0 (current_sized p s along.holds.sender) entry.1)
      (subst T entry.1 (holds inside).gone.stands) (record {
        symbols = λ b n e. (before.symbols (position r.holding.point.index b n)
            (shape_at p order r.holding.point.index entry.0 (λ (z : Shape). nat_lt n (closed_in z b)) entry.1 e) (inl lt)).1;
        info = λ e. (before.infos r.holding.point.index (shape_at p order r.holding.point.index entry.0 (λ (z : Shape). z.info) entry.1 e) lt).1;
      }) has.far.stuck (finished entry.0.object whole)
    where
      finished : (o : Object) → IsWhole o → IsFinished o
      finished (Whole kind info octets) is = tt
      finished (Stream parts) is = absurd is

  through : (at : Position) → is_source (shapes_of p order) at ≡ true → Before p s.current r (at.index + 1) 0 → HandedThrough s r at
  through at source before =
      let inside = (before.symbols at source (inl (let lt : at.index < at.index + 1 = omega arith in lt))).0 in
      let there = entry_with p order at.index (λ (z : Shape). nat_lt at.symbol (closed_in z at.block)) source in
      let within = slice_get_within order at.index there.0 there.1 in
      let lt : at.index < r.holding.point.index = beyond inside within (cases_lt at.index r.holding.point.index) in
      record { inside = inside; past = lt; handed = both (position_before at r.holding.point) ((before_decides at r.holding.point).1 (inl (inl lt))) (nothing r.holding.lost has.lost) }
    where
      beyond : r.instance ≡ Some s.current.id → at.index < length order → (at.index < r.holding.point.index) ⊎ (r.holding.point.index ≤ at.index) → at.index < r.holding.point.index
      beyond inside within (inl lt) = lt
      beyond inside within (inr le) = absurd (not_at inside (at.index + 1) 0 before (omega (arith, le)) (omega (arith, le, within)))

      nothing : (lost : List ℕ) → lost ≡ [] → (elim lost as (λ _. Bool) [ [] ↦ true | index ∷ more ↦ false ]) ≡ true
      nothing lost e = ap (λ (xs : List ℕ). elim xs as (λ _. Bool) [ [] ↦ true | index ∷ more ↦ false ]) e

      both : (a : Bool) {b : Bool} → a ≡ true → b ≡ true → (a && b) ≡ true
      both true e f = f
      both false e f = absurd (clash e)

  -- So it is of each flush that leads the receiver to where it has all before, as each does that was given.
  pub flush_handed : (o : Written) (m : FlushCommand) → o.message ≡ Flush m → SaysTrue p s o → Leads p s.current r o.indices o.message
      → HandedThrough s r (position (first_index o.indices) m.id.block m.id.symbol)
  flush_handed o m is says leads =
      let T : Message → Type 0 = λ n. IsTrueOf p s o.indices n in
      let L : Message → Type 0 = λ n. Leads p s.current r o.indices n in
      let own = subst L is leads in
      let at : Position = position (first_index o.indices) m.id.block m.id.symbol in
      let source : is_source (shapes_of p (order_of s m.head.instance)) at ≡ true = (subst T is says.1).1 in
      through at (ap (λ (xs : List Entry). is_source (shapes_of p xs) at) (sym (ap (order_of s) own.0 ∙ current_order s along.holds.once.ids)) ∙ source) own.1
