use Rattle.std.proofs.Common.{◌≡◌, ◌++◌, ap, sym, subst, ◌∙◌, arith, None, Some, Option, [], ◌∷◌, length}
use Rattle.std.specs.Prelude.{option_to_list, option_map}
use Rattle.std.proofs.lemmas.List.{append-nil}
use Rattle.fec_plan.specs.Partition.{Cut}
use Rattle.tx_object.specs.Held.{HeldObject}
use Rattle.tx_window.specs.Rows.{IsRow, IsFilling, all_octets, filling_in}
use Rattle.tx_window.proofs.RowLemmas.{octets_cons}
use Rattle.tx_window.proofs.BeginningLemmas.{row_left}
use Rattle.tx_window.specs.WindowState.{WindowState, Stands}
use Rattle.tx_window.specs.WindowSound.{window_view, objects_in, all_kept}
use Rattle.tx_window.proofs.StandingLemmas.{stands_given_up}
use Rattle.tx_window.proofs.window.Window.leave.Goals as goal

pub invariant_of-self : goal.invariant_of-self
invariant_of-self c =
    let w = c.self.inside in
    let old = c.self.invariant in
    let h = c.in-Some.begun in
    let hs = objects_in w.held.items in
    let was : w.begun ≡ Some h = sym c.take.ensures.value ∙ c.in-Some.is in
    let now : c.take.new.self ≡ None = c.take.ensures.after in
    let all : all_kept w ≡ hs ++ h ∷ [] = ap (λ b. hs ++ option_to_list b) was in
    let left : hs ++ option_to_list c.take.new.self ≡ hs = ap (λ b. hs ++ option_to_list b) now ∙ append-nil hs in
    let filling : IsFilling w.ring w.profile w.filled h = old.filling h was in
    let e-is : h.cut.e ≡ w.profile.e = ap (λ (k : Cut). k.e) filling.cut in
    let one = ap (λ (b : Option HeldObject). all_octets (option_to_list b)) was in
    let none = ap (λ (b : Option HeldObject). all_octets (option_to_list b)) now in
    let one_long = ap (λ (b : Option HeldObject). length (option_to_list b)) was in
    let none_long = ap (λ (b : Option HeldObject). length (option_to_list b)) now in
    record {
      ring_long = old.ring_long;
      octets = omega (arith, old.octets, one, none, octets_cons h [], c.len.ensures.exact);
      fit = omega (arith, old.fit);
      few = omega (arith, old.few, one_long, none_long);
      row = subst (λ ks. IsRow w.ring w.profile ks c.start-self-inside.result) (sym left)
          (subst (λ at. IsRow w.ring w.profile hs at) (sym c.start-self-inside.ensures)
          (row_left w.ring w.profile hs h w.free (sym e-is) filling.lies.start_whole (subst (λ ks. IsRow w.ring w.profile ks w.free) all old.row)));
      placed = old.placed;
      filling = λ k e. absurd (never k (sym now ∙ e));
      room = λ k e. absurd (never k (sym now ∙ e));
      counted = omega (arith, old.counted, one_long, none_long);
      sized = old.sized;
      numbered = old.numbered;
    }
  where
    never : (k : HeldObject) → ◌≡◌ {A = Option HeldObject} None (Some k) → ⊥
    never k e = cc

pub returns-in-Some-clause-stands : goal.returns-in-Some-clause-stands
returns-in-Some-clause-stands c = λ s stands.
    let w = c.self.inside in
    subst (λ (b : Option HeldObject). Stands (record (window_view w) { filling = option_map (filling_in w.ring w.filled) b }) s) (sym c.take.ensures.after)
    (stands_given_up (window_view w) s None (subst (λ (v : WindowState). Stands v s) (sym c.self.view_is) stands))
