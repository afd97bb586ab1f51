use Rattle.std.proofs.Common.{◌≡◌, ◌+◌, ◌*◌, ◌/◌, ◌++◌, Some, length, ◌≤◌, ap, sym, subst, ◌∙◌, ℕ, List, map, arith}
use Rattle.std.specs.Prelude.{None, [], slice_get}
use Rattle.std.proofs.Math.Nat.{mul-le-mul_right}
use Rattle.std.proofs.lemmas.List.{length-replicate}
use Rattle.norm_base.specs.Settings.{Settings}
use Rattle.norm_base.specs.ProfileView.{settings_of}
use Rattle.norm_send_rules.specs.SenderState.{sender_opening}
use Rattle.tx_object.specs.Held.{HeldObject}
use Rattle.tx_window.specs.declared.entry.HeldEntry.{HeldEntry}
use Rattle.tx_window.proofs.RowLemmas.{row_empty}
use Rattle.tx_window.specs.Extents.{shape_of_extent}
use Rattle.tx_window.specs.WindowState.{WindowState, Stands}
use Rattle.tx_window.specs.WindowSound.{objects_in}
use Rattle.tx_window.specs.declared.extent.Extent.{Extent}
use Rattle.tx_window.proofs.ObjectsLemmas.{none_sized}
use Rattle.tx_window.proofs.StandingLemmas.{begins}
use Rattle.tx_window.proofs.window.Window.new.Goals as goal

-- a window of these entries and extents, none of which was dropped
abbrev with_entries : Settings → List ℕ → List HeldEntry → List Extent → WindowState
with_entries p ring es xs = record { p = p; ring = ring; dropped = 0; entries = es; forgotten = 0; shapes = map (shape_of_extent p) xs; filling = None; last = None; past = None }

pub returns-clause-begun : goal.returns-clause-begun
returns-clause-begun c = λ instance.
    subst (λ (w : WindowState). Stands w (sender_opening c.args.profile.now instance))
    (sym (ap (λ (p : Settings). with_entries p c.in_ok-ring.ring c.in_ok-held.held.items c.new-2.result.items) c.profile.view_is
    ∙ ap (λ (es : List HeldEntry). with_entries c.args.profile.now c.in_ok-ring.ring es c.new-2.result.items) c.in_ok-held.ensures.items
    ∙ ap (λ (xs : List Extent). with_entries c.args.profile.now c.in_ok-ring.ring [] xs) c.new-2.ensures.items))
    (begins c.args.profile.now c.in_ok-ring.ring (subst (λ (p : Settings). 1 ≤ p.receivers) c.profile.view_is c.profile.invariant.receivers.0) instance)

pub invariant_of-result-2 : goal.invariant_of-result-2
invariant_of-result-2 c =
    let p = c.profile.inside in
    let least : 64 ≤ p.e = c.profile.invariant.e.0 in
    let most : 1 ≤ p.window = c.profile.invariant.window.0 in
    let none = c.in_ok-held.ensures.items in
    let long : length c.in_ok-ring.ring ≡ (p.octets / p.e + p.window) * p.e =
    ap length c.in_ok-ring.ensures
    ∙ length-replicate {A = ℕ} ((c.from.result / c.from-e.result + c.from-2.result) * c.from-e.result) 0
    ∙ ap (λ o. (o / c.from-e.result + c.from-2.result) * c.from-e.result) c.from.ensures
    ∙ ap (λ w. (p.octets / c.from-e.result + w) * c.from-e.result) c.from-2.ensures
    ∙ ap (λ e. (p.octets / e + p.window) * e) c.from-e.ensures in
    record {
      ring_long = long;
      octets = none_sized (settings_of p) c.in_ok-held.held.items none;
      fit = omega arith;
      few = omega (arith, ap length none, most);
      row = row_empty c.in_ok-ring.ring _ _ (ap (λ (es : List HeldEntry). objects_in es ++ []) none) (omega (arith, long, least, most, some_ring (p.octets / p.e) p.window p.e most));
      placed = λ i h e. absurd (nothing i h (ap (λ (es : List HeldEntry). slice_get (objects_in es) i) (sym none) ∙ e));
      filling = λ h e. absurd (cc);
      room = λ h e. absurd (cc);
      counted = omega (arith, ap length none);
      sized = λ i x e. absurd (nobody i x (ap (λ (xs : List Extent). slice_get xs i) (sym c.new-2.ensures.items) ∙ e));
      numbered = omega (arith, ap length none, ap length c.new-2.ensures.items);
    }
  where
    some_ring : (a b e : ℕ) → 1 ≤ b → e ≤ (a + b) * e
    some_ring a b e some = let whole : 1 ≤ a + b = omega arith in let times : 1 * e ≤ (a + b) * e = mul-le-mul_right e whole in omega arith

    nobody : (i : ℕ) (x : Extent) → slice_get [] i ≡ Some x → ⊥
    nobody i x e = cc

    nothing : (i : ℕ) (h : HeldObject) → slice_get [] i ≡ Some h → ⊥
    nothing i h e = cc
