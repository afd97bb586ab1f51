use Rattle.std.proofs.Common.{◌≡◌, ◌+◌, ◌++◌, ap, sym, subst, ◌∙◌, arith, ℕ, None, Some, List, [], length, map}
use Rattle.std.specs.Prelude.{slice_get}
use Rattle.norm_base.specs.Settings.{Settings}
use Rattle.norm_send_rules.specs.Restarting.{begun_anew}
use Rattle.tx_object.specs.Held.{HeldObject}
use Rattle.tx_window.specs.declared.entry.HeldEntry.{HeldEntry}
use Rattle.tx_window.specs.Rows.{all_octets}
use Rattle.tx_window.proofs.RowLemmas.{row_empty}
use Rattle.tx_window.specs.Extents.{shape_of_extent}
use Rattle.tx_window.specs.WindowState.{WindowState, Stands}
use Rattle.tx_window.specs.WindowSound.{all_sizes, objects_in}
use Rattle.tx_window.specs.declared.extent.Extent.{Extent}
use Rattle.tx_window.proofs.StandingLemmas.{empty_window, begins_anew}
use Rattle.tx_window.proofs.window.Window.clear.Goals as goal

pub invariant_of-self : goal.invariant_of-self
invariant_of-self c =
    let old = c.self.invariant in
    let none = c.clear.ensures.items in
    record {
      ring_long = old.ring_long;
      octets = sym (ap (λ (es : List HeldEntry). all_sizes c.self.inside.profile es + all_octets []) none);
      fit = omega arith;
      few = omega (arith, ap length none);
      row = row_empty c.self.inside.ring _ _ (ap (λ (es : List HeldEntry). objects_in es ++ []) none) (omega (arith, old.row.head_within));
      placed = λ i h e. absurd (nothing i h (ap (λ (es : List HeldEntry). slice_get (objects_in es) i) (sym none) ∙ e));
      filling = λ h e. absurd (cc);
      room = λ h e. absurd (cc);
      counted = omega (arith, ap length none);
      numbered = omega (arith, ap length none, ap length c.clear-2.ensures.items);
      sized = λ i x e. absurd (nobody i x (ap (λ (xs : List Extent). slice_get xs i) (sym c.clear-2.ensures.items) ∙ e));
    }
  where
    nobody : (i : ℕ) (x : Extent) → slice_get [] i ≡ Some x → ⊥
    nobody i x e = cc

    nothing : (i : ℕ) (h : HeldObject) → slice_get [] i ≡ Some h → ⊥
    nothing i h e = cc

-- a window of these entries and extents, none of which was dropped
abbrev with_entries : Settings → List ℕ → List HeldEntry → List Extent → WindowState
with_entries p ring es xs = record { p = p; ring = ring; dropped = 0; entries = es; forgotten = 0; shapes = map (shape_of_extent p) xs; filling = None; last = None; past = None }

pub returns-clause-begun : goal.returns-clause-begun
returns-clause-begun c = λ id s stands.
    subst (λ (w : WindowState). Stands w (begun_anew id s))
    (sym (ap (λ (es : List HeldEntry). with_entries c.self.inside.profile c.self.inside.ring es c.clear-2.new.self.items) c.clear.ensures.items
    ∙ ap (λ (xs : List Extent). with_entries c.self.inside.profile c.self.inside.ring [] xs) c.clear-2.ensures.items
    ∙ ap (λ (v : WindowState). empty_window v.p v.ring) c.self.view_is))
    (begins_anew c.args.self.now s id stands)
