-- What is kept of an INFO or DATA, by whether it has transmission information.
use Rattle.std.proofs.Common.{◌≡◌, ℕ, Bool, true, false, List, Option, Some, None, Result, Ok, Err, refl, sym, ap, subst, ◌∙◌}
use Rattle.std.specs.Prelude.{IfOk, not, ◌==◌, ◌&&◌}
use Rattle.std.specs.List.{list_any}
use Rattle.fec_plan.specs.declared.position.Position.{Position}
use Rattle.norm_receive_rules.specs.ReceiverState.{ReceiverState}
use Rattle.norm_receive_rules.specs.Acknowledging.{has_handed_up, acknowledges, lost_nothing}
use Rattle.norm_receiver.specs.Numbers.{numbers_of}
use Rattle.norm_receiver.specs.declared.numbers.Numbers.{Numbers}
use Rattle.norm_base.specs.Settings.{Settings}
use Rattle.fec_plan.specs.Points.{point_of, position_before}
use Rattle.norm_ext.specs.Extensions.{Extension, fti_of}
use Rattle.norm_ext.specs.declared.fti.Fti.{Fti}
use Rattle.norm_receive_rules.specs.Holding.{Holding}
use Rattle.norm_receive_rules.specs.HandingUp.{handed_up}
use Rattle.norm_receive_rules.specs.Seeing.{sees_block}
use Rattle.norm_receive_rules.specs.Receiving.{object_held}
use Rattle.rx_hold.specs.EntryHold.{EntryHold, StandsFor as HoldStands}
use Rattle.norm_receiver.specs.Receiving.{puts, place_of, object_told}
use Rattle.norm_receiver.specs.declared.receiving.Brought.{Brought}
use Rattle.norm_receiver.specs.declared.receiving.Brought.TheVariants as brought

-- what is held then, by the transmission information that was found
abbrev held_by : Settings → ℕ → ℕ → Brought → Holding → Option Fti → Holding
held_by p index flags b s found = elim found [
  | Some f ↦ object_told p index f flags b s
  | None ↦ handed_up p (puts p index b (sees_block (point_of (place_of index b)) s))
]

told_as : (p : Settings) (index flags : ℕ) (b : Brought) (s : Holding) (exts : List Extension)
    → object_held p (place_of index b) exts flags (puts p index b) s ≡ held_by p index flags b s (fti_of exts)
told_as p index flags (brought.Info info) s exts = refl
told_as p index flags (brought.Symbol id payload) s exts = refl

pub told_leaves : {A E : Type 0} → (r : Result A E) (p : Settings) (index flags : ℕ) (b : Brought) (exts : List Extension) (f : Fti) (old new : EntryHold)
    → Some f ≡ fti_of exts → IfOk r (λ _. (s : Holding) → HoldStands old s → HoldStands new (object_told p index f flags b s))
    → IfOk r (λ _. (s : Holding) → HoldStands old s → HoldStands new (object_held p (place_of index b) exts flags (puts p index b) s))
told_leaves (Ok x) p index flags b exts f old new e h = λ s stands.
    subst (λ (t : Holding). HoldStands new t) (ap (held_by p index flags b s) e ∙ sym (told_as p index flags b s exts)) (h s stands)
told_leaves (Err x) p index flags b exts f old new e h = tt

-- ---- what is to be acknowledged

abbrev by_names : ReceiverState → Position → Bool → Bool
by_names s at named = named && has_handed_up s.holding at

pub not_named : (s : ReceiverState) (n : Numbers) (at : Position) (nodes : List ℕ) (named : Bool) → n ≡ numbers_of s
    → named ≡ list_any (λ node. node == n.node) nodes → named ≡ false → false ≡ acknowledges s at nodes
not_named s n at nodes named is e unnamed =
    sym (ap (by_names s at) (sym (e ∙ ap (λ (x : Numbers). list_any (λ node. node == x.node) nodes) is) ∙ unnamed))

pub named_all : (s : ReceiverState) (n : Numbers) (at : Position) (nodes : List ℕ) (named : Bool) (point : Position) (lost answer : Bool) → n ≡ numbers_of s
    → named ≡ list_any (λ node. node == n.node) nodes → named ≡ true → point ≡ s.holding.point → lost_nothing s.holding ≡ not lost
    → answer ≡ (position_before at point && not lost) → answer ≡ acknowledges s at nodes
named_all s n at nodes named point lost answer is e this point_is lost_is answer_is =
    answer_is
    ∙ ap (λ (p : Position). position_before at p && not lost) point_is
    ∙ ap (λ (b : Bool). position_before at s.holding.point && b) (sym lost_is)
    ∙ sym (ap (by_names s at) (sym (e ∙ ap (λ (x : Numbers). list_any (λ node. node == x.node) nodes) is) ∙ this))
