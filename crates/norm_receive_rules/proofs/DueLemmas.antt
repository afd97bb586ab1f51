-- What a receiver acknowledges was handed up.
use Rattle.std.proofs.Common.{◌≡◌, ℕ, ◌≤◌, ◌⊎◌, inr, List, [], ◌∷◌, Bool, true, false, Option, None, Some, refl, sym, ap, subst, ◌∙◌}
use Rattle.std.specs.Prelude.{◌&&◌, IfSome, if◌then◌else◌}
use Rattle.std.specs.List.{AllByRecursion}
use Rattle.norm_base.specs.Settings.{Settings}
use Rattle.fec_plan.specs.Points.{point_of, position, position_before, further}
use Rattle.fec_plan.specs.declared.position.Position.{Position}
use Rattle.fec_plan.proofs.PositionLemmas.{Before, before_decides}
use Rattle.norm_ext.specs.Extensions.{Extension, fti_of}
use Rattle.norm_ext.specs.Message.{FlushCommand}
use Rattle.norm_ext.specs.declared.fti.Fti.{Fti}
use Rattle.norm_receive_rules.specs.Acknowledging.{lost_nothing, has_handed_up, names_this, acknowledges}
use Rattle.norm_receive_rules.specs.DueLaws.{WasHandedUp, DueLaws}
use Rattle.norm_receive_rules.specs.Fitting.{fit_of, fitted, lets_put}
use Rattle.norm_receive_rules.specs.HandingUp.{handed_up}
use Rattle.norm_receive_rules.specs.Holding.{Holding}
use Rattle.norm_receive_rules.specs.Laws.{LosesMore}
use Rattle.norm_receive_rules.specs.Losing.{squelched}
use Rattle.norm_receive_rules.specs.Putting.{put_of, put_symbol, with_symbol, put_info_of, put_info, with_info}
use Rattle.norm_receive_rules.specs.ReceiverState.{ReceiverState}
use Rattle.norm_receive_rules.specs.Receiving.{object_held, flush_received}
use Rattle.norm_receive_rules.specs.Seeing.{sees_block}
use Rattle.norm_receive_rules.specs.Taking.{up_taken}
use Rattle.norm_receive_rules.specs.declared.words.Fit.{Fit}
use Rattle.norm_receive_rules.specs.declared.words.Fit.TheVariants as fit
use Rattle.norm_receive_rules.specs.declared.words.Put.{Put}
use Rattle.norm_receive_rules.specs.declared.words.Put.TheVariants as put
use Rattle.norm_receive_rules.proofs.BesideLemmas.{up_loses, squelch_loses, taking, index_on, all_above, all_of_both}
use Rattle.norm_receive_rules.proofs.HandUpLemmas.{behind_still}
use Rattle.norm_receive_rules.proofs.HoldingSteps.{IsKept, steps_keep_both}

clash : false ≡ true → ⊥
clash e = cc

both_true : (a b : Bool) → (a && b) ≡ true → (a ≡ true) × (b ≡ true)
both_true true b e = (refl, e)
both_true false b e = absurd (clash e)

abbrev Due : Holding → Option Position → Type 0
Due s due = IfSome due (λ at. WasHandedUp s at)

-- where the point does not go back, and what is lost besides does not lie before it, what was handed up was
moved : (s t : Holding) → (s.point ≡ t.point) ⊎ Before s.point t.point → LosesMore s t → (at : Position) → WasHandedUp s at → WasHandedUp t at
moved s t on lost at h = record {
  behind = (before_decides at t.point).1 (behind_still at s.point t.point before on);
  kept = subst (λ (xs : List ℕ). AllByRecursion (λ index. at.index ≤ index) xs) (sym lost.1)
      (all_of_both at.index s.lost lost.0 h.kept (all_above at.index s.point.index (index_on at s.point (inr before)) lost.0 lost.2));
}
  where
    before : Before at s.point
    before = (before_decides at s.point).0 h.behind

due_moved : (s t : Holding) → (s.point ≡ t.point) ⊎ Before s.point t.point → LosesMore s t → (due : Option Position) → Due s due → Due t due
due_moved s t on lost None h = tt
due_moved s t on lost (Some at) h = moved s t on lost at h

-- the same point and the same losses
record IsStill (s t : Holding) : Type 0 where
  point : t.point ≡ s.point
  lost : t.lost ≡ s.lost

due_still : (s t : Holding) → IsStill s t → (due : Option Position) → Due s due → Due t due
due_still s t still None h = tt
due_still s t still (Some at) h = record {
  behind = ap (λ (x : Position). position_before at x) still.point ∙ h.behind;
  kept = subst (λ (xs : List ℕ). AllByRecursion (λ index. at.index ≤ index) xs) (sym still.lost) h.kept;
}

fitted_still : (word : Fit) (index : ℕ) (f : Fti) (flags : ℕ) (s : Holding) → IsStill s (fitted word index f flags s)
fitted_still fit.Known index f flags s = record { point = refl; lost = refl }
fitted_still fit.Away index f flags s = record { point = refl; lost = refl }
fitted_still fit.Unfit index f flags s = record { point = refl; lost = refl }
fitted_still fit.Taken index f flags s = record { point = refl; lost = refl }

symbol_still : (word : Put) (at : Position) (payload : List ℕ) (s : Holding) → IsStill s (with_symbol word at payload s)
symbol_still put.Kept at payload s = record { point = refl; lost = refl }
symbol_still put.Had at payload s = record { point = refl; lost = refl }
symbol_still put.Away at payload s = record { point = refl; lost = refl }
symbol_still put.Unfit at payload s = record { point = refl; lost = refl }

info_still : (word : Put) (index : ℕ) (info : List ℕ) (s : Holding) → IsStill s (with_info word index info s)
info_still put.Kept index info s = record { point = refl; lost = refl }
info_still put.Had index info s = record { point = refl; lost = refl }
info_still put.Away index info s = record { point = refl; lost = refl }
info_still put.Unfit index info s = record { point = refl; lost = refl }

object_due : (p : Settings) (at : Position) (extensions : List Extension) (flags : ℕ) (brings : Holding → Holding) (s : Holding) (due : Option Position)
    → ((t : Holding) → IsStill t (brings t)) → Due s due → Due (object_held p at extensions flags brings s) due
object_due p at extensions flags brings s due still h = go (fti_of extensions)
  where
    put : (t : Holding) → Due t due → (b : Bool) → Due (elim b as (λ _. Holding) [
      | true ↦ handed_up p (brings (sees_block (point_of at) t))
      | false ↦ sees_block (point_of at) t
    ]) due
    put t k false = due_still t (sees_block (point_of at) t) (record { point = refl; lost = refl }) due k
    put t k true =
        let seen : Holding = sees_block (point_of at) t in
        let there = due_still seen (brings seen) (still seen) due (due_still t seen (record { point = refl; lost = refl }) due k) in
        due_moved (brings seen) (handed_up p (brings seen)) (up_loses p (brings seen)).goes.1 (up_loses p (brings seen)).lost due there

    go : (found : Option Fti) → Due (elim found as (λ _. Holding) [
      | Some f ↦ (
          let word = fit_of p s at.index f flags in
          let s' = sees_block (point_of at) (fitted word at.index f flags s) in
          elim (lets_put word) [ true ↦ handed_up p (brings s') | false ↦ s' ]
          )
      | None ↦ handed_up p (brings (sees_block (point_of at) s))
    ]) due
    go None = put s h true
    go (Some f) = put (fitted (fit_of p s at.index f flags) at.index f flags s)
        (due_still s (fitted (fit_of p s at.index f flags) at.index f flags s) (fitted_still (fit_of p s at.index f flags) at.index f flags s) due h)
        (lets_put (fit_of p s at.index f flags))

-- what a flush makes due was handed up
flush_due : (m : FlushCommand) (index : ℕ) (s : ReceiverState) → Due s.holding s.knows.due → Due s.holding (flush_received m index s).knows.due
flush_due m index s h = go (acknowledges s at m.nodes) refl
  where
    at : Position
    at = position index m.id.block m.id.symbol

    none_lost : (lost : List ℕ) → elim lost [ [] ↦ true | index ∷ more ↦ false ] ≡ true → AllByRecursion (λ index. at.index ≤ index) lost
    none_lost [] e = tt
    none_lost (index ∷ lost) e = absurd (clash e)

    own : acknowledges s at m.nodes ≡ true → WasHandedUp s.holding at
    own e =
        let has = (both_true (names_this s m.nodes) (has_handed_up s.holding at) e).1 in
        let tests = both_true (position_before at s.holding.point) (lost_nothing s.holding) has in
        record { behind = tests.0; kept = none_lost s.holding.lost tests.1 }

    one : (other : Position) (b : Bool) → WasHandedUp s.holding at → WasHandedUp s.holding other → Due s.holding (if b then Some at else Some other)
    one other true mine k = mine
    one other false mine k = k

    joins : (due : Option Position) → Due s.holding due → WasHandedUp s.holding at → Due s.holding (further at due)
    joins None k mine = mine
    joins (Some other) k mine = one other (position_before other at) mine k

    go : (b : Bool) → acknowledges s at m.nodes ≡ b → Due s.holding (elim b as (λ _. Option Position) [ true ↦ further at s.knows.due | false ↦ s.knows.due ])
    go true e = joins s.knows.due h (own e)
    go false e = h

is_kept : (p : Settings) → IsKept p Due
is_kept p = record {
  nothing = tt;
  symbol = λ at extensions flags payload s due h.
      object_due p at extensions flags (put_symbol p at payload) s due (λ t. symbol_still (put_of p t at payload) at payload t) h;
  info = λ at extensions flags index info s due h.
      object_due p at extensions flags (put_info p index info) s due (λ t. info_still (put_info_of p t index info) index info t) h;
  squelch = λ first s due h. due_moved s (squelched p first s) (squelch_loses p first s).goes.1 (squelch_loses p first s).lost due h;
  take = λ s due h. due_still s (up_taken s).0 (record { point = (taking s).point; lost = (taking s).lost }) due h;
  flush = λ m index s h. flush_due m index s h;
  told = λ s due h. tt;
}

pub due_laws : DueLaws
due_laws = record {
  begins = λ node. tt;
  goes_on = λ p s event h. steps_keep_both p Due (is_kept p) s event h;
}
