use Rattle.std.proofs.Common.{◌≡◌, ◌∙◌, Bool, ap, subst, sym}
use Rattle.std.specs.Prelude.{not, ◌||◌}
use Rattle.std.specs.List.{list_any}
use Rattle.fec_plan.specs.Points.{Point, point}
use Rattle.norm_send_rules.specs.InWindow.{stands_behind}
use Rattle.norm_send_rules.specs.Dropping.{dropped_to}
use Rattle.tx_window.specs.WindowState.{drop_of}
use Rattle.nack_union.specs.Kept.{MayRetire, retired}
use Rattle.nack_union.specs.UnionState.{UnionState, Stands as UnionStands}
use Rattle.norm_sender.proofs.RetiringLemmas.{may_retire}
use Rattle.norm_sender.specs.declared.pace.Pace.{Pace}
use Rattle.norm_sender.proofs.parts.Parts.retire.Goals as goal

pub returns-clause-union : goal.returns-clause-union
returns-clause-union c s h =
    let first = c.first-index in
    let at : point first.result.0 first.result.1 ≡ drop_of c.args.self.now.window =
    ap (λ i. point i first.result.1) first.ensures.number.0 ∙ ap (point c.args.self.now.window.dropped) first.ensures.number.1 in
    subst (λ (d : Point). UnionStands c.retire-dropped.new.self (dropped_to d s)) at (c.retire-dropped.ensures.stands s h)

pub returns-clause-pace : goal.returns-clause-pace
returns-clause-pace c s h =
    let first = c.first-index in
    let at : point first.result.0 first.result.1 ≡ drop_of c.args.self.now.window =
    ap (λ i. point i first.result.1) first.ensures.number.0 ∙ ap (point c.args.self.now.window.dropped) first.ensures.number.1 in
    let pace : Pace = c.args.self.now.pace in
    c.retired-self.ensures
    ∙ ap (λ (b : Bool). record pace { squelch_due = pace.squelch_due || b })
    (c.retire-dropped.ensures.wanted s h ∙ ap (λ (d : Point). list_any (λ want. not (stands_behind d want)) s.wants) at)

pub retire-dropped-requires : goal.retire-dropped-requires
retire-dropped-requires c =
    let first = c.first-index in
    let u = c.args.self.now.union in
    let d = drop_of c.args.self.now.window in
    subst (λ i. MayRetire i first.result.1 u.kept) (sym first.ensures.number.0)
    (subst (λ b. MayRetire d.index b u.kept) (sym first.ensures.number.1)
    (may_retire u c.requires.state d c.requires.stands c.requires.onward c.fits.ensures))

pub returns-clause-exact : goal.returns-clause-exact
returns-clause-exact c =
    let first = c.first-index in
    let u : UnionState = c.args.self.now.union in
    c.retire-dropped.ensures.exact
    ∙ ap (λ i. record u { kept = retired i first.result.1 u.kept }) first.ensures.number.0
    ∙ ap (λ b. record u { kept = retired c.args.self.now.window.dropped b u.kept }) first.ensures.number.1
