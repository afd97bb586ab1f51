use Rattle.std.proofs.Common.{◌-◌, ◌∙◌, ap, sym, subst}
use Rattle.std.specs.Prelude.{slice_get}
use Rattle.nack_union.specs.Kept.{asked_so_far}
use Rattle.nack_union.specs.UnionState.{UnionState, Stands}
use Rattle.nack_union.proofs.union.Union.note_sent.Goals as goal

pub returns-clause-stands : goal.returns-clause-stands
returns-clause-stands c = λ s stands.
    let u = c.self.inside in
    let here = subst (λ (v : UnionState). Stands v s) (sym c.self.view_is) stands in
    record { holds = c.note_sent.ensures.stands u.profile s here.holds; collects = c.note_sent.ensures.collects u.profile s (asked_so_far s) here.collects }

pub returns-clause-sound : goal.returns-clause-sound
returns-clause-sound c = λ m there.
    c.note_sent.ensures.sound m (ap (λ (u : UnionState). slice_get u.kept.objects (c.args.at.index - u.kept.first)) c.self.view_is ∙ there)
