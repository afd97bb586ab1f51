use Rattle.std.proofs.Common.{◌≡◌, List, ap, subst}
use Rattle.norm_script.specs.Commands.{Commands}
use Rattle.norm_script.specs.declared.script.Line.{Line}
use Rattle.norm_session.specs.Left.{lines_at}
use Rattle.norm_session.proofs.StartingLemmas.{run_begins}
use Rattle.norm_session.proofs.run.Run.begun.Goals as goal

pub returns : goal.returns
returns c x network =
    let left_all = subst (λ (s : Commands). lines_at s.lines c.in_ok-left.left ≡ s.lines) c.script.view_is (subst (λ (ls : List Line). lines_at ls c.in_ok-left.left ≡ ls) c.deref.ensures.value c.in_ok-left.ensures) in
    run_begins x c.args.script.now c.args.alone network c.script.inside.profile c.in_ok-world.world c.in_ok-journal.journal c.new-totals.result
    c.first_draws-draws.result c.in_ok-left.left left_all (ap (λ (s : Commands). s.profile) c.script.view_is) c.in_ok-world.ensures.profile
    c.in_ok-world.ensures.stands c.in_ok-journal.ensures c.new-totals.ensures c.first_draws-draws.ensures
