use Rattle.std.proofs.Common.{sym}
use Rattle.std.proofs.lemmas.Result.{err_from_is_err_and}
use Rattle.norm_journal.specs.Places.{Over}
use Rattle.norm_turns.proofs.FaultLemmas.{at_fault}
use Rattle.norm_session.proofs.run.Run.finish.Goals as goal

pub returns-in_err-summarize-clause-stops : goal.returns-in_err-summarize-clause-stops
returns-in_err-summarize-clause-stops g c =
    let exit = err_from_is_err_and c.from_residual.result c.from_residual.ensures.1 in
    at_fault _ c.from_residual.result exit.0 c.in_err-summarize.field-0.0 exit.1 exit.2
    (λ x network last. c.in_err-summarize.ensures.stops x network last.here last.done)

pub returns-clause-goes : goal.returns-clause-goes
returns-clause-goes g c x network last is =
    let e = c.in_ok-summarize.ensures.goes x network last.here last.done in
    record { here = e; whole_is = sym (c.is_whole.ensures x e.world Over e.so_far.all is e.so_far.stands) }
