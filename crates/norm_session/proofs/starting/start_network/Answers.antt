use Rattle.std.proofs.lemmas.Result.{err_from_is_err_and}
use Rattle.norm_turns.specs.Causes.{session_fault}
use Rattle.norm_turns.proofs.FaultLemmas.{at_fault, network_cause}
use Rattle.norm_session.proofs.StartingLemmas.{start_fault}
use Rattle.norm_session.proofs.starting.start_network.Goals as goal

pub returns-in_err-start-clause-why : goal.returns-in_err-start-clause-why
returns-in_err-start-clause-why g c =
    let exit = err_from_is_err_and c.from_residual.result c.from_residual.ensures.1 in
    at_fault _ c.from_residual.result exit.0 (session_fault c.in_err-start.field-0.0) exit.1 exit.2 (start_fault c.in_err-start.field-0.0)

pub returns-in_err-start-clause-cause : goal.returns-in_err-start-clause-cause
returns-in_err-start-clause-cause g c =
    let exit = err_from_is_err_and c.from_residual.result c.from_residual.ensures.1 in
    network_cause _ (Unit {0}) c.from_residual.result exit.0 c.in_err-start.field-0.0 _ _ exit.1 exit.2 c.in_err-start.ensures.cause
