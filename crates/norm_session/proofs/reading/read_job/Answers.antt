use Rattle.std.proofs.Common.{refl}
use Rattle.std.proofs.lemmas.Result.{err_from_is_err_and}
use Rattle.norm_turns.specs.declared.fault.SessionFault.TheVariants as fault
use Rattle.norm_session.proofs.ServingLemmas.{cause_memory}
use Rattle.norm_session.proofs.reading.read_job.Goals as goal

pub returns-in_err-job-clause-cause : goal.returns-in_err-job-clause-cause
returns-in_err-job-clause-cause g c output network =
    let exit = err_from_is_err_and c.from_residual-in_err-job.result c.from_residual-in_err-job.ensures.1 in
    cause_memory c.from_residual-in_err-job.result exit.0 fault.Memory _ _ exit.1 exit.2 refl (c.in_ok-octets.ensures.cause output network)
