use Rattle.std.proofs.Common.{refl, inl}
use Rattle.std.proofs.lemmas.Result.{err_from_is_err_and}
use Rattle.norm_turns.specs.declared.fault.SessionFault.TheVariants as fault
use Rattle.norm_turns.proofs.FaultLemmas.{at_fault}
use Rattle.norm_session.proofs.StartingLemmas.{ok_and, run_and, err_and, why_and, cause_and}
use Rattle.norm_session.proofs.run.Run.start.Goals as goal

pub returns-in_err-run-clause-why : goal.returns-in_err-run-clause-why
returns-in_err-run-clause-why g c =
    let exit = err_from_is_err_and c.from_residual.result c.from_residual.ensures.1 in
    at_fault _ c.from_residual.result exit.0 fault.Memory exit.1 exit.2 (inl refl)

pub returns-clause-starts : goal.returns-clause-starts
returns-clause-starts g c = ok_and _ c.start_network-started.result _ c.and.result c.and.ensures c.start_network-started.ensures.starts

pub returns-clause-goes : goal.returns-clause-goes
returns-clause-goes g c = run_and _ c.start_network-started.result _ c.and.result c.and.ensures (λ x begun. c.in_ok-run.ensures x _ begun)

pub returns-clause-same : goal.returns-clause-same
returns-clause-same g c = err_and _ c.start_network-started.result _ c.and.result c.and.ensures c.start_network-started.ensures.same

pub returns-clause-why : goal.returns-clause-why
returns-clause-why g c = why_and _ c.start_network-started.result _ c.and.result c.and.ensures c.start_network-started.ensures.why

pub returns-clause-cause : goal.returns-clause-cause
returns-clause-cause g c = cause_and c.start_network-started.result _ c.and.result _ _ c.and.ensures c.start_network-started.ensures.cause
