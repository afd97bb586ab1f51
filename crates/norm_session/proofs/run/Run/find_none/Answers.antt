use Rattle.std.proofs.lemmas.Result.{err_from_is_err_and}
use Rattle.norm_turns.specs.declared.fault.SessionFault.TheVariants as fault
use Rattle.norm_turns.proofs.FaultLemmas.{at_fault}
use Rattle.norm_session.proofs.TakingLemmas.{finds_none, none_unnoted}
use Rattle.norm_session.proofs.run.Run.find_none.Goals as goal

pub returns-in_err-push_empty-clause-stops : goal.returns-in_err-push_empty-clause-stops
returns-in_err-push_empty-clause-stops c =
    let exit = err_from_is_err_and c.from_residual.result c.from_residual.ensures.1 in
    at_fault _ c.from_residual.result exit.0 fault.Memory exit.1 exit.2
    (λ x before now written count told may here. none_unnoted x c.args.self.now count before now written told may here)

pub returns-clause-goes : goal.returns-clause-goes
returns-clause-goes c x before now written count told may here =
    finds_none x _ c.args.self.now c.push_empty.new.self count before now written c.self.view_is c.in_ok-push_empty.ensures told may here
