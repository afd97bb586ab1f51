use Rattle.std.proofs.Common.{subst, sym, ◌∙◌}
use Rattle.std.proofs.lemmas.Result.{err_from_is_err_and}
use Rattle.norm_session.specs.RunKept.{RunKept}
use Rattle.norm_session.specs.Taking.{Delivers}
use Rattle.norm_turns.specs.declared.fault.SessionFault.TheVariants as fault
use Rattle.norm_turns.proofs.FaultLemmas.{at_fault}
use Rattle.norm_session.proofs.TakingLemmas.{takes, take_unnoted}
use Rattle.norm_session.proofs.run.Run.take_in.Goals as goal

pub returns-in_err-deliver-clause-stops : goal.returns-in_err-deliver-clause-stops
returns-in_err-deliver-clause-stops c =
    let exit = err_from_is_err_and c.from_residual.result c.from_residual.ensures.1 in
    at_fault _ c.from_residual.result exit.0 fault.Memory exit.1 (exit.2 ∙ c.in_err-deliver.ensures.memory)
    (λ x before now written count told may here. take_unnoted x c.args.self.now count c.args.to c.args.bytes.now before now written told may here)

pub returns-in_err-push_took-clause-stops : goal.returns-in_err-push_took-clause-stops
returns-in_err-push_took-clause-stops c =
    let exit = err_from_is_err_and c.from_residual-in_err-push_took.result c.from_residual-in_err-push_took.ensures.1 in
    at_fault _ c.from_residual-in_err-push_took.result exit.0 fault.Memory exit.1 exit.2
    (λ x before now written count told may here. take_unnoted x c.args.self.now count c.args.to c.args.bytes.now before now written told may here)

pub returns-clause-goes : goal.returns-clause-goes
returns-clause-goes c x before now written count told may here =
    takes x c.args.self.now _ c.push_took.new.self count c.args.to c.args.bytes.now before now written
    (subst (λ (u : RunKept). Delivers c.args.self.now u c.args.to c.args.bytes.now) (sym c.self.view_is) c.in_ok-deliver.ensures.goes)
    c.in_ok-push_took.ensures told may here
