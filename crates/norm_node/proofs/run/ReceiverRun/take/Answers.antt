use Rattle.std.proofs.Common.{None, ap, ◌∙◌, sym, subst}
use Rattle.std.proofs.lemmas.Result.{err_from_is_err_and}
use Rattle.norm_base.specs.Network.{with_answer, answer_of}
use Rattle.norm_turns.specs.Causes.{session_fault}
use Rattle.norm_turns.specs.declared.fault.SessionFault.TheVariants as fault
use Rattle.norm_node.specs.Lone.{Taking}
use Rattle.norm_node.specs.Stopping.{Stopped}
use Rattle.norm_turns.proofs.FaultLemmas.{at_fault}
use Rattle.norm_node.proofs.GoesLemmas.{takes, take_lost, finds_none, network_stops, answer_is}
use Rattle.norm_node.proofs.run.ReceiverRun.take.Goals as goal

pub returns-in_err-to-clause-stops : goal.returns-in_err-to-clause-stops
returns-in_err-to-clause-stops g c =
    let exit = err_from_is_err_and c.from_residual.result c.from_residual.ensures.1 in
    let e = c.in_err-to.field-0.0 in
    at_fault _ c.from_residual.result exit.0 (session_fault e) exit.1 exit.2
    (λ x o count here. network_stops x c.args.self.now e (Taking count) o _ _ tt c.in_err-to.ensures.err.0 here)

pub returns-in_err-deliver-in-Some-clause-stops : goal.returns-in_err-deliver-in-Some-clause-stops
returns-in_err-deliver-in-Some-clause-stops g c =
    let exit = err_from_is_err_and c.from_residual-in_err-deliver-in-Some.result c.from_residual-in_err-deliver-in-Some.ensures.1 in
    let is = answer_is c.in_ok-to.field-0 c.in-Some.to c.take.new.into c.bytes.result.now c.in-Some.is c.bytes.ensures.octets in
    at_fault _ c.from_residual-in_err-deliver-in-Some.result exit.0 fault.Memory exit.1 (exit.2 ∙ c.in_err-deliver-in-Some.ensures.cause)
    (λ x o count here.
    take_lost x c.args.self.now o count c.in-Some.to c.bytes.result.now _ _ (c.in_ok-to.ensures.ok ∙ ap (with_answer (g.F.Fabric.told c.args.fabric.now)) is) here)

pub returns-in_ok-deliver-in-Some-clause-goes : goal.returns-in_ok-deliver-in-Some-clause-goes
returns-in_ok-deliver-in-Some-clause-goes g c x o count here =
    let is = answer_is c.in_ok-to.field-0 c.in-Some.to c.take.new.into c.bytes.result.now c.in-Some.is c.bytes.ensures.octets in
    takes x c.args.self.now c.deliver.new.self o count c.in-Some.to c.bytes.result.now _ _ c.in_ok-deliver-in-Some.ensures.goes
    (c.in_ok-to.ensures.ok ∙ ap (with_answer (g.F.Fabric.told c.args.fabric.now)) is) here

pub returns-in-None-clause-goes : goal.returns-in-None-clause-goes
returns-in-None-clause-goes g c x o count here =
    finds_none x c.args.self.now o count _ _
    (c.in_ok-to.ensures.ok ∙ ap (λ n. with_answer (g.F.Fabric.told c.args.fabric.now) (answer_of n c.take.new.into)) c.in-None.is) here
