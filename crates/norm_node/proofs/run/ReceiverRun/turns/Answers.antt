use Rattle.std.proofs.lemmas.Result.{err_from_is_err_and}
use Rattle.norm_turns.proofs.FaultLemmas.{at_fault}
use Rattle.norm_node.proofs.run.ReceiverRun.turns.Goals as goal

pub returns-in_err-turn-clause-stops : goal.returns-in_err-turn-clause-stops
returns-in_err-turn-clause-stops g c =
    let exit = err_from_is_err_and c.from_residual.result c.from_residual.ensures.1 in
    at_fault _ c.from_residual.result exit.0 c.in_err-turn.field-0.0 exit.1 exit.2
    (λ x here. c.in_err-turn.ensures.stops x (c.loop-i.invariant.turned x here))
