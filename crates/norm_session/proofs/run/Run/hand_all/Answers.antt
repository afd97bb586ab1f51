use Rattle.std.proofs.Common.{◌∙◌, ap}
use Rattle.std.proofs.lemmas.Result.{err_from_is_err_and}
use Rattle.norm_journal.specs.Places.{Handing}
use Rattle.norm_turns.specs.Causes.{Counted}
use Rattle.norm_turns.proofs.FaultLemmas.{at_fault}
use Rattle.norm_session.proofs.HandingLemmas.{stops_at}
use Rattle.norm_session.proofs.run.Run.hand_all.Goals as goal

pub returns-in_err-hand_up-clause-stops : goal.returns-in_err-hand_up-clause-stops
returns-in_err-hand_up-clause-stops g c =
    let exit = err_from_is_err_and c.from_residual.result c.from_residual.ensures.1 in
    at_fault _ c.from_residual.result exit.0 c.in_err-hand_up.field-0.0 exit.1 exit.2
    (λ x nodes network here. c.in_err-hand_up.ensures.stops x nodes network (c.loop.invariant.hands x nodes network here))

pub loop-preserved : goal.loop-preserved
loop-preserved g c = record {
  hands = λ x nodes network here. c.in_ok-hand_up.ensures.goes x nodes network (c.loop.invariant.hands x nodes network here);
  nodes = c.in_ok-hand_up.ensures.nodes ∙ c.loop.invariant.nodes;
  counts = ap (λ (k : Counted). k.output) (c.in_ok-hand_up.ensures.cause 0 0) ∙ c.loop.invariant.counts;
}

pub returns-then-ups-gt0-clause-stops : goal.returns-then-ups-gt0-clause-stops
returns-then-ups-gt0-clause-stops g c x nodes network here =
    stops_at x c.loop.self (Handing c.args.node nodes) network (g.K.Sink.pieces c.loop.output) (c.loop.invariant.hands x nodes network here)
