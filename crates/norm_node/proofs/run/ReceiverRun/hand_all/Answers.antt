use Rattle.std.proofs.Common.{◌∙◌, ap}
use Rattle.std.proofs.lemmas.Result.{err_from_is_err_and}
use Rattle.norm_turns.specs.Causes.{Counted}
use Rattle.norm_node.specs.Lone.{Handing}
use Rattle.norm_turns.proofs.FaultLemmas.{at_fault}
use Rattle.norm_node.proofs.GoesLemmas.{stops_for_memory}
use Rattle.norm_node.proofs.run.ReceiverRun.hand_all.Goals as goal

pub returns-in_err-hand_up-clause-stops : goal.returns-in_err-hand_up-clause-stops
returns-in_err-hand_up-clause-stops g c =
    let exit = err_from_is_err_and c.from_residual.result c.from_residual.ensures.1 in
    at_fault _ c.from_residual.result exit.0 c.in_err-hand_up.field-0.0 exit.1 exit.2
    (λ x o here. c.in_err-hand_up.ensures.stops x o (c.loop.invariant.hands x o here))

pub loop-preserved : goal.loop-preserved
loop-preserved g c = record {
  hands = λ x o here. c.in_ok-hand_up.ensures.goes x o (c.loop.invariant.hands x o here);
  turn = record {
    turn = c.in_ok-hand_up.ensures.turn.turn ∙ c.loop.invariant.turn.turn;
    profile = c.in_ok-hand_up.ensures.turn.profile ∙ c.loop.invariant.turn.profile;
  };
  writes = ap (λ (k : Counted). k.output) (c.in_ok-hand_up.ensures.cause 0) ∙ c.loop.invariant.writes;
  puts = ap (λ (k : Counted). k.files) (c.in_ok-hand_up.ensures.cause 0) ∙ c.loop.invariant.puts;
}

pub returns-then-ups-gt0-clause-stops : goal.returns-then-ups-gt0-clause-stops
returns-then-ups-gt0-clause-stops g c x o here = stops_for_memory x c.loop.self Handing _ (c.loop.invariant.hands x o here)
