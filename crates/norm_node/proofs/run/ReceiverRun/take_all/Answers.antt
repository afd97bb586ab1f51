use Rattle.std.proofs.Common.{◌∙◌, ◌<◌, ap, rules}
use Rattle.std.proofs.lemmas.Result.{err_from_is_err_and}
use Rattle.norm_turns.specs.Causes.{Counted, counted}
use Rattle.norm_turns.proofs.FaultLemmas.{at_fault}
use Rattle.norm_node.proofs.GoesLemmas.{takes_more, took_one}
use Rattle.norm_node.proofs.run.ReceiverRun.take_all.Goals as goal

pub returns-in_err-take-clause-stops : goal.returns-in_err-take-clause-stops
returns-in_err-take-clause-stops g c =
    let exit = err_from_is_err_and c.from_residual.result c.from_residual.ensures.1 in
    let lt : c.loop.counter < 512 = search rules in
    at_fault _ c.from_residual.result exit.0 c.in_err-take.field-0.0 exit.1 exit.2
    (λ x o here. c.in_err-take.ensures.stops x o c.loop.counter (takes_more x c.loop.self c.loop.counter _ lt (c.loop.invariant.takes x o here)))

pub returns-then-not-branch-clause-cause : goal.returns-then-not-branch-clause-cause
returns-then-not-branch-clause-cause g c output files =
    c.in_ok-take.ensures.cause output files ∙ ap (λ n. counted output n files) c.loop.invariant.calls

pub loop-preserved : goal.loop-preserved
loop-preserved g c =
    let lt : c.loop.counter < 512 = search rules in
    record {
      takes = λ x o here.
          took_one c.in_ok-take.field-0 x c.take.new.self c.loop.counter _ c.if-not-branch.false
          (c.in_ok-take.ensures.goes x o c.loop.counter (takes_more x c.loop.self c.loop.counter _ lt (c.loop.invariant.takes x o here)));
      turn = record {
        turn = c.in_ok-take.ensures.turn.turn ∙ c.loop.invariant.turn.turn;
        profile = c.in_ok-take.ensures.turn.profile ∙ c.loop.invariant.turn.profile;
      };
      calls = ap (λ (k : Counted). k.network) (c.in_ok-take.ensures.cause 0 0) ∙ c.loop.invariant.calls;
    }
