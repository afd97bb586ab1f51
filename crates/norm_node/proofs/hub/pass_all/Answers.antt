use Rattle.std.proofs.Common.{◌∙◌, ◌<◌, ap, rules}
use Rattle.std.proofs.lemmas.Result.{err_from_is_err_and}
use Rattle.norm_turns.specs.Causes.{Counted, counted}
use Rattle.norm_turns.proofs.FaultLemmas.{at_fault}
use Rattle.norm_node.proofs.HubLemmas.{listens_more, passed_one}
use Rattle.norm_node.proofs.hub.pass_all.Goals as goal

pub returns-in_err-pass-clause-stops : goal.returns-in_err-pass-clause-stops
returns-in_err-pass-clause-stops g c =
    let exit = err_from_is_err_and c.from_residual.result c.from_residual.ensures.1 in
    let lt : c.loop.counter < 512 = search rules in
    at_fault _ c.from_residual.result exit.0 c.in_err-pass.field-0.0 exit.1 exit.2
    (λ p o k moments here. c.in_err-pass.ensures.stops p o k c.loop.counter moments (listens_more p o k c.loop.counter _ lt (c.loop.invariant.passes p o k moments here)))

pub returns-then-not-branch-clause-cause : goal.returns-then-not-branch-clause-cause
returns-then-not-branch-clause-cause g c output files =
    c.in_ok-pass.ensures.cause output files ∙ ap (λ n. counted output n files) c.loop.invariant.calls

pub loop-preserved : goal.loop-preserved
loop-preserved g c =
    let lt : c.loop.counter < 512 = search rules in
    record {
      passes = λ p o k moments here.
          passed_one c.in_ok-pass.field-0 p o k c.loop.counter _ c.if-not-branch.false
          (c.in_ok-pass.ensures.goes p o k c.loop.counter moments (listens_more p o k c.loop.counter _ lt (c.loop.invariant.passes p o k moments here)));
      calls = ap (λ (k : Counted). k.network) (c.in_ok-pass.ensures.cause 0 0) ∙ c.loop.invariant.calls;
    }
