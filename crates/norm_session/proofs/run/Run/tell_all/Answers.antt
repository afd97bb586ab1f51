use Rattle.std.proofs.Common.{◌∙◌, ap, subst, ◌-◌, ◌≤◌, rules}
use Rattle.std.proofs.lemmas.Result.{err_from_is_err_and}
use Rattle.norm_turns.specs.Causes.{Counted, counted}
use Rattle.norm_session.specs.Context.{with_posted}
use Rattle.norm_session.specs.Telling.{HasTold}
use Rattle.norm_turns.proofs.FaultLemmas.{at_fault}
use Rattle.norm_session.proofs.TellingLemmas.{tells_on, told_all}
use Rattle.norm_session.proofs.run.Run.tell_all.Goals as goal

pub returns-in_err-tell-clause-stops : goal.returns-in_err-tell-clause-stops
returns-in_err-tell-clause-stops g c =
    let exit = err_from_is_err_and c.from_residual.result c.from_residual.ensures.1 in
    at_fault _ c.from_residual.result exit.0 c.in_err-tell.field-0.0 exit.1 exit.2
    (λ x place network here.
    c.in_err-tell.ensures.stops x place network (c.untold-end.result - c.loop.counter) (c.loop.invariant.tells x place network here))

pub returns-then-not-branch-clause-goes : goal.returns-then-not-branch-clause-goes
returns-then-not-branch-clause-goes g c x place network here =
    let many = c.untold-end.result - c.loop.counter in
    subst (λ b. HasTold b (with_posted x c.tell.new.board) c.tell.new.self place network (g.K.Sink.pieces c.tell.new.output) (c.untold-end.result - c.loop.counter)) c.if-not-branch.true
    (c.in_ok-tell.ensures.goes x place network many (c.loop.invariant.tells x place network here))

pub returns-then-not-branch-clause-cause : goal.returns-then-not-branch-clause-cause
returns-then-not-branch-clause-cause g c network files =
    c.in_ok-tell.ensures.cause network files ∙ ap (λ n. counted n network files) c.loop.invariant.counts

pub loop-preserved : goal.loop-preserved
loop-preserved g c = record {
  tells = λ x place network here.
      tells_on (with_posted x c.tell.new.board) c.tell.new.self place network (g.K.Sink.pieces c.tell.new.output) c.in_ok-tell.field-0 c.untold-end.result c.loop.counter
      c.if-not-branch.false
      (c.in_ok-tell.ensures.goes x place network (c.untold-end.result - c.loop.counter) (c.loop.invariant.tells x place network here));
  counts = ap (λ (k : Counted). k.output) (c.in_ok-tell.ensures.cause 0 0) ∙ c.loop.invariant.counts;
}

pub returns-clause-goes : goal.returns-clause-goes
returns-clause-goes g c x place network here =
    let past : c.untold-end.result ≤ c.loop.counter = search rules in
    told_all (with_posted x c.loop.board) c.loop.self place network (g.K.Sink.pieces c.loop.output) c.untold-end.result c.loop.counter past
    (c.loop.invariant.tells x place network here)
