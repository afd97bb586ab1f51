use Rattle.std.proofs.Common.{◌∙◌, ap, sym, refl, rules}
use Rattle.std.proofs.lemmas.Result.{err_from_is_err_and}
use Rattle.norm_session.proofs.SoFarLemmas.{gained-nil}
use Rattle.norm_turns.specs.Causes.{Counted}
use Rattle.norm_turns.proofs.FaultLemmas.{at_fault}
use Rattle.norm_program.proofs.TailLemmas.{steps_on, steps_stop, steps_all}
use Rattle.norm_program.proofs.tail.write_steps.Goals as goal

pub loop-step-init : goal.loop-step-init
loop-step-init g c = record { lines = λ s st. sym (gained-nil (g.K.Sink.pieces c.args.output.now)); writes = refl }

pub returns-in_err-write_step-clause-stops : goal.returns-in_err-write_step-clause-stops
returns-in_err-write_step-clause-stops g c =
    let exit = err_from_is_err_and c.from_residual.result c.from_residual.ensures.1 in
    at_fault _ c.from_residual.result exit.0 c.in_err-write_step.field-0.0 exit.1 exit.2
    (λ s st.
    steps_stop c.in_err-write_step.field-0.0 s c.args.steps.now c.loop-step.step-index c.step-item.result (g.K.Sink.pieces c.args.output.now)
    (g.K.Sink.pieces c.loop-step.output) (g.K.Sink.pieces c.write_step.new.output) (search rules) c.step-item.is (c.loop-step.invariant.lines s st)
    (c.in_err-write_step.ensures.stops s st))

pub loop-step-preserved : goal.loop-step-preserved
loop-step-preserved g c = record {
  lines = λ s st.
      steps_on s c.args.steps.now c.loop-step.step-index c.step-item.result (g.K.Sink.pieces c.args.output.now) (g.K.Sink.pieces c.loop-step.output)
      (g.K.Sink.pieces c.write_step.new.output) (search rules) c.step-item.is (c.loop-step.invariant.lines s st) (c.in_ok-write_step.ensures.written s st);
  writes = ap (λ (k : Counted). k.output) (c.in_ok-write_step.ensures.cause 0 0) ∙ c.loop-step.invariant.writes;
}

pub returns-clause-written : goal.returns-clause-written
returns-clause-written g c s st =
    steps_all s c.args.steps.now c.loop-step.step-index (g.K.Sink.pieces c.args.output.now) (g.K.Sink.pieces c.loop-step.output) (search rules)
    (c.loop-step.invariant.lines s st)
