use Rattle.std.proofs.Common.{subst}
use Rattle.std.proofs.lemmas.Result.{err_from_is_err_and}
use Rattle.norm_turns.specs.Causes.{HasCause, counted}
use Rattle.norm_turns.proofs.FaultLemmas.{at_fault, on_err}
use Rattle.driven_nodes.specs.Relayed.{ticks_up, answers_below}
use Rattle.driven_nodes.proofs.ChainLemmas.{unless_on, breaks_on, breaks_first, if_ok}
use Rattle.driven_nodes.proofs.chain.Chain.answer.Goals as goal

pub returns-in_err-tick_up-clause-stops : goal.returns-in_err-tick_up-clause-stops
returns-in_err-tick_up-clause-stops g c =
    let exit = err_from_is_err_and c.from_residual.result c.from_residual.ensures.1 in
    let f = c.in_err-tick_up.field-0.0 in
    at_fault _ c.from_residual.result exit.0 f exit.1 exit.2
    (breaks_first f (ticks_up c.args.now) (answers_below c.args.now) c.args.self.now (g.K.Sink.pieces c.args.output.now) (g.K.Sink.pieces c.tick_up.new.output)
    c.in_err-tick_up.ensures.stops)

pub returns-clause-goes : goal.returns-clause-goes
returns-clause-goes g c =
    if_ok c.answer_below.result
    (λ refused.
    unless_on _ (ticks_up c.args.now) (answers_below c.args.now) c.args.self.now c.tick_up.new.self c.answer_below.new.self (g.K.Sink.pieces c.args.output.now)
    (g.K.Sink.pieces c.tick_up.new.output) (g.K.Sink.pieces c.answer_below.new.output) c.in_ok-tick_up.ensures.goes)
    c.answer_below.ensures.goes

pub returns-clause-stops : goal.returns-clause-stops
returns-clause-stops g c =
    on_err _ _ c.answer_below.result
    (λ failed.
    breaks_on failed (ticks_up c.args.now) (answers_below c.args.now) c.args.self.now c.tick_up.new.self (g.K.Sink.pieces c.args.output.now)
    (g.K.Sink.pieces c.tick_up.new.output) (g.K.Sink.pieces c.answer_below.new.output) c.in_ok-tick_up.ensures.goes)
    c.answer_below.ensures.stops

pub returns-clause-cause : goal.returns-clause-cause
returns-clause-cause g c network files =
    subst (λ k. HasCause c.answer_below.result k (counted (g.K.Sink.fault_count c.answer_below.new.output) network files))
    (c.in_ok-tick_up.ensures.cause network files) (c.answer_below.ensures.cause network files)
