use Rattle.std.proofs.Common.{subst}
use Rattle.std.proofs.lemmas.Result.{err_from_is_err_and}
use Rattle.norm_turns.specs.Causes.{HasCause, counted}
use Rattle.norm_turns.proofs.FaultLemmas.{at_fault, on_err}
use Rattle.driven_nodes.specs.Relayed.{hears_up, answers}
use Rattle.driven_nodes.proofs.ChainLemmas.{unless_on, breaks_on, breaks_first, if_ok}
use Rattle.driven_nodes.proofs.chain.Chain.take_up.Goals as goal

pub returns-in_err-hear_up-clause-stops : goal.returns-in_err-hear_up-clause-stops
returns-in_err-hear_up-clause-stops g c =
    let exit = err_from_is_err_and c.from_residual.result c.from_residual.ensures.1 in
    let f = c.in_err-hear_up.field-0.0 in
    at_fault _ c.from_residual.result exit.0 f exit.1 exit.2
    (breaks_first f (hears_up c.args.octets.now c.args.now) (answers c.args.now) c.args.self.now (g.K.Sink.pieces c.args.output.now) (g.K.Sink.pieces c.hear_up.new.output)
    c.in_err-hear_up.ensures.stops)

pub returns-clause-goes : goal.returns-clause-goes
returns-clause-goes g c =
    if_ok c.answer.result
    (λ refused.
    unless_on _ (hears_up c.args.octets.now c.args.now) (answers c.args.now) c.args.self.now c.hear_up.new.self c.answer.new.self (g.K.Sink.pieces c.args.output.now)
    (g.K.Sink.pieces c.hear_up.new.output) (g.K.Sink.pieces c.answer.new.output) c.in_ok-hear_up.ensures.goes)
    c.answer.ensures.goes

pub returns-clause-stops : goal.returns-clause-stops
returns-clause-stops g c =
    on_err _ _ c.answer.result
    (λ failed.
    breaks_on failed (hears_up c.args.octets.now c.args.now) (answers c.args.now) c.args.self.now c.hear_up.new.self (g.K.Sink.pieces c.args.output.now)
    (g.K.Sink.pieces c.hear_up.new.output) (g.K.Sink.pieces c.answer.new.output) c.in_ok-hear_up.ensures.goes)
    c.answer.ensures.stops

pub returns-clause-cause : goal.returns-clause-cause
returns-clause-cause g c network files =
    subst (λ k. HasCause c.answer.result k (counted (g.K.Sink.fault_count c.answer.new.output) network files))
    (c.in_ok-hear_up.ensures.cause network files) (c.answer.ensures.cause network files)
