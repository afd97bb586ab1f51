use Rattle.norm_turns.proofs.FaultLemmas.{on_err}
use Rattle.driven_nodes.specs.Relayed.{hears_down, answers}
use Rattle.driven_nodes.proofs.ChainLemmas.{unless_on, breaks_on, if_ok}
use Rattle.driven_nodes.proofs.chain.Chain.take_down.Goals as goal

pub returns-clause-goes : goal.returns-clause-goes
returns-clause-goes g c =
    let u = g.K.Sink.pieces c.args.output.now in
    if_ok c.answer.result
    (λ refused.
    unless_on _ (hears_down c.args.octets.now c.args.now) (answers c.args.now) c.args.self.now c.hear_down.new.self c.answer.new.self u u
    (g.K.Sink.pieces c.answer.new.output) (c.hear_down.ensures u))
    c.answer.ensures.goes

pub returns-clause-stops : goal.returns-clause-stops
returns-clause-stops g c =
    let u = g.K.Sink.pieces c.args.output.now in
    on_err _ _ c.answer.result
    (λ failed.
    breaks_on failed (hears_down c.args.octets.now c.args.now) (answers c.args.now) c.args.self.now c.hear_down.new.self u u
    (g.K.Sink.pieces c.answer.new.output) (c.hear_down.ensures u))
    c.answer.ensures.stops
