use Rattle.std.specs.Prelude.{codes}
use Rattle.norm_turns.proofs.FaultLemmas.{on_ok, on_err}
use Rattle.driven_nodes.specs.Relayed.{down_sent, down_ticked}
use Rattle.driven_nodes.proofs.ChainLemmas.{sends_nothing, sends_one, sends_less}
use Rattle.driven_nodes.proofs.chain.Chain.tick_down.Goals as goal

pub returns-in-Nothing-clause-goes : goal.returns-in-Nothing-clause-goes
returns-in-Nothing-clause-goes g c =
    sends_nothing (codes "down") (down_sent c.args.now) (down_ticked c.args.now) c.tick_below.result c.args.self.now c.tick_below.new.self
    (g.K.Sink.pieces c.args.output.now) c.tick_below.ensures c.in-Nothing.is

pub returns-in-Datagram-clause-goes : goal.returns-in-Datagram-clause-goes
returns-in-Datagram-clause-goes g c =
    on_ok c.write_sent.result
    (sends_one (codes "down") (down_sent c.args.now) (down_ticked c.args.now) c.tick_below.result c.args.self.now c.tick_below.new.self _ c.write_sent.new.line
    (g.K.Sink.pieces c.args.output.now) (g.K.Sink.pieces c.write_sent.new.output) c.tick_below.ensures c.in-Datagram.is c.bytes.ensures.octets)
    c.write_sent.ensures.written

pub returns-in-Datagram-clause-stops : goal.returns-in-Datagram-clause-stops
returns-in-Datagram-clause-stops g c =
    on_err _ _ c.write_sent.result
    (λ failed.
    sends_less failed (codes "down") (down_sent c.args.now) (down_ticked c.args.now) c.tick_below.result c.args.self.now c.tick_below.new.self _
    (g.K.Sink.pieces c.args.output.now) (g.K.Sink.pieces c.write_sent.new.output) c.tick_below.ensures c.in-Datagram.is c.bytes.ensures.octets)
    c.write_sent.ensures.stops
