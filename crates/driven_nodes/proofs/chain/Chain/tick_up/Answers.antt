use Rattle.std.proofs.Common.{◌∙◌, refl}
use Rattle.std.specs.Prelude.{codes}
use Rattle.std.proofs.lemmas.Result.{err_from_is_err_and}
use Rattle.norm_turns.proofs.FaultLemmas.{at_fault, on_ok, on_err}
use Rattle.norm_turns.specs.declared.fault.SessionFault.TheVariants as fault
use Rattle.driven_nodes.specs.Relayed.{ticks_up, up_sent, up_ticked}
use Rattle.driven_nodes.proofs.ChainLemmas.{sends_nothing, sends_one, sends_less, lacks}
use Rattle.driven_nodes.proofs.chain.Chain.tick_up.Goals as goal

pub returns-in_err-sent-clause-stops : goal.returns-in_err-sent-clause-stops
returns-in_err-sent-clause-stops g c =
    let exit = err_from_is_err_and c.from_residual.result c.from_residual.ensures.1 in
    at_fault _ c.from_residual.result exit.0 fault.Memory exit.1 (exit.2 ∙ c.in_err-sent.ensures.cause)
    (lacks (ticks_up c.args.now) c.args.self.now (g.K.Sink.pieces c.args.output.now) (g.K.Sink.pieces c.args.output.now) refl)

pub returns-in-Nothing-clause-goes : goal.returns-in-Nothing-clause-goes
returns-in-Nothing-clause-goes g c =
    sends_nothing (codes "up") (up_sent c.args.now) (up_ticked c.args.now) c.in_ok-sent.sent c.args.self.now c.tick_above.new.self (g.K.Sink.pieces c.args.output.now)
    c.in_ok-sent.ensures.goes c.in-Nothing.is

pub returns-in-Datagram-clause-goes : goal.returns-in-Datagram-clause-goes
returns-in-Datagram-clause-goes g c =
    on_ok c.write_sent.result
    (sends_one (codes "up") (up_sent c.args.now) (up_ticked c.args.now) c.in_ok-sent.sent c.args.self.now c.tick_above.new.self _ c.write_sent.new.line
    (g.K.Sink.pieces c.args.output.now) (g.K.Sink.pieces c.write_sent.new.output) c.in_ok-sent.ensures.goes c.in-Datagram.is c.bytes.ensures.octets)
    c.write_sent.ensures.written

pub returns-in-Datagram-clause-stops : goal.returns-in-Datagram-clause-stops
returns-in-Datagram-clause-stops g c =
    on_err _ _ c.write_sent.result
    (λ failed.
    sends_less failed (codes "up") (up_sent c.args.now) (up_ticked c.args.now) c.in_ok-sent.sent c.args.self.now c.tick_above.new.self _
    (g.K.Sink.pieces c.args.output.now) (g.K.Sink.pieces c.write_sent.new.output) c.in_ok-sent.ensures.goes c.in-Datagram.is c.bytes.ensures.octets)
    c.write_sent.ensures.stops
