use Rattle.std.proofs.Common.{subst}
use Rattle.std.specs.Option.{option_map}
use Rattle.norm_turns.proofs.FaultLemmas.{on_err}
use Rattle.relay_words.specs.declared.event.LineEvent.TheVariants as event
use Rattle.relay_words.specs.declared.ends.RelayEnd.TheVariants as stop
use Rattle.driven_nodes.specs.Chaining.{Breaks, DoesUnless}
use Rattle.driven_nodes.specs.Relayed.{takes_event}
use Rattle.driven_nodes.proofs.ChainLemmas.{if_ok, event_does, event_breaks}
use Rattle.driven_nodes.proofs.chain.Chain.take_event.Goals as goal

pub returns-in-Up-clause-goes : goal.returns-in-Up-clause-goes
returns-in-Up-clause-goes g c =
    if_ok c.take_up.result
    (λ refused goes.
    event_does (event.Up c.in-Up.datagram) c.args.event (option_map stop.Refused refused) c.args.now c.args.self.now c.take_up.new.self (g.K.Sink.pieces c.args.output.now)
    (g.K.Sink.pieces c.take_up.new.output) c.in-Up.is
    (subst (λ octets. DoesUnless (takes_event (event.Up octets) c.args.now) (option_map stop.Refused refused) c.args.self.now c.take_up.new.self
    (g.K.Sink.pieces c.args.output.now) (g.K.Sink.pieces c.take_up.new.output)) c.bytes.ensures goes))
    c.take_up.ensures.goes

pub returns-in-Up-clause-stops : goal.returns-in-Up-clause-stops
returns-in-Up-clause-stops g c =
    on_err _ _ c.take_up.result
    (λ failed stops.
    event_breaks failed (event.Up c.in-Up.datagram) c.args.event c.args.now c.args.self.now (g.K.Sink.pieces c.args.output.now) (g.K.Sink.pieces c.take_up.new.output) c.in-Up.is
    (subst (λ octets. Breaks (takes_event (event.Up octets) c.args.now) failed c.args.self.now (g.K.Sink.pieces c.args.output.now)
    (g.K.Sink.pieces c.take_up.new.output)) c.bytes.ensures stops))
    c.take_up.ensures.stops

pub returns-in-Down-clause-goes : goal.returns-in-Down-clause-goes
returns-in-Down-clause-goes g c =
    if_ok c.take_down.result
    (λ refused goes.
    event_does (event.Down c.in-Down.datagram) c.args.event (option_map stop.Refused refused) c.args.now c.args.self.now c.take_down.new.self (g.K.Sink.pieces c.args.output.now)
    (g.K.Sink.pieces c.take_down.new.output) c.in-Down.is
    (subst (λ octets. DoesUnless (takes_event (event.Down octets) c.args.now) (option_map stop.Refused refused) c.args.self.now c.take_down.new.self
    (g.K.Sink.pieces c.args.output.now) (g.K.Sink.pieces c.take_down.new.output)) c.bytes-in-Down.ensures goes))
    c.take_down.ensures.goes

pub returns-in-Down-clause-stops : goal.returns-in-Down-clause-stops
returns-in-Down-clause-stops g c =
    on_err _ _ c.take_down.result
    (λ failed stops.
    event_breaks failed (event.Down c.in-Down.datagram) c.args.event c.args.now c.args.self.now (g.K.Sink.pieces c.args.output.now) (g.K.Sink.pieces c.take_down.new.output) c.in-Down.is
    (subst (λ octets. Breaks (takes_event (event.Down octets) c.args.now) failed c.args.self.now (g.K.Sink.pieces c.args.output.now)
    (g.K.Sink.pieces c.take_down.new.output)) c.bytes-in-Down.ensures stops))
    c.take_down.ensures.stops

pub returns-in-Tick-clause-goes : goal.returns-in-Tick-clause-goes
returns-in-Tick-clause-goes g c =
    if_ok c.answer.result
    (λ refused.
    event_does event.Tick c.args.event (option_map stop.Refused refused) c.args.now c.args.self.now c.answer.new.self (g.K.Sink.pieces c.args.output.now)
    (g.K.Sink.pieces c.answer.new.output) c.in-Tick.is)
    c.answer.ensures.goes

pub returns-in-Tick-clause-stops : goal.returns-in-Tick-clause-stops
returns-in-Tick-clause-stops g c =
    on_err _ _ c.answer.result
    (λ failed.
    event_breaks failed event.Tick c.args.event c.args.now c.args.self.now (g.K.Sink.pieces c.args.output.now) (g.K.Sink.pieces c.answer.new.output) c.in-Tick.is)
    c.answer.ensures.stops
