use Rattle.std.proofs.Common.{◌∙◌, ap, subst, refl, ◌∷◌, []}
use Rattle.std.proofs.lemmas.Result.{err_from_is_err_and}
use Rattle.norm_base.specs.Told.{gained}
use Rattle.norm_turns.specs.Causes.{HasCause, counted}
use Rattle.norm_turns.proofs.FaultLemmas.{at_fault, on_ok, on_err}
use Rattle.driven_nodes.specs.Gathered.{send_line}
use Rattle.driven_nodes.proofs.GatherLemmas.{keeps_both, answered_nothing, answered_sent, answer_breaks, send_breaks, unwritten_same}
use Rattle.driven_nodes.proofs.gathering.Gathering.answer.Goals as goal

pub tick-requires-clause-there : goal.tick-requires-clause-there
tick-requires-clause-there g c = c.in_ok-hand_all.ensures.keeps.there c.requires

-- a fault while it handed up
pub returns-in_err-hand_all-clause-stops : goal.returns-in_err-hand_all-clause-stops
returns-in_err-hand_all-clause-stops g c =
    let exit = err_from_is_err_and c.from_residual.result c.from_residual.ensures.1 in
    at_fault _ c.from_residual.result exit.0 c.in_err-hand_all.field-0.0 exit.1 exit.2
    (λ h at.
    answer_breaks c.in_err-hand_all.field-0.0 (g.K.Sink.pieces c.args.output.now) (g.K.Sink.pieces c.hand_all.new.output) c.args.now h
    (c.in_err-hand_all.ensures.stops h at))

-- it has nothing to send
pub returns-in-Nothing-clause-goes : goal.returns-in-Nothing-clause-goes
returns-in-Nothing-clause-goes g c h at =
    let handed = c.in_ok-hand_all.ensures.goes h at in
    answered_nothing c.args.sender c.args.node c.args.now c.args.self.now c.hand_all.new.self c.tick.new.self (g.K.Sink.pieces c.args.output.now)
    (g.K.Sink.pieces c.hand_all.new.output) c.tick.result h handed (c.tick.ensures.goes c.args.node _ handed.here) at.sender c.in-Nothing.is

pub returns-in-Nothing-clause-keeps : goal.returns-in-Nothing-clause-keeps
returns-in-Nothing-clause-keeps g c =
    keeps_both c.args.sender c.args.self.now c.hand_all.new.self c.tick.new.self c.in_ok-hand_all.ensures.keeps c.tick.ensures.keeps

-- its datagram
pub returns-in-Datagram-clause-goes : goal.returns-in-Datagram-clause-goes
returns-in-Datagram-clause-goes g c =
    on_ok c.write_send.result
    (λ written h at.
    let handed = c.in_ok-hand_all.ensures.goes h at in
    answered_sent c.args.sender c.args.node c.args.now c.args.self.now c.hand_all.new.self c.tick.new.self (record (c.tick.new.self) { line = c.write_send.new.line })
    (g.K.Sink.pieces c.args.output.now) (g.K.Sink.pieces c.hand_all.new.output) (g.K.Sink.pieces c.write_send.new.output) c.tick.result h handed
    (c.tick.ensures.goes c.args.node _ handed.here) refl refl at.sender c.in-Datagram.is
    (written ∙ ap (λ octets. gained (g.K.Sink.pieces c.hand_all.new.output) (send_line c.args.sender octets ∷ [])) c.bytes.ensures.octets))
    c.write_send.ensures.written

pub returns-in-Datagram-clause-keeps : goal.returns-in-Datagram-clause-keeps
returns-in-Datagram-clause-keeps g c =
    on_ok c.write_send.result
    (λ written.
    keeps_both c.args.sender c.args.self.now c.hand_all.new.self (record (c.tick.new.self) { line = c.write_send.new.line }) c.in_ok-hand_all.ensures.keeps
    (record { others = c.tick.ensures.keeps.others; there = c.tick.ensures.keeps.there; draw = c.tick.ensures.keeps.draw; draws = c.tick.ensures.keeps.draws; lines = c.tick.ensures.keeps.lines }))
    c.write_send.ensures.written

pub returns-in-Datagram-clause-stops : goal.returns-in-Datagram-clause-stops
returns-in-Datagram-clause-stops g c =
    on_err _ _ c.write_send.result
    (λ failed un h at.
    let handed = c.in_ok-hand_all.ensures.goes h at in
    send_breaks failed c.args.sender c.args.node c.args.now c.args.self.now c.hand_all.new.self c.tick.new.self (g.K.Sink.pieces c.args.output.now)
    (g.K.Sink.pieces c.hand_all.new.output) (g.K.Sink.pieces c.write_send.new.output) c.tick.result h handed
    (c.tick.ensures.goes c.args.node _ handed.here) at.sender c.in-Datagram.is
    (unwritten_same failed (g.K.Sink.pieces c.hand_all.new.output) (g.K.Sink.pieces c.write_send.new.output) c.args.sender _ c.tick.new.self.datagram c.bytes.ensures.octets un))
    c.write_send.ensures.stops

pub returns-in-Datagram-clause-cause : goal.returns-in-Datagram-clause-cause
returns-in-Datagram-clause-cause g c network files =
    subst (λ k. HasCause c.write_send.result k (counted (g.K.Sink.fault_count c.write_send.new.output) network files))
    (c.in_ok-hand_all.ensures.cause network files) (c.write_send.ensures.cause network files)
