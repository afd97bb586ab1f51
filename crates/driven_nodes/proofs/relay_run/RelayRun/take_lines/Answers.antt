use Rattle.std.proofs.Common.{subst}
use Rattle.std.specs.Prelude.{IfOk, IfErr}
use Rattle.norm_turns.specs.declared.fault.SessionFault.{SessionFault}
use Rattle.relay_words.specs.declared.ends.RelayEnd.{RelayEnd}
use Rattle.driven_nodes.specs.Relayed.{Joined, relayed}
use Rattle.driven_nodes.specs.Writing.{Ends, LeavesLines}
use Rattle.driven_nodes.proofs.RunLemmas.{relay_goes, relay_stops}
use Rattle.driven_nodes.proofs.relay_run.RelayRun.take_lines.Goals as goal

pub returns-clause-goes : goal.returns-clause-goes
returns-clause-goes g c =
    let i = c.self.inside in
    let u = g.K.Sink.pieces c.args.output.now in
    let w = g.K.Sink.pieces c.take_lines.new.output in
    subst (λ (r : Joined). IfOk c.take_lines.result (λ (end : RelayEnd). Ends (relayed r.up r.node r.down c.args.text.now) end u w)) c.self.view_is
    (relay_goes c.take_lines.result i.chain i.up i.node i.down c.args.text.now u w c.self.invariant c.take_lines.ensures.goes)

pub returns-clause-stops : goal.returns-clause-stops
returns-clause-stops g c =
    let i = c.self.inside in
    let u = g.K.Sink.pieces c.args.output.now in
    let w = g.K.Sink.pieces c.take_lines.new.output in
    subst (λ (r : Joined). IfErr c.take_lines.result (λ (f : SessionFault). LeavesLines f u w (relayed r.up r.node r.down c.args.text.now).lines)) c.self.view_is
    (relay_stops c.take_lines.result i.chain i.up i.node i.down c.args.text.now u w c.self.invariant c.take_lines.ensures.stops)
