use Rattle.std.proofs.Common.{subst}
use Rattle.driven_nodes.specs.Relayed.{Joined, relayed}
use Rattle.norm_program.specs.Relaying.{IsPrintedEnding}
use Rattle.norm_program.proofs.RelayEndLemmas.{sessions_end, read_end, lines_end}
use Rattle.norm_program.proofs.relay.relay.Goals as goal

pub returns-in-Err : goal.returns-in-Err
returns-in-Err g c called =
    sessions_end c.args.up.now c.args.node c.args.down.now c.in-Err.why c.refuse_sessions.result (g.S.Source.left c.args.input.now) (g.K.Sink.pieces c.args.output.now)
    (g.K.Sink.pieces c.refuse_sessions.new.output) (g.S.Source.fault_count c.args.input.now) (g.K.Sink.fault_count c.args.output.now)
    (g.K.Sink.fault_count c.refuse_sessions.new.output) called c.refuse_sessions.ensures

pub returns-in-Ok-read_input : goal.returns-in-Ok-read_input
returns-in-Ok-read_input g c called =
    let text = c.in-Ok-read_input.text.items in
    let whole = subst (λ t. IsPrintedEnding c.end_lines.result c.patience_of.result (relayed c.in-Ok.run'.up c.in-Ok.run'.node c.in-Ok.run'.down t)
    (g.K.Sink.pieces c.read_input.new.output) (g.K.Sink.pieces c.end_lines.new.output) (g.K.Sink.fault_count c.read_input.new.output)
    (g.K.Sink.fault_count c.end_lines.new.output)) c.deref.ensures.value c.end_lines.ensures in
    let begun = subst (λ (r : Joined). IsPrintedEnding c.end_lines.result c.patience_of.result (relayed r.up r.node r.down text)
    (g.K.Sink.pieces c.read_input.new.output) (g.K.Sink.pieces c.end_lines.new.output) (g.K.Sink.fault_count c.read_input.new.output)
    (g.K.Sink.fault_count c.end_lines.new.output)) c.in-Ok.ensures.begun whole in
    let ends = subst (λ k. IsPrintedEnding c.end_lines.result k (relayed c.args.up.now c.args.node c.args.down.now text)
    (g.K.Sink.pieces c.read_input.new.output) (g.K.Sink.pieces c.end_lines.new.output) (g.K.Sink.fault_count c.read_input.new.output)
    (g.K.Sink.fault_count c.end_lines.new.output)) c.patience_of.ensures begun in
    lines_end c.end_lines.result c.args.up.now c.args.node c.args.down.now text (g.S.Source.left c.args.input.now) (g.S.Source.left c.read_input.new.input)
    (g.K.Sink.pieces c.args.output.now) (g.K.Sink.pieces c.read_input.new.output) (g.K.Sink.pieces c.end_lines.new.output) (g.S.Source.fault_count c.args.input.now)
    (g.S.Source.fault_count c.read_input.new.input) (g.K.Sink.fault_count c.args.output.now) (g.K.Sink.fault_count c.read_input.new.output)
    (g.K.Sink.fault_count c.end_lines.new.output) called c.in-Ok.ensures.fits c.in-Ok-read_input.ensures.text c.in-Ok-read_input.ensures.quiet.0
    c.in-Ok-read_input.ensures.unwritten c.in-Ok-read_input.ensures.quiet.1 ends

pub returns-in-Err-read_input : goal.returns-in-Err-read_input
returns-in-Err-read_input g c called =
    read_end c.in-Err-read_input.ending c.args.up.now c.args.node c.args.down.now (g.S.Source.left c.args.input.now) (g.S.Source.left c.read_input.new.input)
    (g.K.Sink.pieces c.args.output.now) (g.K.Sink.pieces c.read_input.new.output) (g.S.Source.fault_count c.args.input.now)
    (g.S.Source.fault_count c.read_input.new.input) (g.K.Sink.fault_count c.args.output.now) (g.K.Sink.fault_count c.read_input.new.output) called
    c.in-Ok.ensures.fits c.in-Err-read_input.ensures.ending
