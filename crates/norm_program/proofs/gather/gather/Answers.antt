use Rattle.std.proofs.Common.{refl, subst, ℕ, List}
use Rattle.norm_base.specs.Settings.{Settings}
use Rattle.driven_nodes.specs.Gathered.{gathered}
use Rattle.norm_program.specs.Gathering.{IsLinesEnding}
use Rattle.norm_program.proofs.GatherEndLemmas.{among_memory, members_end, read_end, lines_end}
use Rattle.norm_program.proofs.gather.gather.Goals as goal

pub returns-then-len-gt-MOST_SENDERS : goal.returns-then-len-gt-MOST_SENDERS
returns-then-len-gt-MOST_SENDERS g c called =
    among_memory c.args.members.items (g.S.Source.left c.args.input.now) (g.S.Source.left c.args.input.now) (g.K.Sink.pieces c.args.output.now)
    (g.K.Sink.pieces c.args.output.now) (g.S.Source.fault_count c.args.input.now) (g.S.Source.fault_count c.args.input.now) (g.K.Sink.fault_count c.args.output.now)
    (g.K.Sink.fault_count c.args.output.now) called refl refl refl

pub returns-in-Err : goal.returns-in-Err
returns-in-Err g c called =
    members_end c.args.members.items c.in-Err.why c.refuse_members.result (g.S.Source.left c.args.input.now) (g.K.Sink.pieces c.args.output.now)
    (g.K.Sink.pieces c.refuse_members.new.output) (g.S.Source.fault_count c.args.input.now) (g.K.Sink.fault_count c.args.output.now)
    (g.K.Sink.fault_count c.refuse_members.new.output) called c.in-Err.ensures.fault c.refuse_members.ensures

pub returns-in-Ok-read_input : goal.returns-in-Ok-read_input
returns-in-Ok-read_input g c called =
    let text = c.in-Ok-read_input.text.items in
    let whole = subst (λ t. IsLinesEnding c.end_lines.result (gathered c.in-Ok.run' t) (g.K.Sink.pieces c.read_input.new.output) (g.K.Sink.pieces c.end_lines.new.output)
    (g.K.Sink.fault_count c.read_input.new.output) (g.K.Sink.fault_count c.end_lines.new.output)) c.deref.ensures.value c.end_lines.ensures in
    let ends = subst (λ (list : List (Settings × ℕ)). IsLinesEnding c.end_lines.result (gathered list text) (g.K.Sink.pieces c.read_input.new.output) (g.K.Sink.pieces c.end_lines.new.output)
    (g.K.Sink.fault_count c.read_input.new.output) (g.K.Sink.fault_count c.end_lines.new.output)) c.in-Ok.ensures.begun whole in
    lines_end c.end_lines.result c.args.members.items text (g.S.Source.left c.args.input.now) (g.S.Source.left c.read_input.new.input) (g.K.Sink.pieces c.args.output.now)
    (g.K.Sink.pieces c.read_input.new.output) (g.K.Sink.pieces c.end_lines.new.output) (g.S.Source.fault_count c.args.input.now)
    (g.S.Source.fault_count c.read_input.new.input) (g.K.Sink.fault_count c.args.output.now) (g.K.Sink.fault_count c.read_input.new.output)
    (g.K.Sink.fault_count c.end_lines.new.output) called c.in-Ok-read_input.ensures.text c.in-Ok-read_input.ensures.quiet.0
    c.in-Ok-read_input.ensures.unwritten c.in-Ok-read_input.ensures.quiet.1 ends

pub returns-in-Err-read_input : goal.returns-in-Err-read_input
returns-in-Err-read_input g c called =
    read_end c.in-Err-read_input.ending c.args.members.items (g.S.Source.left c.args.input.now) (g.S.Source.left c.read_input.new.input) (g.K.Sink.pieces c.args.output.now)
    (g.K.Sink.pieces c.read_input.new.output) (g.S.Source.fault_count c.args.input.now) (g.S.Source.fault_count c.read_input.new.input)
    (g.K.Sink.fault_count c.args.output.now) (g.K.Sink.fault_count c.read_input.new.output) called c.in-Err-read_input.ensures.ending
