use Rattle.std.proofs.Common.{ap, subst}
use Rattle.norm_turns.specs.Causes.{Counted}
use Rattle.driven_nodes.specs.Gathered.{gathered}
use Rattle.driven_nodes.specs.Writing.{TookLines}
use Rattle.norm_program.proofs.GatherEndLemmas.{lines_done, lines_refused, lines_broken}
use Rattle.norm_program.proofs.gather.end_lines.Goals as goal

pub returns-in-Ok-None : goal.returns-in-Ok-None
returns-in-Ok-None g c =
    lines_done (gathered c.args.run c.args.text.now) (g.K.Sink.pieces c.args.output.now) (g.K.Sink.pieces c.take_lines.new.output)
    (g.K.Sink.fault_count c.args.output.now) (g.K.Sink.fault_count c.take_lines.new.output)
    (subst (λ o. TookLines (gathered c.args.run c.args.text.now) (g.K.Sink.pieces c.args.output.now) (g.K.Sink.pieces c.take_lines.new.output) o)
    c.in-Ok-None.field-0-is c.in-Ok-None.ensures.goes)
    (ap (λ (k : Counted). k.output) (c.in-Ok-None.ensures.cause 0 0))

pub returns-in-Ok-Some : goal.returns-in-Ok-Some
returns-in-Ok-Some g c =
    lines_refused c.refuse_line.result (gathered c.args.run c.args.text.now) c.in-Ok-Some.stop (g.K.Sink.pieces c.args.output.now)
    (g.K.Sink.pieces c.take_lines.new.output) (g.K.Sink.pieces c.refuse_line.new.output) (g.K.Sink.fault_count c.args.output.now)
    (g.K.Sink.fault_count c.take_lines.new.output) (g.K.Sink.fault_count c.refuse_line.new.output)
    (subst (λ o. TookLines (gathered c.args.run c.args.text.now) (g.K.Sink.pieces c.args.output.now) (g.K.Sink.pieces c.take_lines.new.output) o)
    c.in-Ok-Some.field-0-is c.in-Ok-Some.ensures.goes)
    (ap (λ (k : Counted). k.output) (c.in-Ok-Some.ensures.cause 0 0)) c.refuse_line.ensures

pub returns-in-Err : goal.returns-in-Err
returns-in-Err g c =
    lines_broken c.take_lines.result c.in-Err.fault c.stop_session.result (gathered c.args.run c.args.text.now) (g.K.Sink.pieces c.args.output.now)
    (g.K.Sink.pieces c.take_lines.new.output) (g.K.Sink.pieces c.stop_session.new.output) (g.K.Sink.fault_count c.args.output.now)
    (g.K.Sink.fault_count c.take_lines.new.output) (g.K.Sink.fault_count c.stop_session.new.output) c.in-Err.is
    c.in-Err.ensures.stops c.take_lines.ensures.cause c.stop_session.ensures
