use Rattle.std.proofs.Common.{refl, ap}
use Rattle.norm_turns.specs.Causes.{Counted}
use Rattle.driven_nodes.specs.Relayed.{relayed}
use Rattle.norm_program.proofs.RelayEndLemmas.{lines_said, lines_broken}
use Rattle.norm_program.proofs.relay.end_lines.Goals as goal

pub returns-in-Ok : goal.returns-in-Ok
returns-in-Ok g c =
    lines_said c.in-Ok.end c.args.patience c.args.patience c.say_end.result
    (relayed c.args.run.up c.args.run.node c.args.run.down c.args.text.now) (g.K.Sink.pieces c.args.output.now) (g.K.Sink.pieces c.take_lines.new.output)
    (g.K.Sink.pieces c.say_end.new.output) (g.K.Sink.fault_count c.args.output.now) (g.K.Sink.fault_count c.take_lines.new.output)
    (g.K.Sink.fault_count c.say_end.new.output) c.in-Ok.ensures.goes
    (ap (λ (k : Counted). k.output) (c.in-Ok.ensures.cause 0 0)) refl c.say_end.ensures

pub returns-in-Err : goal.returns-in-Err
returns-in-Err g c =
    lines_broken c.take_lines.result c.in-Err.fault c.stop_session.result c.args.patience
    (relayed c.args.run.up c.args.run.node c.args.run.down c.args.text.now) (g.K.Sink.pieces c.args.output.now) (g.K.Sink.pieces c.take_lines.new.output)
    (g.K.Sink.pieces c.stop_session.new.output) (g.K.Sink.fault_count c.args.output.now) (g.K.Sink.fault_count c.take_lines.new.output)
    (g.K.Sink.fault_count c.stop_session.new.output) c.in-Err.is
    c.in-Err.ensures.stops c.take_lines.ensures.cause c.stop_session.ensures
