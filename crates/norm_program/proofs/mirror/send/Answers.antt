use Rattle.std.proofs.Common.{refl}
use Rattle.norm_endings.specs.Outside.{called_as}
use Rattle.norm_program.specs.Lending.{told}
use Rattle.norm_program.proofs.MirrorLemmas.{mirror_ran, mirror_spent, mirror_stopped}
use Rattle.norm_program.proofs.mirror.send.Goals as goal

-- the turns were spent
pub returns-then-not-ended : goal.returns-then-not-ended
returns-then-not-ended g c =
    let pieces = g.K.Sink.pieces in
    let writes = g.K.Sink.fault_count in
    let ran = c.run_session.new in
    let o = told g.S.Source g.K.Sink g.F.Fabric g.D.Files g.C.Clock c.args.lent.now in
    let called = called_as (g.F.Fabric.told ran.fabric) (g.D.Files.contents ran.files) (g.C.Clock.moments ran.clock) (g.F.Fabric.fault_count ran.fabric) (g.D.Files.fault_count ran.files) in record {
      same = refl;
      tells = λ input p count.
          mirror_spent c.end_session.result c.args.sending.now.script c.in-Ok.ended.journal c.in-Ok.ended.whole input o.input o.written (pieces ran.output)
          (pieces c.end_session.new.output) o.read_faults o.read_faults o.write_faults (writes ran.output) (writes c.end_session.new.output) o.called called
          p refl c.in-Ok.ensures.files c.in-Ok.ensures.run c.if-not-ended.true c.in-Ok.ensures.cause c.end_session.ensures;
    }

-- the session was whole
pub returns-else-not-ended : goal.returns-else-not-ended
returns-else-not-ended g c =
    let pieces = g.K.Sink.pieces in
    let writes = g.K.Sink.fault_count in
    let ran = c.run_session.new in
    let o = told g.S.Source g.K.Sink g.F.Fabric g.D.Files g.C.Clock c.args.lent.now in
    let called = called_as (g.F.Fabric.told ran.fabric) (g.D.Files.contents ran.files) (g.C.Clock.moments ran.clock) (g.F.Fabric.fault_count ran.fabric) (g.D.Files.fault_count ran.files) in record {
      same = refl;
      tells = λ input p count.
          mirror_ran c.end_whole.result c.args.sending.now.script c.in-Ok.ended.journal c.in-Ok.ended.whole c.args.sending.now.files input o.input o.written
          (pieces ran.output) (pieces c.end_whole.new.output) o.read_faults o.read_faults o.write_faults (writes ran.output) (writes c.end_whole.new.output)
          o.called called (g.D.Files.contents c.end_whole.new.files) (g.D.Files.fault_count c.end_whole.new.files)
          p refl c.in-Ok.ensures.files c.in-Ok.ensures.run c.if-not-ended.false c.in-Ok.ensures.cause count c.end_whole.ensures;
    }

-- a fault stopped it
pub returns-in-Err : goal.returns-in-Err
returns-in-Err g c =
    let pieces = g.K.Sink.pieces in
    let writes = g.K.Sink.fault_count in
    let ran = c.run_session.new in
    let o = told g.S.Source g.K.Sink g.F.Fabric g.D.Files g.C.Clock c.args.lent.now in
    let called = called_as (g.F.Fabric.told ran.fabric) (g.D.Files.contents ran.files) (g.C.Clock.moments ran.clock) (g.F.Fabric.fault_count ran.fabric) (g.D.Files.fault_count ran.files) in record {
      same = refl;
      tells = λ input p count.
          mirror_stopped c.in-Err.fault c.stop_session.result c.args.sending.now.script input o.input o.written (pieces ran.output)
          (pieces c.stop_session.new.output) o.read_faults o.read_faults o.write_faults (writes ran.output) (writes c.stop_session.new.output) o.called called
          p refl c.in-Err.ensures.files c.in-Err.ensures.stops c.in-Err.ensures.cause c.stop_session.ensures;
    }
