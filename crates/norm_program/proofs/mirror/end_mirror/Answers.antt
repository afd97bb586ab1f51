use Rattle.std.proofs.Common.{refl}
use Rattle.norm_program.specs.Lending.{told}
use Rattle.norm_program.proofs.MirrorLemmas.{mirror_early, mirror_sending, mirror_unready}
use Rattle.norm_program.proofs.mirror.end_mirror.Goals as goal

-- before the folder is read
pub returns-in-Err : goal.returns-in-Err
returns-in-Err g c =
    let o = told g.S.Source g.K.Sink g.F.Fabric g.D.Files g.C.Clock c.args.lent.now in record {
      same = refl;
      tells = mirror_early c.in-Err.ending o.input (g.S.Source.left c.prepare.new.input) o.written (g.K.Sink.pieces c.prepare.new.output) o.read_faults
          (g.S.Source.fault_count c.prepare.new.input) o.write_faults (g.K.Sink.fault_count c.prepare.new.output) o.called (c.in-Err.ensures.ending o.called.files);
    }

-- the folder was sent
pub returns-in-Ok-sending_of : goal.returns-in-Ok-sending_of
returns-in-Ok-sending_of g c =
    let seen = told g.S.Source g.K.Sink g.F.Fabric g.D.Files g.C.Clock in
    let o = seen c.args.lent.now in record {
      same = c.send.ensures.same;
      tells = mirror_sending c.in-Ok.folder c.in-Ok-sending_of.sending c.send.result o.input (g.S.Source.left c.prepare.new.input) o.written
          (g.K.Sink.pieces c.prepare.new.output) o.read_faults (g.S.Source.fault_count c.prepare.new.input) o.write_faults (g.K.Sink.fault_count c.prepare.new.output)
          o.called.network o.called.files (g.D.Files.contents c.sending_of.new.files) o.called.moments o.called.network_faults o.called.file_faults
          (g.D.Files.fault_count c.sending_of.new.files) (seen c.send.new.lent) c.in-Ok.ensures.named c.in-Ok.ensures.unwritten c.in-Ok.ensures.quiet.0
          c.in-Ok.ensures.quiet.1 c.in-Ok-sending_of.ensures.same c.in-Ok-sending_of.ensures.cause c.in-Ok-sending_of.ensures.script c.send.ensures.tells;
    }

-- it was not ready
pub returns : goal.returns
returns g c =
    let o = told g.S.Source g.K.Sink g.F.Fabric g.D.Files g.C.Clock c.args.lent.now in
    let why = c.in-Err-sending_of in
    let said = rw (c.in-Ok.ensures.unwritten, c.in-Ok.ensures.quiet.1) at c.end_unready.ensures in record {
      same = refl;
      tells = mirror_unready why.why c.end_unready.result c.in-Ok.folder o.input (g.S.Source.left c.prepare.new.input) o.written
          (g.K.Sink.pieces c.end_unready.new.output) o.read_faults (g.S.Source.fault_count c.prepare.new.input) o.write_faults
          (g.K.Sink.fault_count c.end_unready.new.output) o.called.network o.called.files (g.D.Files.contents c.sending_of.new.files) o.called.moments
          o.called.network_faults o.called.file_faults (g.D.Files.fault_count c.sending_of.new.files) c.in-Ok.ensures.named c.in-Ok.ensures.quiet.0
          why.ensures.same why.ensures.stops why.ensures.cause said;
    }
