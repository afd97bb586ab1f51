use Rattle.std.proofs.Common.{inl, refl}
use Rattle.norm_program.specs.Lending.{told}
use Rattle.norm_program.specs.NodeEnds.{EndsReceiver}
use Rattle.norm_program.proofs.NodeLemmas.{loaded_ends, unloaded_ends}
use Rattle.norm_program.proofs.recv.end_receive.Goals as goal

-- under the profile
pub returns-in-Ok : goal.returns-in-Ok
returns-in-Ok g c =
    let seen = told g.S.Source g.K.Sink g.F.Fabric g.D.Files g.C.Clock in
    let o = seen c.args.lent.now in record {
      same = c.receive.ensures.same;
      tells = loaded_ends c.args.path (EndsReceiver c.args.node) c.receive.result c.in-Ok.profile o.input o.written (g.K.Sink.pieces c.load.new.output)
          o.read_faults o.write_faults (g.K.Sink.fault_count c.load.new.output) o.called.network o.called.files (g.D.Files.contents c.load.new.files)
          o.called.moments o.called.network_faults o.called.file_faults (g.D.Files.fault_count c.load.new.files) (seen c.receive.new.lent)
          c.in-Ok.ensures.unwritten c.in-Ok.ensures.quiet.0 c.in-Ok.ensures.same c.in-Ok.ensures.quiet.1 c.in-Ok.ensures.profile c.receive.ensures.tells;
    }

-- where there is none
pub returns-in-Err : goal.returns-in-Err
returns-in-Err g c =
    let o = told g.S.Source g.K.Sink g.F.Fabric g.D.Files g.C.Clock c.args.lent.now in record {
      same = refl;
      tells = inl (unloaded_ends c.in-Err.ending c.args.path o.input o.written (g.K.Sink.pieces c.load.new.output) o.read_faults
          o.write_faults (g.K.Sink.fault_count c.load.new.output) o.called.network o.called.files (g.D.Files.contents c.load.new.files) o.called.moments
          o.called.network_faults o.called.file_faults (g.D.Files.fault_count c.load.new.files) c.in-Err.ensures.ending c.in-Err.ensures.same);
    }
