use Rattle.std.proofs.Common.{inl, refl}
use Rattle.norm_endings.specs.Outside.{called_as}
use Rattle.norm_program.specs.Asked.{with_instance}
use Rattle.norm_program.specs.Lending.{told}
use Rattle.norm_program.specs.RelayEnds.{EndsBetween}
use Rattle.norm_program.proofs.NodeLemmas.{loaded_ends, unloaded_ends}
use Rattle.norm_program.proofs.relay.end_below.Goals as goal

-- under the profile
pub returns-in-Ok-clause-ends : goal.returns-in-Ok-clause-ends
returns-in-Ok-clause-ends g c =
    let seen = told g.S.Source g.K.Sink g.F.Fabric g.D.Files g.C.Clock in
    let o = seen c.args.lent.now in
    let called = called_as o.called.network (g.D.Files.contents c.load.new.files) o.called.moments o.called.network_faults (g.D.Files.fault_count c.load.new.files) in
    let ends = rw c.with_instance-profile.ensures at (c.relay.ensures called) in record {
      same = refl;
      tells = loaded_ends c.args.down (λ q. EndsBetween c.args.up.now c.args.node (with_instance c.args.instance q)) c.relay.result c.in-Ok.loaded o.input o.written
          (g.K.Sink.pieces c.load.new.output) o.read_faults o.write_faults (g.K.Sink.fault_count c.load.new.output) o.called.network o.called.files
          (g.D.Files.contents c.load.new.files) o.called.moments o.called.network_faults o.called.file_faults (g.D.Files.fault_count c.load.new.files) _
          c.in-Ok.ensures.unwritten c.in-Ok.ensures.quiet.0 c.in-Ok.ensures.same c.in-Ok.ensures.quiet.1 c.in-Ok.ensures.profile ends;
    }

-- where there is none
pub returns-in-Err-clause-ends : goal.returns-in-Err-clause-ends
returns-in-Err-clause-ends g c =
    let o = told g.S.Source g.K.Sink g.F.Fabric g.D.Files g.C.Clock c.args.lent.now in record {
      same = refl;
      tells = inl (unloaded_ends c.in-Err.ending c.args.down o.input o.written (g.K.Sink.pieces c.load.new.output) o.read_faults
          o.write_faults (g.K.Sink.fault_count c.load.new.output) o.called.network o.called.files (g.D.Files.contents c.load.new.files) o.called.moments
          o.called.network_faults o.called.file_faults (g.D.Files.fault_count c.load.new.files) c.in-Err.ensures.ending c.in-Err.ensures.same);
    }
