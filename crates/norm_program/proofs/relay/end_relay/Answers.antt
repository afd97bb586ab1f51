use Rattle.std.proofs.Common.{inl, refl}
use Rattle.norm_program.specs.Asked.{with_instance}
use Rattle.norm_program.specs.Lending.{told}
use Rattle.norm_program.specs.NodeEnds.{EndsUnder}
use Rattle.norm_program.specs.RelayEnds.{EndsBetween}
use Rattle.norm_program.proofs.NodeLemmas.{loaded_ends, unloaded_ends}
use Rattle.norm_program.proofs.relay.end_relay.Goals as goal

-- under the profile above
pub returns-in-Ok-clause-ends : goal.returns-in-Ok-clause-ends
returns-in-Ok-clause-ends g c =
    let seen = told g.S.Source g.K.Sink g.F.Fabric g.D.Files g.C.Clock in
    let o = seen c.args.lent.now in record {
      same = c.end_below.ensures.ends.same;
      tells = loaded_ends c.args.up (λ p. EndsUnder c.args.down (λ q. EndsBetween p c.args.node (with_instance c.args.instance q))) c.end_below.result c.in-Ok.profile
          o.input o.written (g.K.Sink.pieces c.load.new.output) o.read_faults o.write_faults (g.K.Sink.fault_count c.load.new.output) o.called.network o.called.files
          (g.D.Files.contents c.load.new.files) o.called.moments o.called.network_faults o.called.file_faults (g.D.Files.fault_count c.load.new.files)
          (seen c.end_below.new.lent) c.in-Ok.ensures.unwritten c.in-Ok.ensures.quiet.0 c.in-Ok.ensures.same c.in-Ok.ensures.quiet.1 c.in-Ok.ensures.profile
          c.end_below.ensures.ends.tells;
    }

-- where there is none
pub returns-in-Err-clause-ends : goal.returns-in-Err-clause-ends
returns-in-Err-clause-ends g c =
    let o = told g.S.Source g.K.Sink g.F.Fabric g.D.Files g.C.Clock c.args.lent.now in record {
      same = refl;
      tells = inl (unloaded_ends c.in-Err.ending c.args.up o.input o.written (g.K.Sink.pieces c.load.new.output) o.read_faults
          o.write_faults (g.K.Sink.fault_count c.load.new.output) o.called.network o.called.files (g.D.Files.contents c.load.new.files) o.called.moments
          o.called.network_faults o.called.file_faults (g.D.Files.fault_count c.load.new.files) c.in-Err.ensures.ending c.in-Err.ensures.same);
    }
