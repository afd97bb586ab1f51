use Rattle.std.proofs.Common.{ℕ, refl}
use Rattle.norm_program.specs.Lending.{told}
use Rattle.norm_program.proofs.NodeLemmas.{passed, hub_stopped}
use Rattle.norm_program.proofs.hub.pass_on.Goals as goal

-- where a hub ran
pub returns-in-Ok-clause-ends : goal.returns-in-Ok-clause-ends
returns-in-Ok-clause-ends g c =
    let ran = c.run_hub.new in
    let o = told g.S.Source g.K.Sink g.F.Fabric g.D.Files g.C.Clock c.args.lent.now in record {
      same = refl;
      tells = passed ℕ 0 c.args.profile.now o.input o.written o.read_faults o.write_faults o.called.network (g.F.Fabric.told ran.fabric) o.called.files
          o.called.moments (g.C.Clock.moments ran.clock) o.called.network_faults (g.F.Fabric.fault_count ran.fabric) o.called.file_faults
          c.in-Ok.ensures.run (c.in-Ok.ensures.cause o.write_faults o.called.file_faults);
    }

-- where a fault stopped it
pub returns-in-Err-clause-ends : goal.returns-in-Err-clause-ends
returns-in-Err-clause-ends g c =
    let ran = c.run_hub.new in
    let said = c.stop_session.new.output in
    let o = told g.S.Source g.K.Sink g.F.Fabric g.D.Files g.C.Clock c.args.lent.now in record {
      same = refl;
      tells = hub_stopped ℕ c.in-Err.fault c.stop_session.result c.args.profile.now o.input o.written (g.K.Sink.pieces said) o.read_faults
          o.write_faults (g.K.Sink.fault_count said) o.called.network (g.F.Fabric.told ran.fabric) o.called.files o.called.moments
          (g.C.Clock.moments ran.clock) o.called.network_faults (g.F.Fabric.fault_count ran.fabric) o.called.file_faults
          c.in-Err.ensures.stops (c.in-Err.ensures.cause o.write_faults o.called.file_faults) c.stop_session.ensures;
    }
