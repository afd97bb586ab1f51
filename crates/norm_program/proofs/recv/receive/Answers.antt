use Rattle.std.proofs.Common.{◌∙◌, sym, ℕ, refl}
use Rattle.norm_endings.specs.Outside.{called_as}
use Rattle.norm_program.specs.Lending.{told}
use Rattle.norm_program.proofs.NodeLemmas.{receiver_stopped}
use Rattle.norm_program.proofs.recv.receive.Goals as goal

-- where a fault stopped the run
pub returns-in-Err : goal.returns-in-Err
returns-in-Err g c =
    let pieces = g.K.Sink.pieces in
    let writes = g.K.Sink.fault_count in
    let ran = c.run_receiver.new in
    let o = told g.S.Source g.K.Sink g.F.Fabric g.D.Files g.C.Clock c.args.lent.now in record {
      same = refl;
      tells = receiver_stopped ℕ c.in-Err.fault c.stop_session.result c.args.node c.args.profile.now o.input
          o.written (pieces ran.output) (pieces c.stop_session.new.output) o.read_faults o.write_faults (writes ran.output) (writes c.stop_session.new.output)
          o.called
          (called_as (g.F.Fabric.told ran.fabric) (g.D.Files.contents ran.files) (g.C.Clock.moments ran.clock) (g.F.Fabric.fault_count ran.fabric) (g.D.Files.fault_count ran.files))
          (sym c.is_receiver.ensures ∙ c.if-not-is_receiver.false) c.in-Err.ensures.stops c.in-Err.ensures.cause c.stop_session.ensures;
    }
