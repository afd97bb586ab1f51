use Rattle.std.proofs.Common.{ℕ, refl}
use Rattle.norm_endings.specs.Outside.{called_as}
use Rattle.norm_program.specs.Asked.{Sender}
use Rattle.norm_program.specs.Lending.{told}
use Rattle.norm_program.proofs.EndingLemmas.{last_ends, stopped_ends}
use Rattle.norm_program.proofs.TailEndLemmas.{early_script}
use Rattle.norm_program.proofs.send.send.Goals as goal

-- before a session
pub returns-in-Err-clause-ends : goal.returns-in-Err-clause-ends
returns-in-Err-clause-ends g c =
    let o = told g.S.Source g.K.Sink g.F.Fabric g.D.Files g.C.Clock c.args.lent.now in record {
      same = refl;
      tells = early_script c.in-Err.ending (Sender c.args.profile.now) o _ (c.in-Err.ensures.ending o.called);
    }

-- where a fault stopped the session
pub returns-clause-ends : goal.returns-clause-ends
returns-clause-ends g c =
    let pieces = g.K.Sink.pieces in
    let writes = g.K.Sink.fault_count in
    let ran = c.run_send.new in
    let o = told g.S.Source g.K.Sink g.F.Fabric g.D.Files g.C.Clock c.args.lent.now in
    let stops = rw c.in-Ok.ensures.unwritten at c.in-Err-run_send.ensures.stops in
    let cause = rw c.in-Ok.ensures.quiet.1 at c.in-Err-run_send.ensures.cause in record {
      same = refl;
      tells = stopped_ends ℕ c.in-Err-run_send.fault c.stop_session.result (Sender c.args.profile.now) c.in-Ok.script o.input (g.S.Source.left c.prepare_commands.new.input)
          o.written (pieces ran.output) (pieces c.stop_session.new.output) o.read_faults (g.S.Source.fault_count c.prepare_commands.new.input)
          o.write_faults (writes ran.output) (writes c.stop_session.new.output) o.called
          (called_as (g.F.Fabric.told ran.fabric) (g.D.Files.contents ran.files) (g.C.Clock.moments ran.clock) (g.F.Fabric.fault_count ran.fabric) (g.D.Files.fault_count ran.files))
          c.in-Ok.ensures.ready c.in-Ok.ensures.quiet.0 stops cause c.stop_session.ensures;
    }

-- where the session ran
pub returns-in-Ok-run_send-clause-ends : goal.returns-in-Ok-run_send-clause-ends
returns-in-Ok-run_send-clause-ends g c =
    let pieces = g.K.Sink.pieces in
    let writes = g.K.Sink.fault_count in
    let ran = c.run_send.new in
    let o = told g.S.Source g.K.Sink g.F.Fabric g.D.Files g.C.Clock c.args.lent.now in
    let runs = rw c.in-Ok.ensures.unwritten at c.in-Ok-run_send.ensures.run.1 in
    let cause = rw c.in-Ok.ensures.quiet.1 at c.in-Ok-run_send.ensures.cause in record {
      same = refl;
      tells = last_ends c.end_session.result (Sender c.args.profile.now) c.in-Ok.script c.in-Ok-run_send.ensures.run.0 _ o.input (g.S.Source.left c.prepare_commands.new.input)
          o.written (pieces ran.output) (pieces c.end_session.new.output) o.read_faults (g.S.Source.fault_count c.prepare_commands.new.input)
          o.write_faults (writes ran.output) (writes c.end_session.new.output) o.called
          (called_as (g.F.Fabric.told ran.fabric) (g.D.Files.contents ran.files) (g.C.Clock.moments ran.clock) (g.F.Fabric.fault_count ran.fabric) (g.D.Files.fault_count ran.files))
          c.in-Ok.ensures.ready c.in-Ok.ensures.quiet.0 tt runs cause c.end_session.ensures;
    }
