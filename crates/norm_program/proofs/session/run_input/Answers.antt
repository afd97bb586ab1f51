use Rattle.std.proofs.Common.{ℕ, ap, sym, refl, subst}
use Rattle.norm_base.specs.Settings.{Settings}
use Rattle.norm_base.specs.Told.{Pieces}
use Rattle.norm_script.specs.Commands.{Commands}
use Rattle.norm_endings.specs.Outside.{outside, called_as}
use Rattle.norm_program.specs.Asked.{Members}
use Rattle.norm_program.specs.Lending.{told}
use Rattle.norm_program.specs.TailEnds.{EndsTails}
use Rattle.norm_program.specs.Tailing.{IsTailsEnding, MayGoOn}
use Rattle.norm_program.proofs.EndingLemmas.{last_ends, stopped_ends}
use Rattle.norm_program.proofs.TailEndLemmas.{early_session, plain_session, tailed_session, may_tail, stands_last, turn_given, tails_end, tail_stopped}
use Rattle.norm_program.proofs.session.run_input.Goals as goal

-- before a session
pub returns-in-Err-clause-ends : goal.returns-in-Err-clause-ends
returns-in-Err-clause-ends g c =
    let seen = told g.S.Source g.K.Sink g.F.Fabric g.D.Files g.C.Clock in
    let o = seen c.args.lent.now in record {
      same = refl;
      tells = early_session c.in-Err.ending c.args.options o _ (c.in-Err.ensures.ending o.called);
    }

-- where a fault stopped a session without a tail
pub returns-in-Err-run_session-clause-ends : goal.returns-in-Err-run_session-clause-ends
returns-in-Err-run_session-clause-ends g c =
    let pieces = g.K.Sink.pieces in
    let writes = g.K.Sink.fault_count in
    let ran = c.run_session.new in
    let o = told g.S.Source g.K.Sink g.F.Fabric g.D.Files g.C.Clock c.args.lent.now in
    let stops = rw c.in-Ok.ensures.unwritten at c.in-Err-run_session.ensures.stops in
    let cause = rw c.in-Ok.ensures.quiet.1 at c.in-Err-run_session.ensures.cause in record {
      same = refl;
      tells = plain_session c.stop_session.result c.args.options o _ c.in_default.is
          (stopped_ends ℕ c.in-Err-run_session.fault c.stop_session.result (Members c.args.options) c.in-Ok.script o.input (g.S.Source.left c.prepare.new.input)
          o.written (pieces ran.output) (pieces c.stop_session.new.output) o.read_faults (g.S.Source.fault_count c.prepare.new.input)
          o.write_faults (writes ran.output) (writes c.stop_session.new.output) o.called
          (called_as (g.F.Fabric.told ran.fabric) (g.D.Files.contents ran.files) (g.C.Clock.moments ran.clock) (g.F.Fabric.fault_count ran.fabric) (g.D.Files.fault_count ran.files))
          c.in-Ok.ensures.ready c.in-Ok.ensures.quiet.0 stops cause c.stop_session.ensures);
    }

-- where it ran
pub returns-in-Ok-run_session-clause-ends : goal.returns-in-Ok-run_session-clause-ends
returns-in-Ok-run_session-clause-ends g c =
    let pieces = g.K.Sink.pieces in
    let writes = g.K.Sink.fault_count in
    let ran = c.run_session.new in
    let o = told g.S.Source g.K.Sink g.F.Fabric g.D.Files g.C.Clock c.args.lent.now in
    let runs = rw c.in-Ok.ensures.unwritten at c.in-Ok-run_session.ensures.run in
    let cause = rw c.in-Ok.ensures.quiet.1 at c.in-Ok-run_session.ensures.cause in record {
      same = refl;
      tells = plain_session c.end_session.result c.args.options o _ c.in_default.is
          (last_ends c.end_session.result (Members c.args.options) c.in-Ok.script _ _ o.input (g.S.Source.left c.prepare.new.input)
          o.written (pieces ran.output) (pieces c.end_session.new.output) o.read_faults (g.S.Source.fault_count c.prepare.new.input)
          o.write_faults (writes ran.output) (writes c.end_session.new.output) o.called
          (called_as (g.F.Fabric.told ran.fabric) (g.D.Files.contents ran.files) (g.C.Clock.moments ran.clock) (g.F.Fabric.fault_count ran.fabric) (g.D.Files.fault_count ran.files))
          c.in-Ok.ensures.ready c.in-Ok.ensures.quiet.0 c.in-Ok.ensures.runnable runs cause c.end_session.ensures);
    }

pub run_until-requires-clause-turn : goal.run_until-requires-clause-turn
run_until-requires-clause-turn g c κs meets = (turn_given c.args.options c.in-Some.until c.requires c.in-Some.is).0

pub end_tails-requires : goal.end_tails-requires
end_tails-requires g c =
    subst (λ (p : Settings). MayGoOn p c.in-Ok-run_until.paused.world) (sym (ap (λ (s : Commands). s.profile) c.script.view_is))
    (may_tail c.in-Ok.script _ c.in-Some.until c.in-Ok-run_until.paused _ c.in-Ok-run_until.ensures.run.2)

-- where a fault stopped the turns before a tail
pub returns-clause-ends : goal.returns-clause-ends
returns-clause-ends g c =
    let pieces = g.K.Sink.pieces in
    let writes = g.K.Sink.fault_count in
    let ran = c.run_until.new in
    let o = told g.S.Source g.K.Sink g.F.Fabric g.D.Files g.C.Clock c.args.lent.now in
    let stops = rw c.in-Ok.ensures.unwritten at c.in-Err-run_until.ensures.stops in
    let cause = rw c.in-Ok.ensures.quiet.1 at c.in-Err-run_until.ensures.cause in record {
      same = refl;
      tells = tailed_session c.stop_session-in-Err-run_until.result c.args.options c.in-Some.until o _ c.in-Some.is
          (tail_stopped ℕ c.in-Err-run_until.fault c.stop_session-in-Err-run_until.result c.args.options c.in-Some.until c.in-Ok.script o.input (g.S.Source.left c.prepare.new.input)
          o.written (pieces ran.output) (pieces c.stop_session-in-Err-run_until.new.output) o.read_faults (g.S.Source.fault_count c.prepare.new.input)
          o.write_faults (writes ran.output) (writes c.stop_session-in-Err-run_until.new.output) o.called
          (called_as (g.F.Fabric.told ran.fabric) (g.D.Files.contents ran.files) (g.C.Clock.moments ran.clock) (g.F.Fabric.fault_count ran.fabric) (g.D.Files.fault_count ran.files))
          c.in-Ok.ensures.ready c.in-Ok.ensures.quiet.0 stops cause c.stop_session-in-Err-run_until.ensures);
    }

-- where they were made, and then the tails
pub returns-in-Ok-run_until-clause-ends : goal.returns-in-Ok-run_until-clause-ends
returns-in-Ok-run_until-clause-ends g c =
    let pieces = g.K.Sink.pieces in
    let writes = g.K.Sink.fault_count in
    let ran = c.run_until.new in
    let o = told g.S.Source g.K.Sink g.F.Fabric g.D.Files g.C.Clock c.args.lent.now in
    let runs = c.in-Ok-run_until.ensures.run in
    let cause = rw c.in-Ok.ensures.quiet.1 at c.in-Ok-run_until.ensures.cause in
    let left = g.S.Source.left c.prepare.new.input in
    let reads = g.S.Source.fault_count c.prepare.new.input in
    let called = called_as (g.F.Fabric.told ran.fabric) (g.D.Files.contents ran.files) (g.C.Clock.moments ran.clock) (g.F.Fabric.fault_count ran.fabric) (g.D.Files.fault_count ran.files) in
    let after = outside left (pieces c.end_tails.new.output) reads (writes c.end_tails.new.output) called in record {
      same = refl;
      tells = tailed_session c.end_tails.result c.args.options c.in-Some.until o after c.in-Some.is
          (subst (λ (y : Pieces). EndsTails c.args.options c.in-Some.until c.end_tails.result (outside o.input y o.read_faults o.write_faults o.called) after) c.in-Ok.ensures.unwritten
          (tails_end c.end_tails.result c.args.options c.in-Some.until c.in-Ok.script c.in-Ok-run_until.paused o.input left (pieces c.prepare.new.output) (pieces ran.output)
          (pieces c.end_tails.new.output) o.read_faults reads o.write_faults (writes ran.output) (writes c.end_tails.new.output) o.called called
          c.in-Ok.ensures.ready c.in-Ok.ensures.quiet.0 runs cause
          (subst (λ (p : Settings). IsTailsEnding c.end_tails.result p runs.2.state (pieces ran.output) (pieces c.end_tails.new.output) (writes ran.output)
          (writes c.end_tails.new.output)) (ap (λ (s : Commands). s.profile) c.script.view_is)
          (c.end_tails.ensures runs.2.state runs.2.reads (stands_last c.in-Ok.script _ c.in-Some.until c.in-Ok-run_until.paused _ runs.2)))));
    }
