use Rattle.std.proofs.Common.{refl, inl}
use Rattle.std.proofs.lemmas.Result.{err_from_is_err_and}
use Rattle.norm_turns.specs.declared.fault.SessionFault.TheVariants as fault
use Rattle.norm_session.proofs.SessionLemmas.{script_stops, not_begun}
use Rattle.norm_turns.proofs.FaultLemmas.{at_fault, on_err}
use Rattle.norm_session.proofs.StartingLemmas.{why_and}
use Rattle.norm_session.proofs.TurnedLemmas.{turned_and, turned_cause}
use Rattle.norm_session.proofs.session.run_turns.Goals as goal

pub returns-in_err-datagram-clause-stops : goal.returns-in_err-datagram-clause-stops
returns-in_err-datagram-clause-stops g c =
    let exit = err_from_is_err_and c.from_residual.result c.from_residual.ensures.1 in
    at_fault _ c.from_residual.result exit.0 fault.Memory exit.1 exit.2
    (not_begun c.args.alone c.args.script.now (g.D.Files.contents c.args.lent.now.files.now) fault.Memory _ (inl refl) refl refl refl refl)

pub returns-in_err-run-clause-stops : goal.returns-in_err-run-clause-stops
returns-in_err-run-clause-stops g c =
    let exit = err_from_is_err_and c.from_residual-in_err-run.result c.from_residual-in_err-run.ensures.1 in
    let e = c.in_err-run.field-0.0 in
    at_fault _ c.from_residual-in_err-run.result exit.0 e exit.1 exit.2
    (not_begun c.args.alone c.args.script.now (g.D.Files.contents c.args.lent.now.files.now) e _ c.in_err-run.ensures.why c.in_err-run.ensures.same refl refl refl)

pub returns-clause-goes : goal.returns-clause-goes
returns-clause-goes g c =
    turned_and _ c.turns-turned.result _ c.and.result c.and.ensures
    (λ turns. record {
      started = g.F.Fabric.told c.start.new.fabric;
      starts = c.in_ok-run.ensures.starts;
      begun = c.in_ok-run.run';
      begins = c.in_ok-run.ensures.goes;
      turns = turns;
    })
    c.turns-turned.ensures.goes

pub returns-clause-stops : goal.returns-clause-stops
returns-clause-stops g c =
    why_and _ c.turns-turned.result _ c.and.result c.and.ensures
    (on_err _ _ c.turns-turned.result
    (λ e stops.
    script_stops c.args.alone c.args.script.now (g.D.Files.contents c.args.lent.now.files.now) (g.F.Fabric.told c.start.new.fabric) c.in_ok-run.run' e _
    c.in_ok-run.ensures.starts c.in_ok-run.ensures.goes stops c.requires.script)
    c.turns-turned.ensures.stops)

pub returns-clause-cause : goal.returns-clause-cause
returns-clause-cause g c =
    turned_cause c.turns-turned.result _ c.and.result _ _ _ c.and.ensures
    (c.in_ok-run.ensures.cause (g.K.Sink.fault_count c.args.lent.now.output.now) (g.D.Files.fault_count c.args.lent.now.files.now)) c.turns-turned.ensures.cause
