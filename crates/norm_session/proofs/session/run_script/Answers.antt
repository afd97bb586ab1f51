use Rattle.std.proofs.Common.{◌∙◌, sym, ap, subst}
use Rattle.std.proofs.lemmas.Result.{err_from_is_err_and}
use Rattle.norm_script.specs.Commands.{Commands}
use Rattle.norm_session.specs.Session.{RunsKept}
use Rattle.norm_session.specs.Turning.{span}
use Rattle.norm_session.proofs.SessionLemmas.{if_made, if_unmade, made_cause}
use Rattle.norm_turns.proofs.FaultLemmas.{at_fault}
use Rattle.norm_session.proofs.TurnedLemmas.{turned_runs, turned_stops}
use Rattle.norm_session.proofs.session.run_script.Goals as goal

pub returns-in_err-run-clause-stops : goal.returns-in_err-run-clause-stops
returns-in_err-run-clause-stops g c =
    let exit = err_from_is_err_and c.from_residual.result c.from_residual.ensures.1 in
    at_fault _ c.from_residual.result exit.0 c.in_err-run.field-0.0 exit.1 exit.2 c.in_err-run.ensures.stops

pub returns-clause-run : goal.returns-clause-run
returns-clause-run g c =
    let files = g.D.Files.contents c.args.files.now in
    let unwritten = g.K.Sink.pieces c.args.output.now in
    let written = g.K.Sink.pieces c.finish-whole.new.output in
    if_made _ _ c.made_of.result c.finish-whole.result c.into_journal.result c.made_of.ensures.made c.finish-whole.ensures.goes
    (λ m is ends.
    subst (λ kept. RunsKept c.args.alone c.args.script.now files kept m.whole
    (span (g.F.Fabric.told c.args.fabric.now) (g.F.Fabric.told c.run_produced.new.fabric) unwritten written
    (g.C.Clock.moments c.args.clock.now) (g.C.Clock.moments c.run_produced.new.clock) c.args.board.now c.run_produced.new.board))
    (sym (is ∙ c.into_journal.ensures))
    (turned_runs c.args.alone c.args.script.now files c.turns_of-turns.result c.in_ok-run.run' c.finish-whole.new.self m.whole _ written
    (c.turns_of-turns.ensures.value ∙ ap (λ (s : Commands). s.profile.turns) c.script.view_is) c.in_ok-run.ensures.goes ends c.requires))

pub returns-clause-stops : goal.returns-clause-stops
returns-clause-stops g c =
    if_unmade _ _ c.made_of.result c.finish-whole.result c.made_of.ensures.fault c.finish-whole.ensures.stops
    (λ e stops.
    turned_stops c.args.alone c.args.script.now (g.D.Files.contents c.args.files.now) c.turns_of-turns.result c.in_ok-run.run' e _
    (g.K.Sink.pieces c.finish-whole.new.output) (c.turns_of-turns.ensures.value ∙ ap (λ (s : Commands). s.profile.turns) c.script.view_is)
    c.in_ok-run.ensures.goes stops c.requires)

pub returns-clause-cause : goal.returns-clause-cause
returns-clause-cause g c =
    made_cause c.made_of.result c.finish-whole.result c.into_journal.result _ _ _ c.made_of.ensures.made c.made_of.ensures.fault
    c.in_ok-run.ensures.cause (c.finish-whole.ensures.cause (g.F.Fabric.fault_count c.run_produced.new.fabric) (g.D.Files.fault_count c.run_produced.new.files))
