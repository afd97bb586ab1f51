use Rattle.std.proofs.lemmas.Result.{err_from_is_err_and}
use Rattle.norm_node.specs.Shown.{outside}
use Rattle.norm_turns.proofs.FaultLemmas.{network_cause, on_err, on_ok}
use Rattle.norm_node.proofs.RunLemmas.{receiver_runs, receiver_stops}
use Rattle.norm_node.proofs.receiving.run_receiver.Goals as goal

pub returns-clause-run : goal.returns-clause-run
returns-clause-run g c =
    let before = outside (g.F.Fabric.told c.args.fabric.now) (g.K.Sink.pieces c.args.output.now) (g.D.Files.contents c.args.files.now) (g.C.Clock.moments c.args.clock.now) in
    on_ok c.turns.result
    (receiver_runs c.args.profile.now c.args.node c.in_ok-run.run' c.turns.new.self before _ (g.F.Fabric.told c.start.new.self) c.in_ok-start.ensures.ok
    c.in_ok-run.ensures.begun c.in_ok-run.ensures.profile) c.turns.ensures.goes

pub returns-clause-stops : goal.returns-clause-stops
returns-clause-stops g c =
    let before = outside (g.F.Fabric.told c.args.fabric.now) (g.K.Sink.pieces c.args.output.now) (g.D.Files.contents c.args.files.now) (g.C.Clock.moments c.args.clock.now) in
    on_err _ _ c.turns.result
    (λ e. receiver_stops c.args.profile.now c.args.node c.in_ok-run.run' e before _ (g.F.Fabric.told c.start.new.self) c.in_ok-start.ensures.ok
    c.in_ok-run.ensures.begun) c.turns.ensures.stops

pub returns-in_err-start-clause-cause : goal.returns-in_err-start-clause-cause
returns-in_err-start-clause-cause g c =
    let exit = err_from_is_err_and c.from_residual-in_err-start.result c.from_residual-in_err-start.ensures.1 in
    network_cause _ (Unit {0}) c.from_residual-in_err-start.result exit.0 c.in_err-start.field-0.0 _ _ exit.1 exit.2 c.in_err-start.ensures.cause
    (g.K.Sink.fault_count c.args.output.now) (g.D.Files.fault_count c.args.files.now)
