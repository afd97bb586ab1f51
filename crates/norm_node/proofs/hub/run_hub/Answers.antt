use Rattle.norm_node.specs.Hub.{around}
use Rattle.norm_turns.proofs.FaultLemmas.{on_err, on_ok}
use Rattle.norm_node.proofs.RunLemmas.{hub_runs, hub_stops_run}
use Rattle.norm_node.proofs.hub.run_hub.Goals as goal

pub returns-clause-run : goal.returns-clause-run
returns-clause-run g c =
    let before = around (g.F.Fabric.told c.args.fabric.now) (g.C.Clock.moments c.args.clock.now) in
    on_ok c.turns.result
    (hub_runs c.args.profile.now c.turns.new.self before _ (g.F.Fabric.told c.start.new.self) c.in_ok-start.ensures.ok) c.turns.ensures.goes

pub returns-clause-stops : goal.returns-clause-stops
returns-clause-stops g c =
    let before = around (g.F.Fabric.told c.args.fabric.now) (g.C.Clock.moments c.args.clock.now) in
    on_err _ _ c.turns.result
    (λ e. hub_stops_run c.args.profile.now e before _ (g.F.Fabric.told c.start.new.self) c.in_ok-start.ensures.ok) c.turns.ensures.stops
