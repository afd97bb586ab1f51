use Rattle.std.proofs.Common.{◌≡◌, ◌≤◌}
use Rattle.norm_node.specs.Hub.{around}
use Rattle.norm_node.specs.Passing.{HubTurns}
use Rattle.norm_node.proofs.hub.HubRun.turns.Given as goal

abbrev pub invariant-loop-i : goal.invariant-loop-i
invariant-loop-i g l = record {
  turned : HubTurns l.initial.self l.self (around (g.F.Fabric.told l.initial.fabric) (g.C.Clock.moments l.initial.clock))
      (around (g.F.Fabric.told l.fabric) (g.C.Clock.moments l.clock));
  turn : l.self.turn ≡ l.i;
  profile : l.self.p ≡ l.initial.self.p;
  within : l.i ≤ l.i-end;
  last : l.i-end ≡ l.initial.self.p.turns;
  calls : g.F.Fabric.fault_count l.fabric ≡ g.F.Fabric.fault_count l.initial.fabric;
}
