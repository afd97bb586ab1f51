use Rattle.std.proofs.Common.{◌≡◌}
use Rattle.norm_node.specs.Lone.{Taking}
use Rattle.norm_node.specs.RunKept.{Begun, At, IsSameTurn, over}
use Rattle.norm_node.specs.Shown.{Outside}
use Rattle.norm_node.proofs.GoesLemmas.{takes_from}
use Rattle.norm_node.proofs.run.ReceiverRun.take_all.Given as goal

abbrev pub invariant-loop : goal.invariant-loop
invariant-loop g l = record {
  takes : (x : Begun) (o : Outside) → At x l.initial.self (Taking 0) (over o (g.F.Fabric.told l.initial.fabric))
      → At x l.self (takes_from l.counter) (over o (g.F.Fabric.told l.fabric));
  turn : IsSameTurn l.initial.self l.self;
  calls : g.F.Fabric.fault_count l.fabric ≡ g.F.Fabric.fault_count l.initial.fabric;
}
