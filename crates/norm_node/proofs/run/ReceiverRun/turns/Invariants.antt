use Rattle.std.proofs.Common.{◌≡◌, ◌≤◌}
use Rattle.norm_turns.specs.Causes.{counted}
use Rattle.norm_node.specs.Lone.{Between}
use Rattle.norm_node.specs.RunKept.{Begun, At}
use Rattle.norm_node.specs.Shown.{outside}
use Rattle.norm_node.proofs.run.ReceiverRun.turns.Given as goal

abbrev pub invariant-loop-i : goal.invariant-loop-i
invariant-loop-i g l = record {
  turned : (x : Begun)
      → At x l.initial.self Between (outside (g.F.Fabric.told l.initial.fabric) (g.K.Sink.pieces l.initial.output) (g.D.Files.contents l.initial.files) (g.C.Clock.moments l.initial.clock))
      → At x l.self Between (outside (g.F.Fabric.told l.fabric) (g.K.Sink.pieces l.output) (g.D.Files.contents l.files) (g.C.Clock.moments l.clock));
  turn : l.self.turn ≡ l.i;
  profile : l.self.p ≡ l.initial.self.p;
  within : l.i ≤ l.i-end;
  last : l.i-end ≡ l.initial.self.p.turns;
  counts : counted (g.K.Sink.fault_count l.output) (g.F.Fabric.fault_count l.fabric) (g.D.Files.fault_count l.files)
      ≡ counted (g.K.Sink.fault_count l.initial.output) (g.F.Fabric.fault_count l.initial.fabric) (g.D.Files.fault_count l.initial.files);
}
