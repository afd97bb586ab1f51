use Rattle.std.proofs.Common.{◌≡◌}
use Rattle.norm_turns.specs.Causes.{counted}
use Rattle.norm_node.specs.Lone.{Handing}
use Rattle.norm_node.specs.RunKept.{Begun, At, IsSameTurn, having}
use Rattle.norm_node.specs.Shown.{Outside}
use Rattle.norm_node.proofs.run.ReceiverRun.hand_all.Given as goal

abbrev pub invariant-loop : goal.invariant-loop
invariant-loop g l = record {
  hands : (x : Begun) (o : Outside) → At x l.initial.self Handing (having o (g.K.Sink.pieces l.initial.output) (g.D.Files.contents l.initial.files))
      → At x l.self Handing (having o (g.K.Sink.pieces l.output) (g.D.Files.contents l.files));
  turn : IsSameTurn l.initial.self l.self;
  writes : g.K.Sink.fault_count l.output ≡ g.K.Sink.fault_count l.initial.output;
  puts : g.D.Files.fault_count l.files ≡ g.D.Files.fault_count l.initial.files;
}
