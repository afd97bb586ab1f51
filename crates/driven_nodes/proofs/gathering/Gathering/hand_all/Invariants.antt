use Rattle.std.proofs.Common.{◌≡◌}
use Rattle.std.specs.Prelude.{IsSome}
use Rattle.norm_multi.specs.Calls.{member_of}
use Rattle.driven_nodes.specs.Hearing.{HandsOn, KeepsOthers}
use Rattle.driven_nodes.proofs.gathering.Gathering.hand_all.Given as goal

abbrev pub invariant-loop : goal.invariant-loop
invariant-loop g l = record {
  hands : HandsOn l.sender l.node l.initial.self l.self (g.K.Sink.pieces l.initial.output) (g.K.Sink.pieces l.output);
  keeps : KeepsOthers l.sender l.initial.self l.self;
  there : IsSome (member_of l.self.multi l.sender);
  writes : g.K.Sink.fault_count l.output ≡ g.K.Sink.fault_count l.initial.output;
}
