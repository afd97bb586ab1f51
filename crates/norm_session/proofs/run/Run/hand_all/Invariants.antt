use Rattle.std.proofs.Common.{◌≡◌, List, ℕ}
use Rattle.norm_base.specs.Network.{Network}
use Rattle.norm_journal.specs.Places.{Handing}
use Rattle.norm_session.specs.Context.{Context}
use Rattle.norm_session.specs.SoFar.{At}
use Rattle.norm_session.proofs.run.Run.hand_all.Given as goal

abbrev pub invariant-loop : goal.invariant-loop
invariant-loop g l = record {
  hands : (x : Context) (nodes : List ℕ) (network : Network) → At x l.initial.self (Handing l.node nodes) network (g.K.Sink.pieces l.initial.output)
      → At x l.self (Handing l.node nodes) network (g.K.Sink.pieces l.output);
  nodes : l.self.world.p ≡ l.initial.self.world.p;
  counts : g.K.Sink.fault_count l.output ≡ g.K.Sink.fault_count l.initial.output;
}
