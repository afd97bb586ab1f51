use Rattle.std.proofs.Common.{◌≡◌, drop}
use Rattle.norm_journal.specs.Places.{handing}
use Rattle.norm_session.specs.Context.{Context}
use Rattle.norm_session.specs.SoFar.{At}
use Rattle.norm_session.proofs.run.Run.serve_all.Given as goal

abbrev pub invariant-loop-i : goal.invariant-loop-i
invariant-loop-i g l = record {
  serves : (x : Context) → At x l.initial.self (handing x.nodes) (g.F.Fabric.told l.initial.fabric) (g.K.Sink.pieces l.initial.output)
      → At x l.self (handing (drop l.i x.nodes)) (g.F.Fabric.told l.fabric) (g.K.Sink.pieces l.output);
  writes : g.K.Sink.fault_count l.output ≡ g.K.Sink.fault_count l.initial.output;
  calls : g.F.Fabric.fault_count l.fabric ≡ g.F.Fabric.fault_count l.initial.fabric;
}
