use Rattle.std.proofs.Common.{◌≡◌}
use Rattle.norm_journal.specs.Places.{Taking}
use Rattle.norm_session.specs.Context.{Context, with_posted}
use Rattle.norm_session.specs.SoFar.{At}
use Rattle.norm_session.proofs.ServingLemmas.{takes_from}
use Rattle.norm_session.proofs.run.Run.take_all.Given as goal

abbrev pub invariant-loop : goal.invariant-loop
invariant-loop g l = record {
  takes : (x : Context) → At (with_posted x l.initial.board) l.initial.self (Taking 0) (g.F.Fabric.told l.initial.fabric) (g.K.Sink.pieces l.initial.output)
      → At (with_posted x l.board) l.self (takes_from x l.counter) (g.F.Fabric.told l.fabric) (g.K.Sink.pieces l.output);
  writes : g.K.Sink.fault_count l.output ≡ g.K.Sink.fault_count l.initial.output;
  calls : g.F.Fabric.fault_count l.fabric ≡ g.F.Fabric.fault_count l.initial.fabric;
}
