use Rattle.std.proofs.Common.{◌≡◌, ◌-◌}
use Rattle.norm_base.specs.Network.{Network}
use Rattle.norm_journal.specs.Places.{Place}
use Rattle.norm_session.specs.Context.{Context, with_posted}
use Rattle.norm_session.specs.SoFar.{IsTelling}
use Rattle.norm_session.specs.Telling.{IsTellingOf}
use Rattle.norm_session.proofs.run.Run.tell_all.Given as goal

abbrev pub invariant-loop : goal.invariant-loop
invariant-loop g l = record {
  tells : (x : Context) (place : Place) (network : Network) → IsTelling (with_posted x l.initial.board) l.initial.self place network (g.K.Sink.pieces l.initial.output)
      → IsTellingOf (with_posted x l.board) l.self place network (g.K.Sink.pieces l.output) (l.end - l.counter);
  counts : g.K.Sink.fault_count l.output ≡ g.K.Sink.fault_count l.initial.output;
}
