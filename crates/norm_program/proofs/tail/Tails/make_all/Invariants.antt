use Rattle.std.proofs.Common.{◌≡◌, ◌-◌}
use Rattle.norm_base.specs.Told.{Pieces}
use Rattle.norm_program.specs.TailEnds.{TailsSoFar, tails_of}
use Rattle.norm_program.specs.Tailing.{AreMade, MayGoOn}
use Rattle.norm_program.proofs.TailLemmas.{Going}
use Rattle.norm_program.proofs.tail.Tails.make_all.Given as goal

abbrev pub invariant-loop : goal.invariant-loop
invariant-loop g l = record {
  may : MayGoOn l.profile l.self.world;
  going : (t : TailsSoFar) (u : Pieces) → AreMade l.initial.self t u (g.K.Sink.pieces l.initial.output)
      → Going l.profile (l.end - l.counter) (tails_of l.profile t) l.self u (g.K.Sink.pieces l.output);
  writes : g.K.Sink.fault_count l.output ≡ g.K.Sink.fault_count l.initial.output;
}
