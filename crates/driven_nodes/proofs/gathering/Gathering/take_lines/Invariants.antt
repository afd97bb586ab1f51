use Rattle.std.proofs.Common.{◌≡◌, length}
use Rattle.driven_nodes.specs.Gathered.{SoFar}
use Rattle.driven_nodes.specs.Hearing.{StandsFor, IsReady, LeadsTo}
use Rattle.driven_nodes.proofs.GatherLemmas.{from_line}
use Rattle.driven_nodes.proofs.gathering.Gathering.take_lines.Given as goal

abbrev pub invariant-lines : goal.invariant-lines
invariant-lines g l = record {
  ready : IsReady l.members l.self;
  going : (state : SoFar) → StandsFor l.members l.initial.self state
      → LeadsTo l.members (from_line 1 l.text state) (from_line l.number l.rest) l.self (g.K.Sink.pieces l.initial.output) (g.K.Sink.pieces l.output);
  writes : g.K.Sink.fault_count l.output ≡ g.K.Sink.fault_count l.initial.output;
}

abbrev pub decreases-lines : goal.decreases-lines
decreases-lines g l = length l.rest
