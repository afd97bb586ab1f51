use Rattle.std.proofs.Common.{◌≡◌, List}
use Rattle.driven_nodes.specs.Gathered.{Hearer}
use Rattle.driven_nodes.specs.Hearing.{AreHeard}
use Rattle.driven_nodes.proofs.GatherLemmas.{AnsweredSoFar}
use Rattle.driven_nodes.proofs.gathering.Gathering.answer_all.Given as goal

abbrev pub invariant-loop-member : goal.invariant-loop-member
invariant-loop-member g l = record {
  going : (hearers : List Hearer) → AreHeard l.members l.initial.self.multi hearers
      → AnsweredSoFar l.members l.now l.member-index hearers l.initial.self l.self (g.K.Sink.pieces l.initial.output) (g.K.Sink.pieces l.output);
  writes : g.K.Sink.fault_count l.output ≡ g.K.Sink.fault_count l.initial.output;
}
