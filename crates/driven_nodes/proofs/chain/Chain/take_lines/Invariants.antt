use Rattle.std.proofs.Common.{◌≡◌, length}
use Rattle.driven_nodes.proofs.ChainLemmas.{Goes}
use Rattle.driven_nodes.proofs.chain.Chain.take_lines.Given as goal

abbrev pub invariant-lines : goal.invariant-lines
invariant-lines g l = record {
  going : Goes l.initial.self l.text l.number l.rest l.self (g.K.Sink.pieces l.initial.output) (g.K.Sink.pieces l.output);
  writes : g.K.Sink.fault_count l.output ≡ g.K.Sink.fault_count l.initial.output;
}

abbrev pub decreases-lines : goal.decreases-lines
decreases-lines g l = length l.rest
