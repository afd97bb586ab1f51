use Rattle.std.proofs.Common.{◌≡◌, ◌+◌, ◌-◌, ◌^◌, ◌≤◌}
use Rattle.norm_show.proofs.ShowLemmas.{ReadSoFar}
use Rattle.norm_show.proofs.stream.show.Given as goal

-- what was read so far was shown, but for the beginning of the next line
abbrev pub invariant-pieces : goal.invariant-pieces
invariant-pieces g l = record {
  so_far : ReadSoFar (g.S.Source.left l.fn.input) (g.S.Source.left l.input) l.reader (g.K.Sink.pieces l.fn.output) (g.K.Sink.pieces l.output);
  number : l.reader.number ≤ g.S.Source.given l.input + 1;
  reads : g.S.Source.fault_count l.input ≡ g.S.Source.fault_count l.fn.input;
  writes : g.K.Sink.fault_count l.output ≡ g.K.Sink.fault_count l.fn.output;
}

abbrev pub decreases-pieces : goal.decreases-pieces
decreases-pieces g l = 2 ^ 63 - g.S.Source.given l.input
