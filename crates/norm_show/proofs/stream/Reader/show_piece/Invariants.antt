use Rattle.std.proofs.Common.{◌≡◌, ◌+◌, ◌≤◌, length}
use Rattle.norm_show.specs.Progress.{Shows}
use Rattle.norm_show.proofs.stream.Reader.show_piece.Given as goal

abbrev pub invariant-lines : goal.invariant-lines
invariant-lines g l = record {
  shows : Shows l.fn.self l.fn.piece l.self l.rest (g.K.Sink.pieces l.fn.output) (g.K.Sink.pieces l.output);
  number : l.self.number + length l.rest ≤ l.fn.self.number + length l.fn.piece;
  count : g.K.Sink.fault_count l.output ≡ g.K.Sink.fault_count l.fn.output;
}

abbrev pub decreases-lines : goal.decreases-lines
decreases-lines g l = length l.rest
