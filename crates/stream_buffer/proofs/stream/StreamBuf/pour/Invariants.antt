use Rattle.std.proofs.Common.{length}
use Rattle.stream_buffer.proofs.MovesLemmas.{Pours}
use Rattle.stream_buffer.proofs.stream.StreamBuf.pour.Given as goal

abbrev pub invariant-rest : goal.invariant-rest
invariant-rest l = Pours l.self l.fn.self l.rest l.fn.bytes

abbrev pub decreases-rest : goal.decreases-rest
decreases-rest l = length l.rest
