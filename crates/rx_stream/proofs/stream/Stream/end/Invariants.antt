use Rattle.std.proofs.Common.{◌≡◌, ◌<◌, ℕ, get_or, None}
use Rattle.rx_stream.specs.BlockState.{BlockState, end_in_block}
use Rattle.rx_stream.proofs.stream.Stream.end.Given as goal

-- no block before this place has an end
abbrev pub invariant-loop-place : goal.invariant-loop-place
invariant-loop-place l = (i : ℕ) (d : BlockState) → i < l.place → end_in_block l.self-inside.fti.e (get_or l.self-inside.ring.items i d) ≡ None
