use Rattle.std.proofs.Common.{◌≡◌, ◌<◌, ℕ, false}
use Rattle.rx_stream.specs.BlockState.{is_end_at}
use Rattle.rx_stream.proofs.block.Block.end.Given as goal

-- no source symbol before this one is an end
abbrev pub invariant-loop-symbol : goal.invariant-loop-symbol
invariant-loop-symbol l = (i : ℕ) → i < l.symbol → is_end_at l.most l.self i ≡ false
