use Rattle.std.proofs.Common.{◌≤◌, ℕ}
use Rattle.gf_field.specs.Symbol.{AreIds, AreSymbols}
use Rattle.rx_stream.specs.SameBlock.{SameBlock}
use Rattle.rx_stream.proofs.moving.move_all_home.Given as goal

abbrev pub invariant-loop-behind : goal.invariant-loop-behind
invariant-loop-behind l = (k size : ℕ) → k ≤ 255 → AreIds k 255 l.fn.ids → AreSymbols k size l.fn.rows → SameBlock k size l.fn.ids l.fn.rows l.ids l.rows
