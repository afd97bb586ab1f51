use Rattle.std.proofs.Common.{◌≡◌, ◌≤◌, ◌+◌, ◌-◌, length}
use Rattle.nack_union.specs.Repairs.{fresh_symbols}
use Rattle.nack_union.proofs.repairs.count_fresh.Given as goal

abbrev pub invariant-symbols : goal.invariant-symbols
invariant-symbols l = record {
  few : l.fresh ≤ l.symbol;
  all : l.fresh + length (fresh_symbols l.sent.members l.block l.symbol (l.to - l.symbol)) ≡ length (fresh_symbols l.sent.members l.block l.from (l.to - l.from));
}
