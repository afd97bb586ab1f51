use Rattle.std.proofs.Common.{◌≡◌, ◌≤◌, ◌<◌, ◌/◌, ℕ, get_or, nat_lt}
use Rattle.std.specs.Prelude.{◌||◌, ◌&&◌}
use Rattle.symbol_mask.specs.Words.{in_run}
use Rattle.symbol_mask.specs.Words.{has_bit}
use Rattle.symbol_mask.proofs.mask.set_run.Given as goal

abbrev pub invariant-words : goal.invariant-words
invariant-words l = record {
  bits : (place : ℕ) → has_bit l.words place ≡ (has_bit l.initial.words place || (in_run l.from l.to place && nat_lt (place / 64) l.word));
  before : (k : ℕ) → k < l.from / 64 → get_or l.words k 0 ≡ get_or l.initial.words k 0;
  after : l.first ≤ l.word;
  most : l.word ≤ l.behind;
}
