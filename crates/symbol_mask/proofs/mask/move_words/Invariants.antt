use Rattle.std.proofs.Common.{◌≡◌, ℕ, ◌+◌, ◌<◌, ◌≤◌, get_or}
use Rattle.symbol_mask.proofs.mask.move_words.Given as goal

abbrev pub invariant-moved : goal.invariant-moved
invariant-moved l = record {
  moved : (k : ℕ) → k < l.place → get_or l.words k 0 ≡ get_or l.initial.words (k + l.gone) 0;
  rest : (k : ℕ) → l.place ≤ k → get_or l.words k 0 ≡ get_or l.initial.words k 0;
}
