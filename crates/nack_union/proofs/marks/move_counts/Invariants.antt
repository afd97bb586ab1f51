use Rattle.std.proofs.Common.{◌≡◌, ℕ, ◌+◌, ◌<◌, ◌≤◌, get_or}
use Rattle.nack_union.proofs.marks.move_counts.Given as goal

abbrev pub invariant-moved : goal.invariant-moved
invariant-moved l = record {
  moved : (k : ℕ) → k < l.place → get_or l.counts k 0 ≡ get_or l.initial.counts (k + l.gone) 0;
  rest : (k : ℕ) → l.place ≤ k → get_or l.counts k 0 ≡ get_or l.initial.counts k 0;
}
