use Rattle.std.proofs.Common.{ℕ, ◌<◌, ◌≢◌, get_or}
use Rattle.tests_wire.proofs.rs_block_tests.are_ids.Given as goal

abbrev pub invariant-loop-i : goal.invariant-loop-i
invariant-loop-i l =
    ((a b : ℕ) → a < b → b < l.i → get_or l.ids a 0 ≢ get_or l.ids b 0) × ((a : ℕ) → a < l.i → get_or l.ids a 0 < 255)
