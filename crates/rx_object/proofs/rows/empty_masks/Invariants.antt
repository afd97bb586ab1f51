use Rattle.std.proofs.Common.{◌≡◌, List, ℕ, [], replicate}
use Rattle.rx_object.proofs.rows.empty_masks.Given as goal

abbrev pub invariant-loop : goal.invariant-loop
invariant-loop l = l.masks.items ≡ replicate {A = List ℕ} l.counter []
