use Rattle.std.proofs.Common.{◌≡◌, ◌++◌, replicate}
use Rattle.norm_memory.proofs.network.push_copies.Given as goal

-- as many as were counted
abbrev pub invariant-loop : goal.invariant-loop
invariant-loop l = l.copies.items ≡ l.initial.copies.items ++ replicate l.counter l.copy
