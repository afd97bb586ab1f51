use Rattle.std.proofs.Common.{◌≡◌, ◌++◌, drop}
use Rattle.norm_memory.specs.Fates.{copies_of}
use Rattle.norm_memory.proofs.network.planned_copies.Given as goal

-- the copies so far, and those for the members that are left
abbrev pub invariant-loop-to : goal.invariant-loop-to
invariant-loop-to l = copies_of l.place l.plan ≡ l.copies.items ++ copies_of l.place (drop l.to-index l.plan)
