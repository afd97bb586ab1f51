use Rattle.std.proofs.Common.{◌≡◌, ◌++◌, drop}
use Rattle.norm_multi.specs.Beginning.{ids_of}
use Rattle.norm_multi.proofs.beginning.ids_of.Given as goal

-- the ids that are to follow make the whole
abbrev pub invariant-loop-member : goal.invariant-loop-member
invariant-loop-member l = l.ids.items ++ ids_of (drop l.member-index l.members) ≡ ids_of l.members
