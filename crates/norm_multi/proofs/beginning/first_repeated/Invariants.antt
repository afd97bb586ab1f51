use Rattle.std.proofs.Common.{◌≡◌, [], take, drop}
use Rattle.norm_multi.specs.Beginning.{first_repeated}
use Rattle.norm_multi.proofs.beginning.first_repeated.Given as goal

-- none of these so far
abbrev pub invariant-loop-i : goal.invariant-loop-i
invariant-loop-i l = first_repeated [] l.ids ≡ first_repeated (take l.i l.ids) (drop l.i l.ids)
