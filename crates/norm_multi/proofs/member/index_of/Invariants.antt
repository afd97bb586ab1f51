use Rattle.std.proofs.Common.{◌≡◌, ◌+◌, drop}
use Rattle.std.specs.Option.{option_map}
use Rattle.norm_multi.specs.Calls.{index_in}
use Rattle.norm_multi.proofs.member.index_of.Given as goal

-- none of these so far
abbrev pub invariant-loop-i : goal.invariant-loop-i
invariant-loop-i l = index_in l.sender l.members ≡ option_map (λ j. l.i + j) (index_in l.sender (drop l.i l.members))
