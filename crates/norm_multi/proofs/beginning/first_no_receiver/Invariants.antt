use Rattle.std.proofs.Common.{◌≡◌, ◌+◌, drop}
use Rattle.std.specs.Option.{option_map}
use Rattle.norm_multi.specs.Beginning.{first_no_receiver}
use Rattle.norm_multi.proofs.beginning.first_no_receiver.Given as goal

-- none of these so far
abbrev pub invariant-loop-i : goal.invariant-loop-i
invariant-loop-i l = first_no_receiver l.members ≡ option_map (λ j. l.i + j) (first_no_receiver (drop l.i l.members))
