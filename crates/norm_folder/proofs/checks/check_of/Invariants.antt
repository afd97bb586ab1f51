use Rattle.std.proofs.Common.{◌≡◌}
use Rattle.norm_mirror.specs.Checking.{checked}
use Rattle.norm_arrival.specs.HandedBy.{ups_of}
use Rattle.norm_folder.proofs.CheckLemmas.{handed}
use Rattle.norm_folder.proofs.checks.check_of.Given as goal

-- the hand-ups of the node so far
abbrev pub invariant-loop-hand : goal.invariant-loop-hand
invariant-loop-hand l = l.check ≡ checked (ups_of l.node (handed l.ups l.hands l.hand-index))
