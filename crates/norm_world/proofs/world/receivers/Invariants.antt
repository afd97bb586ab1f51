use Rattle.norm_world.specs.WorldMoves.{AreBegun}
use Rattle.norm_world.proofs.world.receivers.Given as goal

abbrev pub invariant-loop-i : goal.invariant-loop-i
invariant-loop-i l = AreBegun l.profile l.receivers.items l.i
