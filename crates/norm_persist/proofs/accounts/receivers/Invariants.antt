use Rattle.std.proofs.Common.{◌≡◌}
use Rattle.norm_base.specs.Members.{receivers_of}
use Rattle.norm_persist.proofs.accounts.receivers.Given as goal

abbrev pub invariant-loop-i : goal.invariant-loop-i
invariant-loop-i l = l.nodes.items ≡ receivers_of l.profile l.i
