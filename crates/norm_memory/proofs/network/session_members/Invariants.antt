use Rattle.std.proofs.Common.{◌≡◌, ◌∷◌}
use Rattle.norm_base.specs.Members.{receivers_of}
use Rattle.norm_memory.proofs.network.session_members.Given as goal

-- the sender, and the receivers so far
abbrev pub invariant-loop-i : goal.invariant-loop-i
invariant-loop-i l = l.members.items ≡ l.profile.sender ∷ receivers_of l.profile l.i
