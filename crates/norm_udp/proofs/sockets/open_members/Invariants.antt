use Rattle.std.proofs.Common.{◌≡◌, ◌∷◌}
use Rattle.norm_base.specs.Members.{receivers_of}
use Rattle.norm_udp.specs.Ways.{nodes_of}
use Rattle.norm_udp.proofs.sockets.open_members.Given as goal

-- the sender, and the receivers so far
abbrev pub invariant-loop-place : goal.invariant-loop-place
invariant-loop-place g l = nodes_of l.members.items ≡ l.profile.sender ∷ receivers_of l.profile l.place
