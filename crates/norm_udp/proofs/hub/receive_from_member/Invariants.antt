use Rattle.std.proofs.Common.{◌≡◌, []}
use Rattle.norm_udp.proofs.hub.receive_from_member.Given as goal

-- nothing of a member was received yet
abbrev pub invariant-loop : goal.invariant-loop
invariant-loop l = l.into ≡ []
