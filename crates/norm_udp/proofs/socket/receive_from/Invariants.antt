use Rattle.std.proofs.Common.{◌≡◌, []}
use Rattle.norm_udp.proofs.socket.receive_from.Given as goal

-- nothing was received yet
abbrev pub invariant-loop : goal.invariant-loop
invariant-loop l = l.into ≡ []
