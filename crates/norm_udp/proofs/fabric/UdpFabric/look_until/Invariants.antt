use Rattle.std.proofs.Common.{◌≡◌, []}
use Rattle.norm_udp.proofs.fabric.UdpFabric.look_until.Given as goal

-- nothing was found yet, and no fault was counted
abbrev pub invariant-loop : goal.invariant-loop
invariant-loop g l = (l.into ≡ []) × (l.self.faults ≡ l.fn.self.faults)
