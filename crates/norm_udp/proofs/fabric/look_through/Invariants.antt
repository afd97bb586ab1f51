use Rattle.std.proofs.Common.{◌≡◌, []}
use Rattle.norm_udp.proofs.fabric.look_through.Given as goal

-- what was found so far was passed over
abbrev pub invariant-loop : goal.invariant-loop
invariant-loop g l = l.into ≡ []
