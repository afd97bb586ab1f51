use Rattle.std.proofs.Common.{◌≡◌, []}
use Rattle.norm_udp.proofs.joined.hear.Given as goal

-- what was received so far was passed over
abbrev pub invariant-loop : goal.invariant-loop
invariant-loop g l = l.into ≡ []
