use Rattle.std.proofs.Common.{◌≡◌, []}
use Rattle.norm_udp.proofs.alone.hear_all.Given as goal

-- what was received so far are questions
abbrev pub invariant-loop : goal.invariant-loop
invariant-loop g l = l.into ≡ []
