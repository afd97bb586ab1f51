use Rattle.std.proofs.Common.{◌≡◌}
use Rattle.norm_base.specs.Members.{receivers_of}
use Rattle.norm_udp.specs.Ways.{nodes_of}
use Rattle.norm_udp.proofs.hub.open_each.Given as goal

-- the receivers so far
abbrev pub invariant-loop-place : goal.invariant-loop-place
invariant-loop-place g l = nodes_of l.each.items ≡ receivers_of l.profile l.place
