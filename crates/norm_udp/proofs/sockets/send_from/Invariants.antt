use Rattle.std.proofs.Common.{◌≡◌, ◌≤◌, take}
use Rattle.norm_udp.specs.Ways.{nodes_of, copies}
use Rattle.norm_udp.proofs.sockets.send_from.Given as goal

-- as many were sent as the members so far get
abbrev pub invariant-loop-to : goal.invariant-loop-to
invariant-loop-to l = record {
  sent : l.sent ≡ copies l.profile l.from (nodes_of (take l.to-index l.members));
  most : l.sent ≤ l.to-index;
}
