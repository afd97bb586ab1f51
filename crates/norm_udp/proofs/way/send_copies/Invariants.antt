use Rattle.std.proofs.Common.{◌≡◌, ◌≤◌, take}
use Rattle.norm_udp.specs.Ways.{nodes_of, own_copies}
use Rattle.norm_udp.proofs.way.send_copies.Given as goal

-- as many were sent as the receivers so far get
abbrev pub invariant-loop-to : goal.invariant-loop-to
invariant-loop-to l = record {
  sent : l.sent ≡ own_copies l.profile l.listeners.each l.from (nodes_of (take l.to-index l.receivers));
  most : l.sent ≤ l.to-index;
}
