use Rattle.std.proofs.Common.{◌≡◌, false}
use Rattle.std.specs.List.{list_any}
use Rattle.norm_base.specs.Members.{is_node, receivers_of}
use Rattle.norm_relay.proofs.relay.share_nobody.Given as goal

-- none of these so far
abbrev pub invariant-loop-i : goal.invariant-loop-i
invariant-loop-i l = list_any (is_node l.down) (receivers_of l.up l.i) ≡ false
