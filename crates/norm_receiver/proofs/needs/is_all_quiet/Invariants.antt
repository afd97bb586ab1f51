-- Nothing is needed exactly where nothing is of the objects from this index on.
use Rattle.std.proofs.Common.{◌≡◌, ◌≤◌, ◌-◌}
use Rattle.norm_receive_rules.specs.Holding.{Holding}
use Rattle.norm_receive_rules.specs.AllNeeds.{needs_by, needs_from}
use Rattle.rx_hold.specs.EntryHold.{StandsFor as HoldStands}
use Rattle.norm_receiver.specs.Quiet.{is_nil}
use Rattle.norm_receiver.specs.ReceiverKept.{HasSeenBlocks}
use Rattle.norm_receiver.proofs.needs.is_all_quiet.Given as goal

abbrev pub invariant-loop-index : goal.invariant-loop-index
invariant-loop-index l = record {
  reached : l.hold.point.index ≤ l.index;
  quiet : (s : Holding) → HoldStands l.hold s → HasSeenBlocks s
      → is_nil (needs_by l.hold.p l.numbers.farthest l.numbers.flush s) ≡ is_nil (needs_from (l.last - l.index) l.hold.p l.numbers.farthest l.numbers.flush s l.index);
}

abbrev pub decreases-loop-index : goal.decreases-loop-index
decreases-loop-index l = l.last - l.index
