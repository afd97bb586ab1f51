use Rattle.std.proofs.Common.{◌≡◌, ℕ, ◌<◌, nat_lt, drop, slice_index}
use Rattle.norm_order.specs.Sets.{with_members}
use Rattle.nack_union.specs.Kept.{IsRepairable}
use Rattle.nack_union.specs.Repairs.{shape_closed, counted_slots}
use Rattle.nack_union.proofs.repairs.ask_counted.Given as goal

abbrev pub invariant-counted : goal.invariant-counted
invariant-counted l = record {
  members : with_members nat_lt (counted_slots (shape_closed l.plan l.closed) l.sent.members l.block (drop l.block l.counts)) l.asked.members
      ≡ with_members nat_lt (counted_slots (shape_closed l.plan l.closed) l.sent.members 0 l.counts) l.initial.asked.members;
  repairable : (block : ℕ) → block < l.block → 0 < slice_index l.counts block → IsRepairable l.plan block;
  size : l.asked.size ≡ l.initial.asked.size;
}
