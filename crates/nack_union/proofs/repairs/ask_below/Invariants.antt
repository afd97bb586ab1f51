use Rattle.std.proofs.Common.{◌≡◌, ◌-◌, nat_lt, map}
use Rattle.std.specs.List.{range_with_len}
use Rattle.norm_order.specs.Sets.{with_members}
use Rattle.nack_union.specs.Slots.{symbol_slot}
use Rattle.nack_union.proofs.repairs.ask_below.Given as goal

abbrev pub invariant-symbols : goal.invariant-symbols
invariant-symbols l = record {
  members : with_members nat_lt (map (symbol_slot l.block) (range_with_len l.symbol (l.to - l.symbol))) l.asked.members
      ≡ with_members nat_lt (map (symbol_slot l.block) (range_with_len 0 l.to)) l.initial.asked.members;
  size : l.asked.size ≡ l.initial.asked.size;
}
