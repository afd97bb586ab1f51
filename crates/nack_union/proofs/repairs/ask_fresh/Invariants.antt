use Rattle.std.proofs.Common.{◌≡◌, ◌-◌, nat_lt, map, take}
use Rattle.norm_order.specs.Sets.{with_members}
use Rattle.nack_union.specs.Slots.{symbol_slot}
use Rattle.nack_union.specs.Repairs.{fresh_symbols}
use Rattle.nack_union.proofs.repairs.ask_fresh.Given as goal

abbrev pub invariant-symbols : goal.invariant-symbols
invariant-symbols l = record {
  members : with_members nat_lt (map (symbol_slot l.block) (take l.left (fresh_symbols l.sent.members l.block l.symbol (l.to - l.symbol)))) l.asked.members
      ≡ with_members nat_lt (map (symbol_slot l.block) (take l.count (fresh_symbols l.sent.members l.block l.from (l.to - l.from)))) l.initial.asked.members;
  size : l.asked.size ≡ l.initial.asked.size;
}
