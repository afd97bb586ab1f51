use Rattle.std.proofs.Common.{◌+◌, ◌-◌, nat_lt, map, ap, sym, ◌∙◌}
use Rattle.std.specs.List.{range_with_len}
use Rattle.norm_order.specs.Sets.{with_member, with_members}
use Rattle.nack_union.specs.Slots.{symbol_slot}
use Rattle.nack_union.proofs.Freshness.{range_first}
use Rattle.nack_union.proofs.repairs.ask_below.Goals as goal

pub symbols-preserved : goal.symbols-preserved
symbols-preserved c = record {
  members =
      ap (with_members nat_lt (map (symbol_slot c.args.block) (range_with_len (c.symbols.symbol + 1) (c.args.to - (c.symbols.symbol + 1)))))
      (c.insert.ensures.members ∙ ap (λ n. with_member nat_lt n c.symbols.asked.members) c.slot_of.ensures.slot)
      ∙ ap (λ xs. with_members nat_lt (map (symbol_slot c.args.block) xs) c.symbols.asked.members) (sym (range_first c.symbols.symbol c.args.to c.symbols-test.true))
      ∙ c.symbols.invariant.members;
  size = c.insert.ensures.size ∙ c.symbols.invariant.size;
}
