use Rattle.std.proofs.Common.{◌≡◌, ◌≤◌, ℕ, nat_lt}
use Rattle.std.specs.Prelude.{◌||◌, ◌&&◌, max}
use Rattle.norm_order.specs.Sets.{is_member}
use Rattle.nack_union.specs.Repairs.{shape_closed}
use Rattle.nack_union.specs.More.{is_source_slot, is_below}
use Rattle.symbol_mask.specs.Words.{in_run}
use Rattle.nack_union.proofs.coverage.insert_sources.Given as goal

abbrev pub invariant-runs : goal.invariant-runs
invariant-runs l = record {
  members : (slot : ℕ) → is_member nat_lt slot l.set.members
      ≡ (is_member nat_lt slot l.initial.set.members || (is_source_slot (shape_closed l.plan l.closed) slot && in_run l.from l.to slot && is_below l.block slot));
  size : l.set.size ≡ l.initial.set.size;
  after : l.first ≤ l.block;
  most : l.block ≤ max l.first l.behind;
}
