use Rattle.std.proofs.Common.{◌≡◌, ℕ, nat_lt, take}
use Rattle.std.specs.Prelude.{◌||◌, ◌&&◌}
use Rattle.norm_order.specs.Sets.{is_member}
use Rattle.nack_union.specs.Repairs.{shape_closed}
use Rattle.nack_union.specs.More.{is_below}
use Rattle.nack_union.specs.Coverage.{is_run_slot, farthest}
use Rattle.nack_union.proofs.coverage.insert_runs.Given as goal

abbrev pub invariant-covered : goal.invariant-covered
invariant-covered l = record {
  members : (slot : ℕ) → is_member nat_lt slot l.set.members
      ≡ (is_member nat_lt slot l.initial.set.members || (is_run_slot (shape_closed l.plan l.closed) l.ends slot && is_below l.block slot));
  farthest : l.farthest ≡ farthest (take l.block l.ends);
  size : l.set.size ≡ l.initial.set.size;
}
