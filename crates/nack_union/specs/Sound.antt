-- What holds of each object of a union.
use Rattle.std.specs.Prelude.{◌≡◌, ◌<◌, ◌≤◌, ◌⊎◌, ℕ, ◌+◌, ◌-◌, ◌*◌, List, [], ◌++◌, length, map, replicate, slice_index, false, Some, None, nat_lt}
use Rattle.std.specs.List.{AllByRecursion}
use Rattle.fec_plan.specs.Partition.{most_blocks, all_symbols, symbol_number}
use Rattle.norm_order.specs.Sets.{is_member}
use Rattle.norm_order.specs.Shapes.{closed_in}
use Rattle.nack_union.specs.Slots.{slots}
use Rattle.nack_union.specs.Repairs.{shape_closed}
use Rattle.nack_union.specs.Kept.{Marked}
use Rattle.nack_union.specs.declared.marks.Marks.TheInside.{Inside}

-- a slot is one of a block that has a number, where blocks are counted from one on
abbrev pub HasNumber : ℕ → ℕ → Type 0
HasNumber first slot = 256 * first + slot < slots most_blocks

-- Each set is one of the slots of the blocks that have room, which are no more than positions name, and of which each has a count. They are
-- numbered from the first kept block on, which is 0 but of a stream. Of
-- an object that has a length all source symbols are closed, and of none are any that have no room. What is asked for is of its
-- shape, what is wanted, asked for and counted is of blocks that have numbers, the wants are counted, and it is known where nothing is asked for. Of an object without
-- info its slot is in no set.
pub record IsSoundObject (m : Inside) : Type 0 where
  pub wants : m.wants.size ≡ slots (length m.counts.items)
  pub most : length m.counts.items ≤ most_blocks
  pub front : m.first ≤ most_blocks
  pub moves : (m.first ≡ 0) ⊎ ((m.plan.l ≡ None) × (m.info ≡ false))
  pub sent : m.sent.size ≡ slots (length m.counts.items)
  pub closed : m.closed ≤ all_symbols m.plan
  pub whole : (l : ℕ) → m.plan.l ≡ Some l → m.closed ≡ all_symbols m.plan
  pub behind : (block : ℕ) → m.first + length m.counts.items ≤ block → closed_in (shape_closed m.plan m.closed) block ≡ 0
  pub asked : m.asked.shape ≡ shape_closed m.plan (m.closed - symbol_number m.plan m.first 0)
  pub room : m.asked.room ≡ length m.counts.items
  pub idle : m.is_asked ≡ false → (m.asked.members ≡ []) × (m.counts.items ≡ replicate (length m.counts.items) 0)
  pub counted : (block : ℕ) → 0 < slice_index m.counts.items block → m.first + block < most_blocks
  pub wanted : m.wanted ≡ length m.wants.members
  pub numbers : AllByRecursion (HasNumber m.first) m.wants.members
  pub named : AllByRecursion (HasNumber m.first) m.asked.members
  pub plain : m.info ≡ false → (is_member nat_lt 0 m.wants.members ≡ false) × (is_member nat_lt 0 m.sent.members ≡ false) × (is_member nat_lt 0 m.asked.members ≡ false)

-- slots of which the blocks are counted from one on
abbrev pub slots_from : ℕ → List ℕ → List ℕ
slots_from first slots = map (λ slot. 256 * first + slot) slots

abbrev pub marks_view : Inside → Marked
marks_view m = record {
  cut = m.plan;
  closed = m.closed;
  info = m.info;
  first = m.first;
  wants = slots_from m.first m.wants.members;
  sent = slots_from m.first m.sent.members;
  asked = slots_from m.first m.asked.members;
  counts = replicate m.first 0 ++ m.counts.items;
}
