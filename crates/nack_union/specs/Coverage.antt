-- The slots of an object that a round asks for: some by themselves, and the source symbols of runs of whole blocks.
use Rattle.std.specs.Prelude.{◌≡◌, ◌<◌, ◌≤◌, ℕ, zero, suc, ◌/◌, ◌&&◌, ◌||◌, List, [], ◌∷◌, length, take, filter, max, Bool, true, false, not, nat_lt}
use Rattle.std.specs.List.{range_with_len}
use Rattle.fec_plan.specs.Partition.{blocks, most_blocks}
use Rattle.norm_order.specs.Sets.{is_member}
use Rattle.norm_order.specs.Shapes.{Shape, closed_in, is_full}
use Rattle.nack_union.specs.Slots.{slots, stands_from}
use Rattle.nack_union.specs.Repairs.{shape_closed}
use Rattle.nack_union.specs.More.{is_source_slot}
use Rattle.nack_union.specs.declared.coverage.Coverage.TheInside.{Inside}

-- the slots of an object of this shape, of which so many blocks have room
pub record Covered : Type 0 where
  pub shape : Shape
  pub room : ℕ
  pub members : List ℕ

-- the farthest of some ends
abbrev pub farthest : List ℕ → ℕ
farthest [] = 0
farthest (n ∷ ns) = max n (farthest ns)

-- Of each block it is kept where the longest run ends that begins with it. A block lies in a run where one that begins with it or
-- before it ends behind it.
abbrev pub lies_in_run : List ℕ → ℕ → Bool
lies_in_run ends block = nat_lt block (farthest (take (suc block) ends))

-- the slot of a closed source symbol of a block that lies in a run
abbrev pub is_run_slot : Shape → List ℕ → ℕ → Bool
is_run_slot c ends zero = false
is_run_slot c ends (suc n) = is_source_slot c (suc n) && lies_in_run ends (n / 256)

-- these slots, and those of the runs
unfoldable pub covered_slots : Shape → List ℕ → List ℕ → List ℕ
covered_slots c ends alone = filter (λ slot. is_member nat_lt slot alone || is_run_slot c ends slot) (range_with_len 0 (slots (blocks c.cut)))

-- all closed source symbols of an object are among slots
abbrev pub HasSources : Shape → List ℕ → Type 0
HasSources c members = (slot : ℕ) → is_source_slot c slot ≡ true → is_member nat_lt slot members ≡ true

-- those that are kept from a block on are
abbrev pub HasSourcesFrom : ℕ → Shape → List ℕ → Type 0
HasSourcesFrom first c members = (slot : ℕ) → stands_from first slot ≡ true → is_source_slot c slot ≡ true → is_member nat_lt slot members ≡ true

-- There is a place for each slot of the blocks that have room, which are of the object, and an end for each of them; nothing is closed
-- behind them. So many first blocks are whole, as are all that lie in a run. Where that is known, all closed source symbols are among the slots.
pub record IsSoundCoverage (m : Inside) : Type 0 where
  pub most : length m.ends.items ≤ most_blocks
  pub within : length m.ends.items ≤ blocks m.plan
  pub size : m.alone.size ≡ slots (length m.ends.items)
  pub behind : (block : ℕ) → length m.ends.items ≤ block → closed_in (shape_closed m.plan m.closed) block ≡ 0
  pub until : m.whole ≤ length m.ends.items
  pub whole : (block : ℕ) → block < m.whole → is_full (shape_closed m.plan m.closed) block ≡ true
  pub runs : (block : ℕ) → lies_in_run m.ends.items block ≡ true → is_full (shape_closed m.plan m.closed) block ≡ true
  pub complete : m.complete ≡ true → HasSources (shape_closed m.plan m.closed) (covered_slots (shape_closed m.plan m.closed) m.ends.items m.alone.members)

abbrev pub coverage_view : Inside → Covered
coverage_view m = record { shape = shape_closed m.plan m.closed; room = length m.ends.items; members = covered_slots (shape_closed m.plan m.closed) m.ends.items m.alone.members }

-- the slot lies in the blocks from one up to another
abbrev pub is_in_blocks : ℕ → ℕ → ℕ → Bool
is_in_blocks first behind zero = false
is_in_blocks first behind (suc n) = not (nat_lt (n / 256) first) && nat_lt (n / 256) behind
