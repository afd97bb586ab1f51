-- The segments of a stream in a ring of rows: what the ring is seen as, and what it keeps.
use Rattle.std.specs.Prelude.{ℕ, ◌≡◌, ◌+◌, ◌-◌, ◌*◌, ◌%◌, ◌<◌, ◌≤◌, ◌++◌, List, length, map, take, drop}
use Rattle.std.specs.List.{range_with_len}
use Rattle.fec_plan.specs.Partition.{place_octets}
use Rattle.stream_buffer.specs.declared.rows.Rows.TheInside.{Inside}

-- rows of `size` octets, of which the ring has room for so many; the number of the first segment that is kept, the
-- closed segments from it on, each in its row, and the octets of the one that fills
pub record RowsState : Type 0 where
  pub size : ℕ
  pub room : ℕ
  pub first : ℕ
  pub rows : List (List ℕ)
  pub filling : List ℕ

-- the octets with a piece put over those from `start` on
abbrev pub over : ℕ → List ℕ → List ℕ → List ℕ
over start piece octets = take start octets ++ piece ++ drop (start + length piece) octets

-- the row at a place of the ring
abbrev pub row_at : ℕ → List ℕ → ℕ → List ℕ
row_at size ring place = take size (drop (place * size) ring)

-- the rows of so many segments from a number on
abbrev pub rows_in : ℕ → ℕ → List ℕ → ℕ → ℕ → List (List ℕ)
rows_in size room ring first count = map (λ number. row_at size ring (number % room)) (range_with_len first count)

-- the octets that stand in the row of the segment that fills, behind room for its place
abbrev pub filling_in : ℕ → List ℕ → List ℕ
filling_in filled row = take filled (drop place_octets row)

abbrev pub rows_view : Inside → RowsState
rows_view r = record {
  size = r.size;
  room = r.room;
  first = r.first;
  rows = rows_in r.size r.room r.ring.items r.first (r.closed - r.first);
  filling = filling_in r.filled (row_at r.size r.ring.items (r.closed % r.room));
}

-- the ring is whole rows, and no row is lent twice
pub record RowsSound (r : Inside) : Type 0 where
  pub ring : length r.ring.items ≡ r.room * r.size
  pub some : 0 < r.room
  pub fits : place_octets + r.filled ≤ r.size
  pub small : r.size ≤ 1408
  pub from : r.first ≤ r.closed
  pub within : r.closed ≤ r.first + r.room
