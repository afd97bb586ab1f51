-- A seat at the board's words.
use Rattle.std.specs.Prelude.{◌≡◌, ℕ, []}
use Rattle.atomic_table.specs.Seated.{TableId}
use Rattle.atomic_table.specs.declared.shared.Seat.{Seat}
use Rattle.producer_gate.specs.declared.words.Role.{Role}

-- it is a seat of these words, which there are enough of, and it is at rest
abbrev pub IsAt : TableId → Seat ℕ Role → Type 0
IsAt words place = (place.table_id ≡ words) × (words.words ≡ 8193) × (place.me.1 ≡ [])
