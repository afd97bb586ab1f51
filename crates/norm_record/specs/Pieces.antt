-- A row of octets in pieces.
use Rattle.std.specs.Prelude.{ℕ, ◌+◌, ◌≤◌, ◌≡◌, List, length, map, take, drop, All, sum_by}
use Rattle.norm_record.specs.declared.row.Piece.{Piece}

-- the octets of a piece
abbrev pub piece_in : List ℕ → Piece → List ℕ
piece_in octets piece = take piece.len (drop piece.from octets)

-- the pieces of a row
abbrev pub pieces_of : List ℕ → List Piece → List (List ℕ)
pieces_of octets pieces = map (piece_in octets) pieces

-- a piece lies within so many octets
abbrev pub IsWithin : ℕ → Piece → Type 0
IsWithin count piece = piece.from + piece.len ≤ count

-- each piece lies within the row, and together they have as many octets
pub record ArePieces (octets : List ℕ) (pieces : List Piece) : Type 0 where
  pub within : All (IsWithin (length octets)) pieces
  pub count : sum_by length (pieces_of octets pieces) ≡ length octets
