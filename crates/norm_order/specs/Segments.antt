-- The segments of a stream, each of them a source symbol (RFC 5740 section 4.2.1 on NORM_STREAM_OBJECT).
use Rattle.std.specs.Prelude.{ℕ, zero, suc, ◌+◌, ◌/◌, ◌%◌, List, [], ◌∷◌, ◌++◌, length, take, drop, Bool, true, false}
use Rattle.std.specs.Int.{div_ceil}
use Rattle.norm_order.specs.Entries.{Part, Write, Cut, End}

-- the first n pieces of e octets, where the last may be shorter
unfoldable pub pieces : ℕ → ℕ → List ℕ → List (List ℕ)
pieces e zero octets = []
pieces e (suc n) octets = take e octets ∷ pieces e n (drop e octets)

-- the pieces that are full
abbrev pub full_pieces : ℕ → List ℕ → List (List ℕ)
full_pieces e octets = pieces e (length octets / e) octets

-- all pieces
abbrev pub all_pieces : ℕ → List ℕ → List (List ℕ)
all_pieces e octets = pieces e (div_ceil (length octets) e) octets

-- The closed segments of a stream that has written these octets since its last cut, and goes on with these parts. A
-- segment is closed where it is full; a cut closes the one that holds octets, and so does the end, which then adds a
-- segment of no octets.
unfoldable pub closed_from : ℕ → List ℕ → List Part → List (List ℕ)
closed_from e since [] = full_pieces e since
closed_from e since (Write by octets ∷ parts) = closed_from e (since ++ octets) parts
closed_from e since (Cut ∷ parts) = all_pieces e since ++ closed_from e [] parts
closed_from e since (End ∷ parts) = all_pieces e since ++ [] ∷ []

-- a closed segment: its first octet's place in the stream, and its octets
pub record Segment : Type 0 where
  pub offset : ℕ
  pub octets : List ℕ

-- segments in a row, the first at this offset
unfoldable pub placed : ℕ → List (List ℕ) → List Segment
placed offset [] = []
placed offset (octets ∷ more) = record { offset = offset; octets = octets } ∷ placed (offset + length octets) more

-- the closed segments of a stream
abbrev pub segments : ℕ → List Part → List Segment
segments e parts = placed 0 (closed_from e [] parts)

-- the octets written, in order
unfoldable pub written : List Part → List ℕ
written [] = []
written (Write by octets ∷ parts) = octets ++ written parts
written (_ ∷ parts) = written parts

-- the octets written since the last cut
unfoldable pub since_cut : List ℕ → List Part → List ℕ
since_cut since [] = since
since_cut since (Write by octets ∷ parts) = since_cut (since ++ octets) parts
since_cut since (_ ∷ parts) = since_cut [] parts

-- how many octets stand in the segment that is not closed
abbrev pub unclosed : ℕ → List Part → ℕ
unclosed e parts = length (since_cut [] parts) % e

-- the stream was closed
unfoldable pub has_end : List Part → Bool
has_end [] = false
has_end (End ∷ parts) = true
has_end (_ ∷ parts) = has_end parts
