-- What a stream's buffer keeps, for which streams it stands, and what it answers where it takes no more.
use Rattle.std.specs.Prelude.{ℕ, zero, suc, ◌≡◌, ◌+◌, ◌-◌, ◌*◌, ◌/◌, ◌≤◌, ◌&&◌, List, [], ◌∷◌, ◌++◌, length, map, take, drop, slice_index, max, Bool, true, false, nat_lt, nat_le, Option, Result, Ok, Err, MatchOption}
use Rattle.std.specs.Int.{from_be_bytes, w16}
use Rattle.norm_base.specs.Settings.{Settings}
use Rattle.fec_plan.specs.Partition.{Cut, stream_cut, place_octets}
use Rattle.rs_block.specs.Code.{CodeState}
use Rattle.norm_order.specs.Entries.{Part, Cut as CutHere, Stream}
use Rattle.norm_order.specs.First.{first_where}
use Rattle.norm_order.specs.Segments.{Segment, segments, written, since_cut, unclosed, has_end}
use Rattle.norm_order.specs.Shapes.{shape_of, encoded_in}
use Rattle.norm_order.specs.Symbols.{padded, segment_octets, symbol_octets}
use Rattle.norm_send_rules.specs.Room.{least_kept}
use Rattle.norm_send_rules.specs.Streaming.{used_segments, is_spent}
use Rattle.norm_send_rules.specs.declared.fault.StreamFault.{StreamFault}
use Rattle.norm_send_rules.specs.declared.fault.StreamFault.TheVariants.{Closed, Spent, Full}

-- a closed segment as it is coded: its place and its octets, padded with zeros
abbrev pub coded : ℕ → Segment → List ℕ
coded e segment = padded (e + place_octets) (segment_octets segment)

-- How a stream is cut, and how many blocks of it there is room for; its first block that was not given up, its closed
-- segments from that block on as they are coded, and the octets of the segment that is not closed; how many octets were
-- written, and whether it was closed.
pub record StreamState : Type 0 where
  pub cut : Cut
  pub blocks : ℕ
  pub first : ℕ
  pub rows : List (List ℕ)
  pub filling : List ℕ
  pub octets : ℕ
  pub ended : Bool

-- a stream to which nothing was written
abbrev pub empty_stream : Settings → StreamState
empty_stream p = record {
  cut = stream_cut p.e p.b p.max_n;
  blocks = p.blocks;
  first = 0;
  rows = [];
  filling = [];
  octets = 0;
  ended = false;
}

-- the number of the first segment that is kept
abbrev pub kept_from : StreamState → ℕ
kept_from s = s.first * s.cut.b

-- how many segments are closed
abbrev pub closed_segments : StreamState → ℕ
closed_segments s = kept_from s + length s.rows

-- a closed segment as it is sent: as many octets of its row as the row says, and its place
abbrev pub sent_of : List ℕ → List ℕ
sent_of row = take (place_octets + from_be_bytes w16 (slice_index row 0 ∷ slice_index row 1 ∷ [])) row

-- the code of its blocks
abbrev pub block_code : StreamState → CodeState
block_code s = record { k = s.cut.b; n = s.cut.max_n }

-- the rows of a block
abbrev pub rows_of_block : StreamState → ℕ → List (List ℕ)
rows_of_block s block = take s.cut.b (drop (block * s.cut.b - kept_from s) s.rows)

-- the octets behind those segments of them that are full
abbrev pub behind_full : ℕ → List ℕ → List ℕ
behind_full e octets = drop (length octets / e * e) octets

-- the octets of a stream that stand in the segment that is not closed: of those since the last cut
abbrev pub open_octets : ℕ → List Part → List ℕ
open_octets e parts = behind_full e (since_cut [] parts)

-- It keeps this stream, whose blocks before the first one that it keeps were given up.
pub record StandsFor (p : Settings) (parts : List Part) (s : StreamState) : Type 0 where
  pub cut : s.cut ≡ stream_cut p.e p.b p.max_n
  pub blocks : s.blocks ≡ p.blocks
  pub within : s.first * p.b ≤ length (segments p.e parts)
  pub rows : s.rows ≡ map (coded p.e) (drop (s.first * p.b) (segments p.e parts))
  pub filling : s.filling ≡ open_octets p.e parts
  pub octets : s.octets ≡ length (written parts)
  pub ended : s.ended ≡ has_end parts

-- Why a stream does not take these parts more, where its blocks before `first` are gone and those before `may_go` may go:
-- the first that applies.
abbrev pub stream_fault : Settings → List Part → List Part → ℕ → ℕ → Option StreamFault
stream_fault p parts more first may_go = first_where (
    (has_end parts, Closed)
    ∷ (is_spent p (parts ++ more), Spent (length (written parts)))
    ∷ (nat_lt (max first may_go) (least_kept p (used_segments p (parts ++ more))), Full first)
    ∷ []
    )

-- it keeps the stream with these parts more, and as many of its blocks as before, or as there is room for
pub record Goes (p : Settings) (parts more : List Part) (old new : StreamState) : Type 0 where
  pub stands : StandsFor p (parts ++ more) new
  pub first : new.first ≡ max old.first (least_kept p (used_segments p (parts ++ more)))

-- These parts join the stream, and the answer is this value; or the first fault that applies is answered, and nothing
-- changes.
abbrev pub Answers : {X : Type 0} → Settings → List Part → List Part → ℕ → X → StreamState → StreamState → Result X StreamFault → Type 0
Answers p parts more may_go value old new answer =
    MatchOption (stream_fault p parts more old.first may_go)
    ((answer ≡ Ok value) × Goes p parts more old new)
    (λ fault. (answer ≡ Err fault) × (new ≡ old))

-- a stream that is cut: its segment that holds octets and is not full is closed
abbrev pub with_cut : ℕ → List Part → List Part
with_cut e parts = elim (unclosed e parts) [ zero ↦ parts | suc n ↦ parts ++ CutHere ∷ [] ]

-- a stream's symbol is there: its block was not given up, and it is an encoded symbol
abbrev pub is_there : Settings → List Part → ℕ → ℕ → ℕ → Bool
is_there p parts first block symbol = nat_le first block && nat_lt symbol (encoded_in (shape_of p (Stream parts)) block)

-- what is appended for a symbol: its octets where it is there, and else nothing
abbrev pub octets_of : Settings → List Part → ℕ → ℕ → ℕ → List ℕ
octets_of p parts first block symbol =
    elim (is_there p parts first block symbol) [
      | true ↦ symbol_octets p (Stream parts) block symbol
      | false ↦ []
    ]
