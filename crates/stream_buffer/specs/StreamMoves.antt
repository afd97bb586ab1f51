-- What the calls do to what a buffer keeps.
use Rattle.std.specs.Prelude.{ℕ, ◌+◌, ◌-◌, ◌*◌, List, [], ◌∷◌, ◌++◌, length, map, drop, max, min, true, nat_lt, Option}
use Rattle.std.specs.Int.{div_ceil}
use Rattle.norm_order.specs.First.{first_where}
use Rattle.norm_order.specs.Segments.{full_pieces, all_pieces, placed}
use Rattle.norm_send_rules.specs.declared.fault.StreamFault.{StreamFault}
use Rattle.norm_send_rules.specs.declared.fault.StreamFault.TheVariants.{Spent, Full}
use Rattle.stream_buffer.specs.StreamState.{StreamState, coded, kept_from, closed_segments, behind_full}

-- these segments close, in place of the one that fills
abbrev pub with_closed : List (List ℕ) → List ℕ → StreamState → StreamState
with_closed closed filling s = record s {
  rows = s.rows ++ map (coded s.cut.e) (placed (s.octets - length s.filling) closed);
  filling = filling;
}

-- octets are written: segments close as they are full
abbrev pub with_octets : List ℕ → StreamState → StreamState
with_octets octets s =
    let since = s.filling ++ octets in
    record (with_closed (full_pieces s.cut.e since) (behind_full s.cut.e since) s) { octets = s.octets + length octets }

-- the segment that fills closes, where it holds octets
abbrev pub cut_here : StreamState → StreamState
cut_here s = with_closed (all_pieces s.cut.e s.filling) [] s

-- the stream ends: the segment that fills closes, and one of no octets
abbrev pub ended_here : StreamState → StreamState
ended_here s = record (with_closed (all_pieces s.cut.e s.filling ++ [] ∷ []) [] s) { ended = true }

-- the first block that is kept where so many segments need room
abbrev pub kept_for : StreamState → ℕ → ℕ
kept_for s used = max s.first (div_ceil used s.cut.b - s.blocks)

-- blocks before this one are given up
abbrev pub from_block : ℕ → StreamState → StreamState
from_block first s = record s { first = first; rows = drop (first * s.cut.b - kept_from s) s.rows }

-- octets are written, behind the blocks that have to go for them
abbrev pub wrote_here : List ℕ → StreamState → StreamState
wrote_here octets s =
    with_octets octets (from_block (kept_for s (closed_segments s + div_ceil (length s.filling + length octets) s.cut.e)) s)

-- the stream ends, behind the blocks that have to go for its end
abbrev pub closed_here : StreamState → StreamState
closed_here s = ended_here (from_block (kept_for s (closed_segments s + min 1 (length s.filling) + 1)) s)

-- why there is no room for so many segments, where blocks before this one may go
abbrev pub room_fault : StreamState → ℕ → ℕ → Option StreamFault
room_fault s used may_go = first_where (
    (nat_lt (16777216 * s.cut.b) used, Spent s.octets)
    ∷ (nat_lt (max s.first may_go) (div_ceil used s.cut.b - s.blocks), Full s.first)
    ∷ []
    )
