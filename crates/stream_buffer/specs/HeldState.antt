-- A stream of the window: what it is seen as, and for which streams it stands, with what was sent of them.
use Rattle.std.specs.Prelude.{ℕ, ◌≡◌, ◌*◌, ◌/◌, ◌%◌, ◌<◌, List, length, map, Bool, true, nat_lt}
use Rattle.std.specs.List.{range_with_len, prefix_len}
use Rattle.norm_base.specs.Settings.{Settings}
use Rattle.fec_plan.specs.Points.{Position, position, position_before}
use Rattle.norm_order.specs.Entries.{Part, Stream}
use Rattle.norm_order.specs.Sets.{is_member}
use Rattle.norm_order.specs.Shapes.{shape_of, encoded_in}
use Rattle.stream_buffer.specs.StreamState.{StreamState, StandsFor}

-- a stream's buffer, and for each closed segment that it keeps, whether it was sent
pub record HeldState : Type 0 where
  pub buffer : StreamState
  pub sent : List Bool

-- how many of some marks are set in a row from the first on
abbrev pub run_of : List Bool → ℕ
run_of marks = prefix_len (λ b. b) marks

-- where a segment stands, of a stream whose blocks have b
abbrev pub place_of : ℕ → ℕ → ℕ → Position
place_of index b number = position index (number / b) (number % b)

-- a segment is among the symbols that were sent
abbrev pub was_sent : ℕ → ℕ → List Position → ℕ → Bool
was_sent index b sent number = is_member position_before (place_of index b number) sent

-- of so many segments from one on, which were sent
abbrev pub marks_of : ℕ → ℕ → List Position → ℕ → ℕ → List Bool
marks_of index b sent from count = map (was_sent index b sent) (range_with_len from count)

-- all segments of the blocks before this one were sent
abbrev pub AllSent : Settings → ℕ → List Position → ℕ → Type 0
AllSent p index sent block = (number : ℕ) → number < block * p.b → was_sent index p.b sent number ≡ true

-- It keeps the stream with this index and these parts, and knows which of its segments were sent: those that it gave up all
-- were. Of the stream no symbol was sent that is not encoded.
pub record Knows (p : Settings) (index : ℕ) (parts : List Part) (sent : List Position) (h : HeldState) : Type 0 where
  pub buffer : StandsFor p parts h.buffer
  pub marks : h.sent ≡ marks_of index p.b sent (h.buffer.first * p.b) (length h.buffer.rows)
  pub gone : AllSent p index sent h.buffer.first
  pub only : (at : Position) → is_member position_before at sent ≡ true → at.index ≡ index
      → nat_lt at.symbol (encoded_in (shape_of p (Stream parts)) at.block) ≡ true
