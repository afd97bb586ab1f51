-- What an entry of a window is asked, in the words of the sender's rules.
use Rattle.std.specs.Prelude.{ℕ, ◌≡◌, ◌+◌, ◌<◌, ◌≤◌, ◌⊎◌, ◌++◌, ◌&&◌, ◌||◌, ⊤, List, length, Bool, true, false, not, nat_le, nat_lt, Option, None, Some, MatchOption}
use Rattle.norm_base.specs.Settings.{Settings}
use Rattle.fec_plan.specs.Partition.{IsSound, blocks}
use Rattle.fec_plan.specs.Points.{Position, position}
use Rattle.norm_order.specs.Entries.{Object}
use Rattle.norm_order.specs.Sets.{is_member}
use Rattle.norm_order.specs.Shapes.{Shape, shape_of, closed_blocks, sources_in, encoded_in}
use Rattle.norm_order.specs.Symbols.{symbol_octets}
use Rattle.norm_send_rules.specs.SenderState.{SenderState}
use Rattle.norm_send_rules.specs.Room.{all_sent}
use Rattle.norm_send_rules.specs.Sending.{sent_once}
use Rattle.tx_object.specs.Held.{LiesIn}
use Rattle.tx_window.specs.declared.entry.HeldEntry.{HeldEntry}
use Rattle.tx_window.specs.declared.entry.HeldEntry.TheVariants as held

-- its source symbols and its info were sent in this instance
abbrev pub is_sent : SenderState → ℕ → Shape → Bool
is_sent s index shape = all_sent s (sources_in index shape) && (not shape.info || is_member nat_lt index s.sent_infos)

-- an object lies in the ring, soundly cut; a stream has memory of its own
abbrev pub Lies : List ℕ → HeldEntry → Type 0
Lies ring (held.Object h) = LiesIn ring h × IsSound h.cut
Lies ring (held.Stream stream) = ⊤

-- a block of the entry is kept
abbrev pub IsKept : HeldEntry → ℕ → Type 0
IsKept (held.Object h) block = block < blocks h.cut
IsKept (held.Stream stream) block = stream.buffer.first ≤ block

-- a symbol is there: its block is kept, and it is an encoded symbol
abbrev pub is_there : Settings → Object → ℕ → ℕ → ℕ → Bool
is_there p object first block symbol = nat_le first block && nat_lt symbol (encoded_in (shape_of p object) block)

-- The answer to a request for a symbol: its octets are appended and counted, or None exactly where it is not there, and nothing is
-- appended.
abbrev pub AnswersKept : Settings → Object → ℕ → ℕ → ℕ → List ℕ → List ℕ → Option ℕ → Type 0
AnswersKept p object first block symbol old new answer = MatchOption answer
    ((is_there p object first block symbol ≡ false) × (new ≡ old))
    (λ n. (is_there p object first block symbol ≡ true)
    × (new ≡ old ++ symbol_octets p object block symbol) × (n ≡ length (symbol_octets p object block symbol)))

-- the first symbol from a place on that is sent by itself: the one there, or the next block's first; none where no block follows
abbrev pub IsNext : Settings → Shape → Position → Option Position → Type 0
IsNext p s at None = (closed_blocks s ≤ at.block + 1) × ((closed_blocks s ≤ at.block) ⊎ (sent_once p s at.block ≤ at.symbol))
IsNext p s at (Some next) =
    ((next ≡ at) × (at.block < closed_blocks s) × (at.symbol < sent_once p s at.block))
    ⊎ ((next ≡ position at.index (at.block + 1) 0) × (at.block + 1 < closed_blocks s) × (sent_once p s at.block ≤ at.symbol))
