-- Room in the window: what may be dropped, and how much of it has to be (RFC 5740 section 5.1).
use Rattle.std.specs.Prelude.{ℕ, zero, suc, ◌+◌, ◌-◌, ◌*◌, ◌&&◌, ◌||◌, not, List, [], ◌∷◌, length, take, drop, map, sum, Bool, true, false, nat_lt, nat_le, Option, None, Some}
use Rattle.std.specs.List.{list_all, range_with_len}
use Rattle.std.specs.Int.{div_ceil}
use Rattle.norm_base.specs.Settings.{Settings}
use Rattle.norm_base.specs.declared.kinds.Mode.TheVariants as mode
use Rattle.fec_plan.specs.declared.position.Position.{Position}
use Rattle.fec_plan.specs.Points.{Point, point, position, position_before}
use Rattle.norm_order.specs.Sets.{is_member}
use Rattle.norm_order.specs.Entries.{Object, Whole, Stream, Entry}
use Rattle.norm_order.specs.Shapes.{Shape, shape_of, sources_in, symbols_of, last_in, is_full}
use Rattle.norm_send_rules.specs.SenderState.{SenderState}
use Rattle.norm_send_rules.specs.Watermarks.{all_past}

-- how many octets of the window an object takes: its own, and of a stream those of its buffer
abbrev pub size_of : Settings → Object → ℕ
size_of p (Whole kind info octets) = length octets
size_of p (Stream parts) = p.blocks * p.b * p.e

-- all these symbols were sent in this instance
abbrev pub all_sent : SenderState → List Position → Bool
all_sent s symbols = list_all (λ at. is_member position_before at s.sent) symbols

-- in `hold` mode every member has to be listed past this position
abbrev pub is_released : Settings → SenderState → Option Position → Bool
is_released p s last = elim p.mode [
  | mode.Hold ↦ elim last [ Some at ↦ all_past s at | None ↦ true ]
  | mode.Drop ↦ true
]

-- An object may go once its source symbols and its info were sent, and in `hold` mode every member is listed past it.
abbrev pub may_go : Settings → SenderState → ℕ → Shape → Bool
may_go p s index shape =
    all_sent s (sources_in index shape)
    && (not shape.info || is_member nat_lt index s.sent_infos)
    && is_released p s (last_in index shape)

-- a block of the open stream may go by the same rule, read for the block, where all its segments are closed
abbrev pub block_may_go : Settings → SenderState → ℕ → Shape → ℕ → Bool
block_may_go p s index shape block =
    is_full shape block && all_sent s (symbols_of index p.b block) && is_released p s (Some (position index block (p.b - 1)))

-- the objects of the window
abbrev pub window : SenderState → List Entry
window s = drop s.current.drop.index s.current.order

-- beside these objects there is room for one more of this size
abbrev pub has_room : Settings → ℕ → List Entry → Bool
has_room p size entries =
    nat_lt (length entries) p.window && nat_le (sum (map (λ (x : Entry). size_of p x.object) entries) + size) p.octets

-- how many objects have to go from the front, and no more than needed, until there is room
unfoldable pub has_to_go : Settings → ℕ → List Entry → ℕ
has_to_go p size [] = 0
has_to_go p size (entry ∷ entries) = elim (has_room p size (entry ∷ entries)) [ true ↦ 0 | false ↦ suc (has_to_go p size entries) ]

-- the first n objects, from this index on, may all go
unfoldable pub may_all_go : Settings → SenderState → ℕ → List Entry → Bool
may_all_go p s index [] = true
may_all_go p s index (entry ∷ entries) = may_go p s index (shape_of p entry.object) && may_all_go p s (suc index) entries

-- the objects of the window that have to go for one more of this size may go
abbrev pub can_make_room : Settings → SenderState → ℕ → Bool
can_make_room p s size = may_all_go p s s.current.drop.index (take (has_to_go p size (window s)) (window s))

-- the drop point after so many objects went
abbrev pub drop_after : Point → ℕ → Point
drop_after drop zero = drop
drop_after drop (suc n) = point (drop.index + suc n) 0

-- the open stream's first block that is kept
abbrev pub first_kept : SenderState → ℕ → ℕ
first_kept s index = elim (nat_lt s.current.drop.index index) [ true ↦ 0 | false ↦ s.current.drop.block ]

-- the first block of the open stream that has to be kept, so that so many segments have room
abbrev pub least_kept : Settings → ℕ → ℕ
least_kept p segments = div_ceil segments p.b - p.blocks

-- all entries before the stream, and its blocks before this one, may go
abbrev pub blocks_may_go : Settings → SenderState → ℕ → Shape → ℕ → Bool
blocks_may_go p s index shape block =
    let kept = first_kept s index in
    may_all_go p s s.current.drop.index (take (index - s.current.drop.index) (window s))
    && list_all (block_may_go p s index shape) (range_with_len kept (block - kept))

-- There is room for so many segments of the open stream, or blocks of it may go for them. Before a block of it goes,
-- all entries before it go.
abbrev pub stream_has_room : Settings → SenderState → ℕ → Shape → ℕ → Bool
stream_has_room p s index shape segments =
    nat_le (least_kept p segments) (first_kept s index) || blocks_may_go p s index shape (least_kept p segments)

-- the drop point where the open stream keeps so many segments
abbrev pub stream_drop : Settings → SenderState → ℕ → ℕ → Point
stream_drop p s index segments = elim (nat_le (least_kept p segments) (first_kept s index)) [
  | true ↦ s.current.drop
  | false ↦ point index (least_kept p segments)
]
