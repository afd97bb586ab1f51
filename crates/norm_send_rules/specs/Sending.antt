-- What a sender sends of its objects (RFC 5740 section 5.1): repairs, the lowest first, and then what is new.
use Rattle.std.specs.Prelude.{ℕ, ◌+◌, ◌%◌, ◌&&◌, not, List, [], ◌∷◌, ◌++◌, drop, map, find, min, true, false, nat_lt, slice_get, Option, None, Some, flat_map, if◌then◌else◌}
use Rattle.std.specs.List.{range_with_len}
use Rattle.norm_base.specs.Settings.{Settings}
use Rattle.fec_plan.specs.Partition.{source_symbols, encoding_symbols}
use Rattle.norm_ext.specs.Message.{Message}
use Rattle.norm_ext.specs.Written.{Written, writes}
use Rattle.norm_order.specs.Moments.{moment_after}
use Rattle.fec_plan.specs.Points.{position, position_before}
use Rattle.norm_order.specs.Sets.{with_member}
use Rattle.norm_order.specs.Entries.{Object, Whole, Stream}
use Rattle.norm_order.specs.Shapes.{Shape, shape_of, shapes_of, symbols_of, closed_in, is_full, closed_blocks}
use Rattle.norm_send_rules.specs.Wants.{want_before, want_index}
use Rattle.norm_send_rules.specs.SenderState.{SenderState}
use Rattle.norm_send_rules.specs.InWindow.{stands_behind}
use Rattle.norm_send_rules.specs.Messages.{info_message, data_message, parity_repair, explicit_repair}
use Rattle.norm_send_rules.specs.declared.want.Want.{Want}
use Rattle.norm_send_rules.specs.declared.want.Want.TheVariants.{Info, Symbol}

-- the symbols of a block that are sent once by themselves: its closed source symbols, and where all are closed so many
-- parity symbols as the profile says, or all where it has fewer
abbrev pub sent_once : Settings → Shape → ℕ → ℕ
sent_once p s block = elim (is_full s block) [
  | true ↦ min (source_symbols s.cut block + p.auto) (encoding_symbols s.cut block)
  | false ↦ closed_in s block
]

-- what is new of the object with this index: its info, then block by block
abbrev pub new_of : Settings → ℕ → Shape → List Want
new_of p index s =
    (if s.info then Info index ∷ [] else [])
    ++ map Symbol (flat_map (λ block. symbols_of index (sent_once p s block) block) (range_with_len 0 (closed_blocks s)))

-- what is new of the objects from this index on
unfoldable pub new_from : Settings → ℕ → List Shape → List Want
new_from p index [] = []
new_from p index (s ∷ shapes) = new_of p index s ++ new_from p (index + 1) shapes

-- The next new symbol or info: the first one from the next on that was not dropped.
abbrev pub next_new : Settings → SenderState → Option Want
next_new p s =
    let index = want_index s.next in
    find (λ w. not (want_before w s.next) && stands_behind s.current.drop w) (new_from p index (shapes_of p (drop index s.current.order)))

-- the place behind a want
abbrev pub behind : Want → Want
behind (Info index) = Symbol (position index 0 0)
behind (Symbol at) = Symbol (position at.index at.block (at.symbol + 1))

-- a datagram, after which the next may be sent a gap later
abbrev pub sends : Settings → ℕ → Written → SenderState → SenderState × Option Written
sends p now datagram s =
    (record s { next_send = moment_after now p.gap; sequence = (s.sequence + 1) % 65536 }, Some datagram)

-- an info or symbol was sent in this instance
abbrev pub noted : Want → SenderState → SenderState
noted (Info index) s = record s { sent_infos = with_member nat_lt index s.sent_infos }
noted (Symbol at) s = record s { sent = with_member position_before at s.sent }

-- the flags of a repair
abbrev pub repair_flags : Settings → Object → Want → ℕ
repair_flags p object (Info index) = explicit_repair
repair_flags p object (Symbol at) =
    if nat_lt at.symbol (source_symbols (shape_of p object).cut at.block) then explicit_repair else parity_repair

-- the message of an info or symbol of an object
abbrev pub message_of : Settings → SenderState → Want → Object → ℕ → Message
message_of p s (Info index) (Whole kind (Some info) octets) repair = info_message p s index (Whole kind (Some info) octets) info repair
message_of p s (Info index) object repair = info_message p s index object [] repair
message_of p s (Symbol at) object repair = data_message p s at object repair

-- the object of an info or symbol; what is sent always has one
abbrev pub object_of : SenderState → Want → Object
object_of s w = elim (slice_get s.current.order (want_index w)) [ Some entry ↦ entry.object | None ↦ Stream [] ]

-- an info or symbol is sent
abbrev pub sends_want : Settings → ℕ → (Object → ℕ) → Want → SenderState → SenderState × Option Written
sends_want p now repair w s =
    let object = object_of s w in
    sends p now (writes (message_of p s w object (repair object)) (want_index w ∷ [])) (noted w s)

-- the lowest want is sent, and is a want no more
abbrev pub repairs_next : Settings → ℕ → Want → List Want → SenderState → SenderState × Option Written
repairs_next p now w wants s = sends_want p now (λ object. repair_flags p object w) w (record s { wants = wants })

-- a new symbol or info is sent, and what comes behind it is next
abbrev pub sends_new : Settings → ℕ → Want → SenderState → SenderState × Option Written
sends_new p now w s = sends_want p now (λ object. 0) w (record s { next = behind w })
