-- What a union keeps of a sender's state, and which states it stands for: objects of data and files, and streams, of the first of
-- which blocks may have been dropped.
use Rattle.std.specs.Prelude.{◌≡◌, ◌<◌, ◌≤◌, ℕ, suc, ◌+◌, ◌-◌, ◌*◌, false, true, List, [], ◌∷◌, ◌++◌, length, map, min, filter, drop, replicate, Bool, not, nat_lt, slice_index, set, zero, Option, None, Some, slice_get}
use Rattle.std.specs.List.{AllByRecursion, range_with_len, list_any}
use Rattle.norm_base.specs.Settings.{Settings}
use Rattle.fec_plan.specs.Partition.{Cut, IsSound, stream_cut, blocks, most_blocks, all_symbols, encoding_symbols}
use Rattle.fec_plan.specs.Points.{Point}
use Rattle.fec_plan.specs.declared.position.Position.{Position}
use Rattle.norm_order.specs.Entries.{Entry}
use Rattle.norm_order.specs.Shapes.{Shape, shapes_of, encoded_in}
use Rattle.norm_send_rules.specs.SenderState.{SenderState, Asked}
use Rattle.norm_send_rules.specs.Laws.{Rise}
use Rattle.norm_send_rules.specs.InWindow.{stands_behind}
use Rattle.norm_send_rules.specs.declared.want.Want.{Want}
use Rattle.norm_send_rules.specs.declared.want.Want.TheVariants.{Symbol}
use Rattle.norm_order.specs.Sets.{with_members}
use Rattle.nack_union.specs.Slots.{want_at, stands_from}
use Rattle.nack_union.specs.Repairs.{shape_closed, counted_slots}

-- An object of the window: how it is cut, how many of its source symbols are closed, whether it has info, the first block that is
-- kept, and the slots that are wanted and that were sent. What the open round asks for: slots, and of each block the greatest count.
pub record Marked : Type 0 where
  pub cut : Cut
  pub closed : ℕ
  pub info : Bool
  pub first : ℕ
  pub wants : List ℕ
  pub sent : List ℕ
  pub asked : List ℕ
  pub counts : List ℕ

-- A union: the index of the window's first object, its objects in order, and the first point from which the open round
-- counts.
pub record Kept : Type 0 where
  pub first : ℕ
  pub objects : List Marked
  pub earliest : Option Point

-- the greatest index that the sender of a union knows: that of the window's last object
abbrev pub known_of : Kept → ℕ
known_of u = u.first + length u.objects - 1

-- an object as it is admitted: all of its source symbols are closed
abbrev pub admitted : Cut → Bool → Marked
admitted cut info = record { cut = cut; closed = all_symbols cut; info = info; first = 0; wants = []; sent = []; asked = []; counts = replicate (blocks cut) 0 }

-- a stream as it is admitted: none of its source symbols are closed, and so many blocks have room
abbrev pub admitted_stream : Cut → ℕ → Marked
admitted_stream cut room = record { cut = cut; closed = 0; info = false; first = 0; wants = []; sent = []; asked = []; counts = replicate room 0 }

-- of an object nothing is wanted, sent or asked for, and all of it is kept
pub record IsFresh (m : Marked) : Type 0 where
  pub first : m.first ≡ 0
  pub wants : m.wants ≡ []
  pub sent : m.sent ≡ []
  pub asked : m.asked ≡ []
  pub counts : m.counts ≡ replicate (length m.counts) 0

-- the shape of an object
abbrev pub shape_of_marked : Marked → Shape
shape_of_marked m = record { cut = m.cut; closed = m.closed; info = m.info }

-- which symbols an object has, whatever its info
abbrev pub symbols_of_marked : Marked → Shape
symbols_of_marked m = shape_closed m.cut m.closed

-- what holds of a block that is counted: nothing is wrong with its object's cut, and its symbols' ids have 8 bits
pub record IsRepairable (c : Cut) (block : ℕ) : Type 0 where
  pub sound : IsSound c
  pub named : encoding_symbols c block ≤ 255

-- what holds of each object: its counted blocks are kept, and can be repaired
abbrev pub IsCounted : Marked → Type 0
IsCounted m = (block : ℕ) → 0 < slice_index m.counts block → (m.first ≤ block) × IsRepairable m.cut block

-- an object of which the round is closed: what it asked for is wanted, and nothing is asked for
abbrev pub closed_marks : Marked → Marked
closed_marks m = record m {
  wants = with_members nat_lt (with_members nat_lt (counted_slots (symbols_of_marked m) m.sent 0 m.counts) m.asked) m.wants;
  asked = [];
  counts = replicate (length m.counts) 0;
}

-- a union of which the round is closed
abbrev pub closed_union : Kept → Kept
closed_union u = record u { objects = map closed_marks u.objects; earliest = None }

-- the union with one more object
abbrev pub with_object : Marked → Kept → Kept
with_object m u = record u { objects = u.objects ++ m ∷ [] }

-- the count of a block, where that is kept
abbrev pub from_block : ℕ → ℕ → ℕ → ℕ
from_block first block count = elim (nat_lt block first) [ true ↦ 0 | false ↦ count ]

-- an object that is kept from a later block on: what lies before is gone, and as many blocks have room behind
abbrev pub moved_on : ℕ → Marked → Marked
moved_on block m = record m {
  first = block;
  wants = filter (stands_from block) m.wants;
  sent = filter (stands_from block) m.sent;
  asked = filter (stands_from block) m.asked;
  counts = map (λ at. from_block block at (slice_index m.counts at)) (range_with_len 0 (length m.counts + (block - m.first)));
}

-- of objects the first is kept from a block on
abbrev pub moved_front : ℕ → List Marked → List Marked
moved_front zero ms = ms
moved_front (suc block) [] = []
moved_front (suc block) (m ∷ ms) = moved_on (suc block) m ∷ ms

-- something was wanted before that block
abbrev pub any_gone : ℕ → List Marked → Bool
any_gone zero ms = false
any_gone (suc block) [] = false
any_gone (suc block) (m ∷ ms) = list_any (λ slot. not (stands_from (suc block) slot)) m.wants

-- the first block that is kept of the first of objects
abbrev pub first_block : List Marked → ℕ
first_block [] = 0
first_block (m ∷ ms) = m.first

-- the union without its objects before an index, and without what lies before a block of that one
abbrev pub retired : ℕ → ℕ → Kept → Kept
retired index block u = record u { first = index; objects = moved_front block (drop (index - u.first) u.objects) }

-- An object is a stream, and the blocks before this one have numbers.
pub record MayMoveOn (block : ℕ) (m : Marked) : Type 0 where
  pub stream : m.cut.l ≡ None
  pub plain : m.info ≡ false
  pub most : block ≤ most_blocks

-- A point to which a union may retire: it is of the window, or at its end, and not before what is kept; and where it lies within an object,
-- that may move on to its block.
pub record MayRetire (index block : ℕ) (u : Kept) : Type 0 where
  pub not_back : u.first ≤ index
  pub within : index ≤ u.first + length u.objects
  pub onward : (m : Marked) → slice_get u.objects (index - u.first) ≡ Some m → m.first ≤ block
  pub some : 0 < block → index < u.first + length u.objects
  pub moves : 0 < block → (m : Marked) → slice_get u.objects (index - u.first) ≡ Some m → MayMoveOn block m

-- the union with other marks of the object with an index
abbrev pub with_marks : ℕ → Marked → Kept → Kept
with_marks index m u = record u { objects = set u.objects (index - u.first) m }

-- the union of which so many segments of the last object, a stream, are closed
abbrev pub grown_to : ℕ → Marked → Kept → Kept
grown_to closed m u = record u { objects = set u.objects (length u.objects - 1) (record m { closed = closed }) }

-- The object is a stream, and so many of its source symbols may be closed: no fewer than are, and as many as have room and numbers.
pub record CanGrow (closed : ℕ) (m : Marked) : Type 0 where
  pub stream : m.cut.l ≡ None
  pub more : m.closed ≤ closed
  pub room : closed ≤ min (length m.counts) most_blocks * m.cut.b

-- and it is cut as streams of a profile are
pub record MayGrow (p : Settings) (closed : ℕ) (m : Marked) : Type 0 where
  pub cut : m.cut ≡ stream_cut p.e p.b p.max_n
  pub info : m.info ≡ false
  pub more : m.closed ≤ closed
  pub room : closed ≤ min (length m.counts) most_blocks * p.b

-- there is a last object, and this holds of it
pub record OfLast (holds : Marked → Type 0) (u : Kept) : Type 0 where
  pub some : 0 < length u.objects
  pub last : (m : Marked) → slice_get u.objects (length u.objects - 1) ≡ Some m → holds m

-- a union as an instance begins
abbrev pub begun_union : Kept
begun_union = record { first = 0; objects = []; earliest = None }

-- the infos and symbols at these slots of the objects from an index on
abbrev pub listed : (Marked → List ℕ) → ℕ → List Marked → List Want
listed slots index [] = []
listed slots index (m ∷ ms) = map (want_at index) (slots m) ++ listed slots (suc index) ms

-- what is read of a sender's state: the order and its drop point, the wants, which symbols were sent, and what the open round was
-- asked for
pub record UnionReads : Type 0 where
  pub order : List Entry
  pub drop : Point
  pub wants : List Want
  pub sent : List Position
  pub asked : List Asked

-- what the open round was asked for
abbrev pub asked_so_far : SenderState → List Asked
asked_so_far s = elim s.round [ Some round ↦ round.asked | None ↦ [] ]

abbrev pub reads : SenderState → UnionReads
reads s = record { order = s.current.order; drop = s.current.drop; wants = s.wants; sent = s.sent; asked = asked_so_far s }

-- a stream has room for as many blocks as the profile says from the first kept one on, where numbers name as many
abbrev pub HasRoom : Settings → Marked → Type 0
HasRoom p m = m.cut.l ≡ None → min (m.first + p.blocks) most_blocks ≤ length m.counts

-- the first of objects is kept from a block on, and all others are whole
abbrev pub FrontsAre : ℕ → List ℕ → Type 0
FrontsAre block [] = block ≡ 0
FrontsAre block (first ∷ firsts) = (first ≡ block) × AllByRecursion (λ other. other ≡ 0) firsts

-- A collection holds what was read: the objects of the window, the wants, and of the window's symbols those that were sent,
-- which the state has in their order. Streams have room. The first object is kept from the drop point's block on.
pub record HoldsFor (p : Settings) (u : Kept) (r : UnionReads) : Type 0 where
  pub first : u.first ≡ r.drop.index
  pub fronts : FrontsAre r.drop.block (map (λ m. m.first) u.objects)
  pub next : u.first + length u.objects ≡ length r.order
  pub shapes : map shape_of_marked u.objects ≡ drop u.first (shapes_of p r.order)
  pub wants : listed (λ m. m.wants) u.first u.objects ≡ r.wants
  pub rise : Rise (map Symbol r.sent)
  pub sent : listed (λ m. m.sent) u.first u.objects ≡ filter (stands_behind r.drop) (map Symbol r.sent)
  pub rooms : AllByRecursion (HasRoom p) u.objects

abbrev pub Holds : Settings → Kept → SenderState → Type 0
Holds p u s = HoldsFor p u (reads s)

-- an encoded symbol of an object of the window, of a block that is kept
pub record IsEncodedIn (u : Kept) (at : Position) : Type 0 where
  pub first : u.first ≤ at.index
  pub object : at.index < u.first + length u.objects
  pub symbol : (m : Marked) → slice_get u.objects (at.index - u.first) ≡ Some m → at.symbol < encoded_in (shape_of_marked m) at.block
  pub kept : (m : Marked) → slice_get u.objects (at.index - u.first) ≡ Some m → m.first ≤ at.block
