-- What a window keeps, what it reads of a sender's state, and for which states it stands.
use Rattle.std.specs.Prelude.{ℕ, suc, ◌≡◌, ◌+◌, ◌-◌, ◌<◌, ◌≤◌, List, [], ◌∷◌, length, reverse, drop, map, Option, Some, None, slice_get, nat_lt, true, Bool, false}
use Rattle.norm_base.specs.Settings.{Settings}
use Rattle.fec_plan.specs.Points.{Point, point, position_before, reached_by}
use Rattle.fec_plan.specs.declared.position.Position.{Position}
use Rattle.norm_order.specs.Entries.{Part, Object, Entry}
use Rattle.norm_order.specs.Sets.{is_member}
use Rattle.norm_order.specs.Shapes.{Shape, shapes_of, last_source}
use Rattle.norm_send_rules.specs.SenderState.{SenderState}
use Rattle.norm_send_rules.specs.Enqueuing.{open_parts}
use Rattle.tx_window.specs.EntryState.{EntryReads, first_of, StandsFor as StandsForEntry}
use Rattle.tx_window.specs.declared.entry.HeldEntry.{HeldEntry}
use Rattle.fec_plan.specs.Partition.{cut_of, all_symbols}
use Rattle.norm_base.specs.declared.kinds.Kind.{Kind}
use Rattle.norm_send_rules.specs.Watermarks.{all_past}

-- an object that is being filled: its kind and info, how many octets it has, and those that came so far
pub record Filling : Type 0 where
  pub kind : Kind
  pub info : Option (List ℕ)
  pub len : ℕ
  pub octets : List ℕ

-- what a window reads of a sender's state: the order and its drop point, which symbols and infos were sent, and of each position
-- whether all are listed past it
pub record WindowReads : Type 0 where
  pub order : List Entry
  pub drop : Point
  pub sent : List Position
  pub sent_infos : List ℕ
  pub past : Position → Bool

abbrev pub reads : SenderState → WindowReads
reads s = record { order = s.current.order; drop = s.current.drop; sent = s.sent; sent_infos = s.sent_infos; past = all_past s }

-- a shape, whether there is info or not
abbrev pub without_info : Shape → Shape
without_info s = record s { info = false }

-- the shape of an object of so many octets, without info
abbrev pub shape_of_length : Settings → ℕ → Shape
shape_of_length p l = record { cut = cut_of l p.e p.b p.max_n; closed = all_symbols (cut_of l p.e p.b p.max_n); info = false }

-- of so many indices, the last ones, the extent is kept: an id names no index below them
abbrev pub most_kept : ℕ
most_kept = 32769

-- A window: its profile; the octets of its ring; how many entries were dropped, and the others, each an object that lies in the ring
-- or a stream of which a front may be gone; of so many entries nothing is kept, and of each other one its shape, dropped or not; the
-- object that is being filled, the last closed source symbol, and the least position that all are listed past.
pub record WindowState : Type 0 where
  pub p : Settings
  pub ring : List ℕ
  pub dropped : ℕ
  pub entries : List HeldEntry
  pub forgotten : ℕ
  pub shapes : List Shape
  pub filling : Option Filling
  pub last : Option Position
  pub past : Option Position

-- the first block that is kept of the first entry, or 0 where there is none
abbrev pub first_block : List HeldEntry → ℕ
first_block [] = 0
first_block (e ∷ entries) = first_of e

-- only the first entry may lack a front
abbrev pub OnlyFirstLacks : List HeldEntry → Type 0
OnlyFirstLacks entries = (n : ℕ) (e : HeldEntry) → slice_get entries (suc n) ≡ Some e → first_of e ≡ 0

-- the point before which all was dropped
abbrev pub drop_of : WindowState → Point
drop_of w = point w.dropped (first_block w.entries)

-- an entry with this index was enqueued and not dropped whole
pub record IsInWindow (w : WindowState) (index : ℕ) : Type 0 where
  pub behind : w.dropped ≤ index
  pub before : index < w.dropped + length w.entries

-- what an entry of a window reads of what was read of a state
abbrev pub entry_reads : WindowState → WindowReads → ℕ → Object → EntryReads
entry_reads w r index object = record { ring = w.ring; p = w.p; index = index; object = object; sent = r.sent; infos = r.sent_infos }

-- the parts of the open stream of an order: only the last entry can be one
abbrev pub open_of : List Entry → Option (List Part)
open_of order = elim (reverse order) [ [] ↦ None | entry ∷ entries ↦ open_parts entry.object ]

-- A window stands for what was read of a sender's state: its entries stand for those that were not dropped, of which only the first may
-- lack a front; what it drops is no open stream; it knows what all are listed past, and the shapes of the last 32,769 entries at least.
-- Nothing was sent of what was not enqueued.
pub record StandsFor (w : WindowState) (r : WindowReads) : Type 0 where
  pub dropped : r.drop ≡ drop_of w
  pub next : length r.order ≡ w.dropped + length w.entries
  pub entries : (n : ℕ) (entry : Entry) (e : HeldEntry) → slice_get (drop w.dropped r.order) n ≡ Some entry → slice_get w.entries n ≡ Some e
      → StandsForEntry (entry_reads w r (w.dropped + n) entry.object) e
  pub whole : OnlyFirstLacks w.entries
  pub opened : (parts : List Part) → open_of r.order ≡ Some parts → 0 < length w.entries
  pub kept : w.forgotten ≤ length r.order - most_kept
  pub shapes : map without_info (drop w.forgotten (shapes_of w.p r.order)) ≡ w.shapes
  pub last : last_source (shapes_of w.p r.order) ≡ w.last
  pub past : (at : Position) → r.past at ≡ reached_by w.past at
  pub sent_before : (at : Position) → is_member position_before at r.sent ≡ true → at.index < length r.order
  pub infos_before : (index : ℕ) → is_member nat_lt index r.sent_infos ≡ true → index < length r.order

-- a window stands for a state
abbrev pub Stands : WindowState → SenderState → Type 0
Stands w s = StandsFor w (reads s)
