-- What a window is asked, in the words of the sender's rules.
use Rattle.std.specs.Prelude.{ℕ, ◌≡◌, List, true, false, Option, None, Some, MatchOption, slice_get, nat_lt, ◌-◌, is_some, not, [], ◌∷◌}
use Rattle.norm_base.specs.Settings.{Settings}
use Rattle.fec_plan.specs.Points.{position}
use Rattle.fec_plan.specs.declared.position.Position.{Position}
use Rattle.fec_plan.specs.Partition.{all_symbols}
use Rattle.norm_order.specs.Shapes.{Shape, encoded_in}
use Rattle.norm_send_rules.specs.SenderState.{SenderState}
use Rattle.norm_send_rules.specs.InWindow.{last_index, stands_behind}
use Rattle.norm_order.specs.First.{first_where}
use Rattle.norm_send_rules.specs.Room.{first_kept, can_make_room}
use Rattle.norm_send_rules.specs.Enqueuing.{open_stream, ids_spent}
use Rattle.norm_send_rules.specs.declared.fault.EnqueueFault.{EnqueueFault}
use Rattle.norm_send_rules.specs.declared.fault.EnqueueFault.TheVariants.{StreamOpen, IdsSpent, WindowFull}
use Rattle.stream_buffer.specs.StreamState.{closed_segments}
use Rattle.tx_window.specs.EntryAsked.{AnswersKept, IsKept}
use Rattle.tx_window.specs.declared.entry.HeldEntry.{HeldEntry}
use Rattle.tx_window.specs.declared.entry.HeldEntry.TheVariants as held
use Rattle.tx_window.specs.WindowState.{WindowState, IsInWindow}
use Rattle.norm_order.specs.Entries.{Object}
use Rattle.norm_send_rules.specs.Messages.{fti_of_object, object_flags}
use Rattle.norm_send_rules.specs.declared.want.Want.TheVariants.{Info}
use Rattle.tx_object.specs.Held.{info_of}
use Rattle.tx_window.specs.declared.window.About.{About}

-- of a list that begins behind the first n, the one with an index among all
abbrev pub from_first : {X : Type 0} → ℕ → List X → ℕ → Option X
from_first n xs index = elim (nat_lt index n) [ true ↦ None | false ↦ slice_get xs (index - n) ]

-- the object with an index, where it was enqueued and not dropped
abbrev pub kept_at : SenderState → ℕ → Option Object
kept_at s index = elim (stands_behind s.current.drop (Info index)) [
  | true ↦ elim (slice_get s.current.order index) [ Some entry ↦ Some entry.object | None ↦ None ]
  | false ↦ None
]

-- the info of the object with an index, where it was enqueued and not dropped
abbrev pub info_at : SenderState → ℕ → Option (List ℕ)
info_at s index = elim (kept_at s index) [ Some object ↦ info_of object | None ↦ None ]

-- what each message of an object says of it: its transmission information and its flags
abbrev pub about_of : Settings → Object → About
about_of p object = record { fti = fti_of_object p object; flags = object_flags object }

-- The answer to a request for a symbol: its octets are appended, or None exactly where it was dropped or not enqueued, or its entry has no
-- such encoded symbol, and nothing is appended.
abbrev pub AnswersAt : Settings → SenderState → Position → List ℕ → List ℕ → Option ℕ → Type 0
AnswersAt p s at old new answer = MatchOption (kept_at s at.index) ((answer ≡ None) × (new ≡ old))
    (λ object. AnswersKept p object (first_kept s at.index) at.block at.symbol old new answer)

-- the later of a place and the first one of its entry's kept blocks
abbrev pub later_of : Position → ℕ → Position
later_of from block = elim (nat_lt from.block block) [ true ↦ position from.index block 0 | false ↦ from ]

-- the shape of the entry that is kept
abbrev pub shape_kept : HeldEntry → Shape
shape_kept (held.Object h) = record { cut = h.cut; closed = all_symbols h.cut; info = is_some h.info }
shape_kept (held.Stream stream) = record { cut = stream.buffer.cut; closed = closed_segments stream.buffer; info = false }

-- an encoded symbol of a kept block of an entry of the window
pub record IsEncodedIn (w : WindowState) (at : Position) : Type 0 where
  pub window : IsInWindow w at.index
  pub kept : (e : HeldEntry) → slice_get w.entries (at.index - w.dropped) ≡ Some e → IsKept e at.block
  pub symbol : (e : HeldEntry) → slice_get w.entries (at.index - w.dropped) ≡ Some e → nat_lt at.symbol (encoded_in (shape_kept e) at.block) ≡ true

-- the index of the open stream, where there is one
abbrev pub IsOpenAt : SenderState → Option ℕ → Type 0
IsOpenAt s answer = MatchOption answer (open_stream s ≡ None) (λ index. (is_some (open_stream s) ≡ true) × (index ≡ last_index s))

-- Why nothing of so many octets may join the order: the first that applies.
abbrev pub joining_fault : Settings → SenderState → ℕ → Option EnqueueFault
joining_fault p s len = first_where (
    (is_some (open_stream s), StreamOpen (last_index s))
    ∷ (ids_spent s, IdsSpent)
    ∷ (not (can_make_room p s len), WindowFull s.current.drop.index)
    ∷ []
    )
