-- Opening a stream, writing to it and closing it (RFC 5740 section 5.1 on NORM_OBJECT_STREAM).
use Rattle.std.specs.Prelude.{ℕ, zero, suc, ◌+◌, ◌-◌, ◌*◌, ◌==◌, ◌||◌, List, [], ◌∷◌, ◌++◌, length, min, Bool, not, nat_lt, Option, None, Some, is_none, is_some, unwrap_or, Result, Ok, Err}
use Rattle.norm_base.specs.Settings.{Settings}
use Rattle.norm_base.specs.declared.node.Origin.{Origin}
use Rattle.norm_order.specs.First.{first_where}
use Rattle.norm_order.specs.Entries.{Part, Write, Cut, End, Object, Stream, Entry}
use Rattle.norm_order.specs.Segments.{closed_from, unclosed, written}
use Rattle.norm_order.specs.Shapes.{shape_of}
use Rattle.norm_send_rules.specs.SenderState.{SenderState}
use Rattle.norm_send_rules.specs.InWindow.{next_index, last_index}
use Rattle.norm_send_rules.specs.Dropping.{dropped_to}
use Rattle.norm_send_rules.specs.Room.{size_of, can_make_room, first_kept, stream_has_room, stream_drop}
use Rattle.norm_send_rules.specs.Enqueuing.{open_stream, ids_spent, joined}
use Rattle.norm_send_rules.specs.declared.fault.EnqueueFault.{EnqueueFault}
use Rattle.norm_send_rules.specs.declared.fault.EnqueueFault.TheVariants.{Empty, TooBig, StreamOpen, NoStream, IdsSpent, Stream as OfStream, WindowFull}
use Rattle.norm_send_rules.specs.declared.fault.StreamFault.TheVariants.{Spent, Full}
use Rattle.norm_send_rules.specs.declared.job.Receipt.{Receipt}
use Rattle.norm_send_rules.specs.declared.job.Receipt.TheVariants.{Opened, Wrote, Closed}

-- why a stream is not opened: the first that applies
abbrev pub open_fault : Settings → SenderState → Option EnqueueFault
open_fault p s = first_where (
    (nat_lt p.octets (size_of p (Stream [])), TooBig (size_of p (Stream [])))
    ∷ (is_some (open_stream s), StreamOpen (last_index s))
    ∷ (ids_spent s, IdsSpent)
    ∷ (not (can_make_room p s (size_of p (Stream []))), WindowFull s.current.drop.index)
    ∷ []
    )

-- A stream is opened under the next index, or refused.
abbrev pub opened : Settings → SenderState → Origin → SenderState × Result Receipt EnqueueFault
opened p s by = elim (open_fault p s) [
  | Some fault ↦ (s, Err fault)
  | None ↦ (joined p by (Stream []) s, Ok (Opened (next_index s)))
]

-- how many segments a stream takes room for: those that are closed, and the one that holds octets and is not
abbrev pub used_segments : Settings → List Part → ℕ
used_segments p parts = length (closed_from p.e [] parts) + min 1 (unclosed p.e parts)

-- the parts of the open stream, or none
abbrev pub parts_now : SenderState → List Part
parts_now s = unwrap_or (open_stream s) []

-- the last entry's object in place of what it was
abbrev pub with_last : Object → List Entry → List Entry
with_last object [] = []
with_last object (entry ∷ []) = record entry { object = object } ∷ []
with_last object (entry ∷ next ∷ order) = entry ∷ with_last object (next ∷ order)

-- the open stream with these parts
abbrev pub with_parts : List Part → SenderState → SenderState
with_parts parts s = record s { current = record (s.current) { order = with_last (Stream parts) s.current.order } }

-- the stream would have more octets than 32 bits count, or more segments than its blocks
abbrev pub is_spent : Settings → List Part → Bool
is_spent p parts = nat_lt 4294967295 (length (written parts)) || nat_lt (16777216 * p.b) (used_segments p parts)

-- there is no room for the open stream with these parts
abbrev pub is_crowded : Settings → SenderState → List Part → Bool
is_crowded p s parts = not (stream_has_room p s (last_index s) (shape_of p (Stream (parts_now s))) (used_segments p parts))

-- why the open stream does not take these octets: the first that applies
abbrev pub write_fault : Settings → SenderState → List ℕ → List Part → Option EnqueueFault
write_fault p s octets parts = first_where (
    (length octets == 0, Empty)
    ∷ (nat_lt ((p.blocks - 1) * p.b * p.e) (length octets), TooBig (length octets))
    ∷ (is_none (open_stream s), NoStream)
    ∷ (is_spent p parts, OfStream (Spent (length (written (parts_now s)))))
    ∷ (is_crowded p s parts, OfStream (Full (first_kept s (last_index s))))
    ∷ []
    )

-- why the open stream is not closed: the first that applies
abbrev pub close_fault : Settings → SenderState → List Part → Option EnqueueFault
close_fault p s parts = first_where (
    (is_none (open_stream s), NoStream)
    ∷ (is_spent p parts, OfStream (Spent (length (written (parts_now s)))))
    ∷ (is_crowded p s parts, OfStream (Full (first_kept s (last_index s))))
    ∷ []
    )

-- room is made for the open stream with these parts, and it has them
abbrev pub grown : Settings → SenderState → List Part → SenderState
grown p s parts = with_parts parts (dropped_to (stream_drop p s (last_index s) (used_segments p parts)) s)

-- Octets join the open stream, or are refused.
abbrev pub wrote : Settings → SenderState → Origin → List ℕ → SenderState × Result Receipt EnqueueFault
wrote p s by octets =
    let parts = parts_now s ++ Write by octets ∷ [] in
    elim (write_fault p s octets parts) [
      | Some fault ↦ (s, Err fault)
      | None ↦ (grown p s parts, Ok (Wrote (last_index s) (length (written (parts_now s))) (length octets)))
    ]

-- The open stream ends, or the close is refused.
abbrev pub closed : Settings → SenderState → SenderState × Result Receipt EnqueueFault
closed p s =
    let parts = parts_now s ++ End ∷ [] in
    elim (close_fault p s parts) [
      | Some fault ↦ (s, Err fault)
      | None ↦ (grown p s parts, Ok (Closed (last_index s)))
    ]

-- The open stream's segment that holds octets and is not full is closed.
abbrev pub cut : Settings → SenderState → SenderState
cut p s = elim (unclosed p.e (parts_now s)) [ zero ↦ s | suc n ↦ with_parts (parts_now s ++ Cut ∷ []) s ]
