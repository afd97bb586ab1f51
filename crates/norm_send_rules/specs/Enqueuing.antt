-- Enqueuing data and files (RFC 5740 section 5.1): an object joins the order at its end, and makes room for itself.
use Rattle.std.specs.Prelude.{ℕ, ◌==◌, List, [], ◌∷◌, ◌++◌, length, reverse, Bool, true, false, not, nat_lt, Option, None, Some, is_some, Result, Ok, Err}
use Rattle.norm_base.specs.Settings.{Settings}
use Rattle.norm_base.specs.declared.kinds.Kind.{Kind}
use Rattle.norm_base.specs.declared.node.Origin.{Origin}
use Rattle.norm_ext.specs.ObjectIds.{last_index as last_of_all}
use Rattle.norm_order.specs.First.{first_where}
use Rattle.norm_order.specs.Entries.{Part, Object, Whole, Stream, Entry}
use Rattle.norm_order.specs.Segments.{has_end}
use Rattle.norm_send_rules.specs.SenderState.{SenderState}
use Rattle.norm_send_rules.specs.InWindow.{next_index, last_index}
use Rattle.norm_send_rules.specs.Dropping.{dropped_to}
use Rattle.norm_send_rules.specs.Room.{size_of, window, has_to_go, can_make_room, drop_after}
use Rattle.norm_send_rules.specs.declared.fault.EnqueueFault.{EnqueueFault}
use Rattle.norm_send_rules.specs.declared.fault.EnqueueFault.TheVariants.{Empty, TooBig, InfoTooBig, StreamOpen, IdsSpent, WindowFull}
use Rattle.norm_send_rules.specs.declared.job.Receipt.{Receipt}
use Rattle.norm_send_rules.specs.declared.job.Receipt.TheVariants.{Object as EnqueuedObject}

-- a stream that was not closed
abbrev pub open_parts : Object → Option (List Part)
open_parts (Whole kind info octets) = None
open_parts (Stream parts) = elim (has_end parts) [ true ↦ None | false ↦ Some parts ]

-- the open stream's parts: only the last entry can be one
abbrev pub open_stream : SenderState → Option (List Part)
open_stream s = elim (reverse s.current.order) [ [] ↦ None | entry ∷ entries ↦ open_parts entry.object ]

-- no object can have this index
abbrev pub is_no_index : ℕ → Bool
is_no_index index = nat_lt last_of_all index

-- the instance's indices are all used
abbrev pub ids_spent : SenderState → Bool
ids_spent s = is_no_index (next_index s)

-- how many octets an info has; without one there are none
abbrev pub info_length : Option (List ℕ) → ℕ
info_length info = elim info [ Some octets ↦ length octets | None ↦ 0 ]

-- Why an object is not enqueued: the first that applies.
abbrev pub object_fault : Settings → SenderState → Option (List ℕ) → List ℕ → Option EnqueueFault
object_fault p s info octets = first_where (
    (length octets == 0, Empty)
    ∷ (nat_lt p.octets (length octets), TooBig (length octets))
    ∷ (nat_lt p.e (info_length info), InfoTooBig (info_length info))
    ∷ (is_some (open_stream s), StreamOpen (last_index s))
    ∷ (ids_spent s, IdsSpent)
    ∷ (not (can_make_room p s (length octets)), WindowFull s.current.drop.index)
    ∷ []
    )

-- the order with one more entry
abbrev pub with_entry : Entry → SenderState → SenderState
with_entry entry s = record s { current = record (s.current) { order = s.current.order ++ entry ∷ [] } }

-- room is made for an object, and it joins the order
abbrev pub joined : Settings → Origin → Object → SenderState → SenderState
joined p by object s =
    let room = drop_after s.current.drop (has_to_go p (size_of p object) (window s)) in
    with_entry (record { by = by; object = object }) (dropped_to room s)

-- An object is enqueued under the next index, or refused.
abbrev pub enqueued : Settings → SenderState → Origin → Kind → Option (List ℕ) → List ℕ → SenderState × Result Receipt EnqueueFault
enqueued p s by kind info octets = elim (object_fault p s info octets) [
  | Some fault ↦ (s, Err fault)
  | None ↦ (joined p by (Whole kind info octets) s, Ok (EnqueuedObject (next_index s) (length octets)))
]
