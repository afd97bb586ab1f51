-- What a member acknowledges is credited: it is listed past that position, or further (RFC 5740 section 5.5.3).
use Rattle.std.specs.Prelude.{ℕ, ◌==◌, ◌&&◌, Bool, true, false, Option, None, Some, Result, Ok, IsTrue}
use Rattle.std.specs.List.{list_all, list_any, AllByRecursion}
use Rattle.norm_base.specs.Settings.{Settings}
use Rattle.fec_plan.specs.declared.position.Position.{Position}
use Rattle.norm_ext.specs.Asking.{item_named}
use Rattle.norm_ext.specs.Message.{Message, Ack, AckMessage, Mark, Unread}
use Rattle.norm_ext.specs.Reading.{decoded}
use Rattle.norm_order.specs.Shapes.{is_source}
use Rattle.norm_send_rules.specs.SenderState.{SenderState, Listing}
use Rattle.norm_send_rules.specs.InWindow.{last_index, current_shapes}
use Rattle.norm_send_rules.specs.Hearing.{ack_counts}
use Rattle.norm_send_rules.specs.Watermarks.{is_past}
use Rattle.norm_safety.specs.Events.{Event, Delivered}
use Rattle.norm_safety.specs.History.{Happening, History}

-- a node is listed past a position, or further
abbrev pub is_listed_past : SenderState → ℕ → Position → Bool
is_listed_past s node at = list_any (λ (l : Listing). l.node == node && is_past at l) s.listings

-- the position that an acknowledgement of type 2 names
abbrev pub confirmed : Settings → SenderState → AckMessage → Option Position
confirmed p s m = elim m.content [ Mark item ↦ item_named p (last_index s) item | Unread octets ↦ None ]

-- an acknowledgement of a member for the current instance, of an enqueued source symbol, counts afterwards
abbrev pub ack_credits : Settings → SenderState → SenderState → AckMessage → Bool
ack_credits p s later m = elim (ack_counts p s m) [
  | true ↦ elim (confirmed p s m) [
    | Some at ↦ elim (is_source (current_shapes p s) at) [ true ↦ is_listed_past later m.source at | false ↦ true ]
    | None ↦ true
  ]
  | false ↦ true
]

-- what a datagram spells, where it is an acknowledgement, counts afterwards
abbrev pub message_credits : {E : Type 0} → Settings → SenderState → SenderState → Result Message E → Bool
message_credits p s later (Ok (Ack m)) = ack_credits p s later m
message_credits p s later _ = true

-- an event that delivers an acknowledgement to the sender
abbrev pub event_credits : Settings → SenderState → SenderState → Event → Bool
event_credits p s later (Delivered node datagram now draw) = elim (node == p.sender) [ true ↦ message_credits p s later (decoded datagram) | false ↦ true ]
event_credits p s later _ = true

-- Each delivered acknowledgement of a member, for the current instance and of an enqueued source symbol, lists that member
-- past this position or further.
abbrev pub CreditsMembers : Settings → History → Type 0
CreditsMembers p h = AllByRecursion (λ (x : Happening). IsTrue (event_credits p x.before.sender x.after.sender x.event)) h.happened

-- The same as a test.
abbrev pub credits_members : Settings → History → Bool
credits_members p h = list_all (λ (x : Happening). event_credits p x.before.sender x.after.sender x.event) h.happened
