-- What a sender hears (RFC 5740 sections 5.4 and 5.5.3): NACKs of its receivers, and acknowledgements of those that were not
-- struck.
use Rattle.std.specs.Prelude.{ℕ, ◌+◌, ◌*◌, ◌==◌, ◌&&◌, List, [], ◌∷◌, ◌++◌, map, Bool, true, false, nat_lt, not, Option, None, Some, Result, Ok}
use Rattle.std.specs.List.{list_any}
use Rattle.norm_base.specs.Settings.{Settings}
use Rattle.norm_base.specs.Members.{is_receiver}
use Rattle.fec_plan.specs.declared.position.Position.{Position}
use Rattle.norm_ext.specs.Asking.{named, item_named}
use Rattle.norm_ext.specs.Message.{Message, Nack, Ack, NackMessage, AckMessage, Mark, Unread}
use Rattle.norm_ext.specs.Reading.{decoded}
use Rattle.norm_ext.specs.Requests.{Request}
use Rattle.norm_order.specs.Moments.{moment_after}
use Rattle.norm_order.specs.Sets.{with_member}
use Rattle.norm_order.specs.Shapes.{is_source, last_source}
use Rattle.norm_send_rules.specs.SenderState.{SenderState, Listing, Asked, Round}
use Rattle.norm_send_rules.specs.InWindow.{next_index, last_index, current_shapes}
use Rattle.norm_send_rules.specs.Watermarks.{has_member, is_past, counted_anew, settled}

-- a NACK or an acknowledgement is to this sender and its current instance
abbrev pub is_for : Settings → SenderState → ℕ → ℕ → Bool
is_for p s sender instance = sender == p.sender && instance == s.current.id

-- A NACK counts where it is a receiver's, also of one that was struck: others that heard it hold theirs back.
abbrev pub nack_counts : Settings → SenderState → NackMessage → Bool
nack_counts p s m = is_receiver p m.source && is_for p s m.sender m.instance

-- an acknowledgement counts where it is a member's
abbrev pub ack_counts : Settings → SenderState → AckMessage → Bool
ack_counts p s m = has_member m.source s && is_for p s m.sender m.instance

-- a request by what its items name now, with how the order stands
abbrev pub asked_now : Settings → SenderState → Request → Asked
asked_now p s r = record { request = named p (last_index s) r; first = s.current.drop; next = next_index s; last = last_source (current_shapes p s) }

-- the open round, or a new one, which closes K + 1 round trips from now
abbrev pub round_at : Settings → SenderState → ℕ → Round
round_at p s now = elim s.round [
  | Some r ↦ r
  | None ↦ record { closes = moment_after now ((p.k + 1) * p.grtt); asked = [] }
]

-- The requests of a NACK join the round; a NACK without any opens none.
abbrev pub joined_round : Settings → SenderState → ℕ → List Request → SenderState
joined_round p s now [] = s
joined_round p s now (r ∷ requests) =
    let round = round_at p s now in
    record s { round = Some (record round { asked = round.asked ++ map (asked_now p s) (r ∷ requests) }) }

-- a node's listing is the further of what it was and this position
abbrev pub listed_past : ℕ → Position → Listing → Listing
listed_past node at l = elim (l.node == node && is_past at l) [
  | true ↦ l
  | false ↦ elim (l.node == node) [ true ↦ record l { past = Some at } | false ↦ l ]
]

-- the node is a member, and not listed past this position
abbrev pub rises : ℕ → Position → SenderState → Bool
rises node at s = list_any (λ l. l.node == node && not (is_past at l)) s.listings

-- a member confirms all through a position: its listing rises, that is to be told, and watermarks may be satisfied
abbrev pub credited : ℕ → Position → SenderState → SenderState
credited node at s = elim (rises node at s) [
  | true ↦ counted_anew s (settled (record s {
    listings = map (listed_past node at) s.listings;
    untold_nodes = with_member nat_lt node s.untold_nodes;
  }))
  | false ↦ s
]

-- an acknowledgement counts where its position is a source symbol of the whole order, dropped or not
abbrev pub credited_at : Settings → ℕ → Position → SenderState → SenderState
credited_at p node at s = elim (is_source (current_shapes p s) at) [ true ↦ credited node at s | false ↦ s ]

-- a NACK
abbrev pub nack_heard : Settings → SenderState → ℕ → NackMessage → SenderState
nack_heard p s now m = elim (nack_counts p s m) [ true ↦ joined_round p s now m.requests | false ↦ s ]

-- an acknowledgement of what its item names
abbrev pub credited_by : Settings → ℕ → Option Position → SenderState → SenderState
credited_by p node at s = elim at [ Some at ↦ credited_at p node at s | None ↦ s ]

-- an acknowledgement: of a flush the position counts, and others change nothing
abbrev pub ack_heard : Settings → SenderState → AckMessage → SenderState
ack_heard p s m = elim (ack_counts p s m) [
  | true ↦ elim m.content [
    | Mark item ↦ credited_by p m.source (item_named p (last_index s) item) s
    | Unread octets ↦ s
  ]
  | false ↦ s
]

-- of what a datagram spells
abbrev pub message_heard : {E : Type 0} → Settings → SenderState → ℕ → Result Message E → SenderState
message_heard p s now (Ok (Nack m)) = nack_heard p s now m
message_heard p s now (Ok (Ack m)) = ack_heard p s m
message_heard p s now _ = s

-- Octets that spell no message, and any message but a NACK or an acknowledgement, change nothing.
abbrev pub heard : Settings → SenderState → List ℕ → ℕ → SenderState
heard p s bytes now = message_heard p s now (decoded bytes)
