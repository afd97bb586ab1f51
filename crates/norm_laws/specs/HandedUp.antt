-- Where each datagram of the sender is passed on before its next tick, all is handed up wherever the sender is idle.
use Rattle.std.specs.Prelude.{◌≡◌, ℕ, zero, suc, ◌+◌, ◌==◌, ◌&&◌, ◌||◌, not, List, [], ◌∷◌, ◌++◌, Contains, Bool, true, false, Option, None, Some}
use Rattle.std.specs.List.{list_any, list_all}
use Rattle.norm_base.specs.Settings.{Settings, InRange}
use Rattle.norm_base.specs.Members.{receivers_of}
use Rattle.norm_ext.specs.Written.{Written}
use Rattle.norm_order.specs.Entries.{Object, Entry}
use Rattle.norm_order.specs.Shapes.{shape_of}
use Rattle.norm_order.specs.Upto.{parts_of}
use Rattle.norm_order.specs.declared.up.Up.{Up}
use Rattle.norm_receive_rules.specs.ReceiverState.{ReceiverState}
use Rattle.norm_send_rules.specs.SenderState.{Instance}
use Rattle.norm_send_rules.specs.Ticking.{is_idle}
use Rattle.norm_safety.specs.Events.{Event, Delivered, Ticked, Answer, Sent}
use Rattle.norm_safety.specs.Hands.{hands}
use Rattle.norm_safety.specs.History.{history}
use Rattle.norm_safety.specs.Jobs.{AreEvents}
use Rattle.norm_safety.specs.Lawful.{Lawful, comes_in_time, all_taken}
use Rattle.norm_safety.specs.World.{World, world_opening, same_octets}
use Rattle.norm_safety.specs.WorldStep.{world_step, run}

-- what the sender's last tick gave, and the nodes to which that was delivered since
pub record Passing : Type 0 where
  pub last : Option Written
  pub heard : List ℕ

-- octets are those of what was given, and come to a node in time
abbrev pub is_delivery_of : Settings → World → ℕ → List ℕ → Option Written → Bool
is_delivery_of p w node octets (Some datagram) = same_octets datagram.octets octets && comes_in_time p w node datagram
is_delivery_of p w node octets None = false

-- after an event: another tick of the sender, or a delivery
abbrev pub passing_after : Settings → World → Passing → Event → Answer → Passing
passing_after p w x (Ticked node now) (Sent sent) = elim (node == p.sender) [ true ↦ record { last = sent; heard = [] } | false ↦ x ]
passing_after p w x (Delivered node octets now draw) answer = elim (is_delivery_of p w node octets x.last) [
  | true ↦ record x { heard = node ∷ x.heard }
  | false ↦ x
]
passing_after p w x event answer = x

-- what was given was delivered to a node
abbrev pub has_heard : Passing → ℕ → Bool
has_heard x node = elim x.last [ Some datagram ↦ list_any (λ other. other == node) x.heard | None ↦ true ]

-- it was passed on: it was delivered to each receiver, and of each all hand-ups were taken
abbrev pub is_passed_on : World → Passing → Bool
is_passed_on w x = list_all (λ (r : ReceiverState). has_heard x r.node && all_taken (Some r)) w.receivers

-- the sender ticks
abbrev pub is_sender_tick : Settings → Event → Bool
is_sender_tick p (Ticked node now) = node == p.sender
is_sender_tick p event = false

-- from a world on what the sender gives is passed on before its next tick, and at the end
unfoldable pub passes_on_from : Settings → World → Passing → List Event → Bool
passes_on_from p w x [] = is_passed_on w x
passes_on_from p w x (e ∷ events) =
    let step = world_step p w e in
    (not (is_sender_tick p e) || is_passed_on w x) && passes_on_from p step.0 (passing_after p w x e step.1) events

-- A run passes on where each datagram of the sender is delivered to every receiver in time, and its hand-ups are taken, before the
-- sender's next tick and before the end. What else happens, as other datagrams that come again or late, is left open.
abbrev pub PassesOn : Settings → List Event → Type 0
PassesOn p events = passes_on_from p (world_opening p) (record { last = None; heard = [] }) events ≡ true

-- all that can be handed up of an object: its parts, once a source symbol of it is closed
abbrev pub closed_parts : Settings → ℕ → Object → List Up
closed_parts p index object = elim ((shape_of p object).closed) [ zero ↦ [] | suc n ↦ parts_of p index object ]

-- the same of the objects from this index on
unfoldable pub everything_from : Settings → ℕ → List Entry → List Up
everything_from p index [] = []
everything_from p index (entry ∷ order) = closed_parts p index entry.object ++ everything_from p (index + 1) order

-- everything of an order
abbrev pub everything : Settings → List Entry → List Up
everything p order = everything_from p 0 order

-- Wherever the sender of a lawful run that passes on is idle, every receiver was handed everything of the current instance's order, and
-- nothing else.
abbrev pub AllIsHandedUp : Type 0
AllIsHandedUp = (p : Settings) → InRange p → (events : List Event) → Lawful p events → AreEvents events → PassesOn p events
    → is_idle p (run p events).sender ≡ true → (node : ℕ) → Contains (receivers_of p p.receivers) node
    → let i : Instance = (run p events).sender.current in hands (history p events).happened node i.id ≡ everything p i.order
