-- A receiver that runs alone (RFC 5740 sections 5.2 and 5.3), as it goes through its turns, event by event.
use Rattle.std.specs.Prelude.{ℕ, ⊤, ◌≡◌, ◌<◌, ◌+◌, ◌==◌, List, [], Bool, true, false, Option, None, Some, IsSome, option_and_then}
use Rattle.std.specs.Option.{option_map}
use Rattle.rand_pcg.specs.Lcg.{Lcg}
use Rattle.norm_base.specs.Settings.{Settings}
use Rattle.norm_ext.specs.Written.{Written}
use Rattle.norm_order.specs.declared.up.Up.{Up}
use Rattle.norm_receive_rules.specs.ReceiverState.{ReceiverState, receiver_opening}
use Rattle.norm_receive_rules.specs.Receiving.{received}
use Rattle.norm_receive_rules.specs.Taking.{took}
use Rattle.norm_receive_rules.specs.Ticking.{ticked}
use Rattle.norm_journal.specs.Draws.{first_draws, next_draw, draws_after}
use Rattle.norm_journal.specs.Takes.{most_takes}

-- Where in a turn it is: between two turns; after so many takes; where hand-ups are told; where a datagram is to be offered.
pub data Place : Type 0 where
  Between : Place
  Taking : (count : ℕ) → Place
  Handing : Place
  Offering : (octets : List ℕ) → Place

-- The profile and the node; the receiver's state, and the draws that are to come; the turn, its moment, and the place in it.
pub record Lone : Type 0 where
  pub profile : Settings
  pub node : ℕ
  pub receiver : ReceiverState
  pub draws : Lcg
  pub turn : ℕ
  pub now : ℕ
  pub place : Place

-- as it begins
abbrev pub lone_opening : Settings → ℕ → Lone
lone_opening p node =
    record { profile = p; node = node; receiver = receiver_opening node; draws = first_draws p; turn = 0; now = 0; place = Between }

-- What happens: a turn begins at its moment; a datagram is taken from the network for a node, or none is ready; the next hand-up is
-- told; the receiver ticks; what it wrote is offered to the network.
pub data Event : Type 0 where
  Begins : (now : ℕ) → Event
  Takes : (to : ℕ) (octets : List ℕ) → Event
  FindsNone : Event
  HandsUp : Event
  Ticks : Event
  Offers : Event

-- ---- what may happen

-- a datagram is to be taken
abbrev pub IsTaking : Place → Type 0
IsTaking (Taking count) = ⊤
IsTaking _ = ⊥

-- a datagram is to be offered
abbrev pub IsOffering : Place → Type 0
IsOffering (Offering octets) = ⊤
IsOffering _ = ⊥

-- the next hand-up, with the instance that it is of
abbrev pub next_up : ReceiverState → Option (ℕ × Up)
next_up r = option_and_then (λ instance. option_map (λ up. (instance, up)) (took r).1) r.instance

-- An event is due. A receiver ticks once all that it handed up is told.
abbrev pub IsDue : Lone → Event → Type 0
IsDue s (Begins now) = (s.place ≡ Between) × (s.turn < s.profile.turns)
IsDue s (Takes to octets) = IsTaking s.place
IsDue s FindsNone = IsTaking s.place
IsDue s HandsUp = (s.place ≡ Handing) × IsSome (next_up s.receiver)
IsDue s Ticks = (s.place ≡ Handing) × (s.receiver.holding.ups ≡ [])
IsDue s Offers = IsOffering s.place

-- ---- what it leads to

-- a datagram reaches the receiver, if it is for its node
abbrev pub reaches : ℕ → ℕ → Bool
reaches to node = to == node

-- a datagram that reaches it is delivered with the next draw
abbrev pub delivered : ℕ → List ℕ → Lone → Lone
delivered to octets s = elim (reaches to s.node) [
  | true ↦ record s { receiver = received s.profile s.receiver octets s.now (next_draw s.draws); draws = draws_after s.draws }
  | false ↦ s
]

-- a turn takes at most 512 datagrams
abbrev pub after_take : Place → Place
after_take (Taking count) = elim (count + 1 == most_takes) [ true ↦ Handing | false ↦ Taking (count + 1) ]
after_take place = place

-- what a tick wrote is offered
abbrev pub after_tick : Option Written → Place
after_tick (Some datagram) = Offering datagram.octets
after_tick None = Between

-- the state after an event
abbrev pub after : Lone → Event → Lone
after s (Begins now) = record s { turn = s.turn + 1; now = now; place = Taking 0 }
after s (Takes to octets) = record (delivered to octets s) { place = after_take s.place }
after s FindsNone = record s { place = Handing }
after s HandsUp = record s { receiver = (took s.receiver).0 }
after s Ticks = record s {
  receiver = (ticked s.profile s.receiver s.now).0;
  place = after_tick (ticked s.profile s.receiver s.now).1;
}
after s Offers = record s { place = Between }
