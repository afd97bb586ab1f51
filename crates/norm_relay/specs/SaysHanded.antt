-- What a tick above promises of the octets that it wrote: if they are an acknowledgement, every member below handed up what that confirms.
use Rattle.std.specs.Prelude.{ℕ, ◌≡◌, List, [], ◌∷◌, true, Some, Ok}
use Rattle.norm_base.specs.Datagrams.{datagram_of}
use Rattle.norm_base.specs.Settings.{Settings}
use Rattle.norm_base.specs.declared.kinds.Sent.{Sent as Said}
use Rattle.fec_plan.specs.declared.position.Position.{Position}
use Rattle.norm_ext.specs.Message.{Ack, AckMessage}
use Rattle.norm_ext.specs.Reading.{decoded}
use Rattle.norm_send_rules.specs.Watermarks.{has_member}
use Rattle.norm_safety.specs.AcknowledgesHanded.{acknowledged}
use Rattle.norm_safety.specs.Said.{about}
use Rattle.norm_relay.specs.Handing.{AreLawful, IsHandedBelow}
use Rattle.norm_relay.specs.RelayKept.{RelayKept, StandsFor}
use Rattle.norm_relay.specs.RelayState.{Relaying, can_relay}
use Rattle.norm_relay.specs.RelayStep.{RelayEvent, UpTicked, Sent, relay_step, relay_run}

-- The step sends this acknowledgement, which names a position; and everything before that was handed up by every member below.
pub record ConfirmsHanded (x : Relaying) (now : ℕ) (octets : List ℕ) (m : AckMessage) : Type 0 where
  pub at : Position
  pub sent : (relay_step x (UpTicked now)).1 ≡ Sent (Some (record { message = Ack m; octets = octets; indices = at.index ∷ [] }))
  pub names : acknowledged (about (at.index ∷ []) m) ≡ Some at
  pub handed : (node : ℕ) → has_member node x.lower.world.sender ≡ true → IsHandedBelow x m.instance at node

-- If a relay stands for what lawful sessions led to, the octets that a tick wrote are read as an acknowledgement only if it is such a one.
abbrev pub SaysHanded : RelayKept → ℕ → Said → List ℕ → Type 0
SaysHanded old now said out = (up : Settings) (node : ℕ) (down : Settings) (events : List RelayEvent) → can_relay up node down ≡ true
    → AreLawful (relay_run up node down events) → StandsFor old (relay_run up node down events) → (octets : List ℕ) (m : AckMessage)
    → datagram_of said out ≡ Some octets → decoded octets ≡ Ok (Ack m) → ConfirmsHanded (relay_run up node down events) now octets m
