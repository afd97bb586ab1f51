-- A step of a relay and of the two sessions round it.
use Rattle.std.specs.Prelude.{ℕ, ◌==◌, List, [], ◌∷◌, ◌++◌, fold, Bool, true, false, not, Option, None, Some, Result}
use Rattle.norm_base.specs.Settings.{Settings}
use Rattle.norm_ext.specs.Message.{Message, Ack}
use Rattle.norm_ext.specs.Written.{Written}
use Rattle.norm_order.specs.declared.up.Up.{Up}
use Rattle.norm_send_rules.specs.declared.fault.SendFault.{SendFault}
use Rattle.norm_send_rules.specs.declared.job.Job.TheVariants as job
use Rattle.norm_receive_rules.specs.ReceiverState.{ReceiverState}
use Rattle.norm_safety.specs.Events.{Event, Delivered, Ticked, Offered, UpTaken, NewsAsked, Answer}
use Rattle.norm_safety.specs.Events as world
use Rattle.norm_safety.specs.World.{receiver_at}
use Rattle.norm_safety.specs.WorldLaws.{is_senders, comes_to}
use Rattle.norm_relay.specs.Sides.{Side, happens_in}
use Rattle.norm_relay.specs.RelayState.{Relaying, relay_opening, upper_instance}
use Rattle.norm_relay.specs.Pumping.{commands, pumped, is_met}

-- A datagram comes from above, with a draw, or from below; what waits is pumped; the relay ticks above, and below; its news of the
-- members below are asked for; one of them is struck. Or something happens to other nodes of the upper session, or of the lower one.
pub data RelayEvent : Type 0 where
  UpDelivered : (datagram : List ℕ) (now draw : ℕ) → RelayEvent
  DownDelivered : (datagram : List ℕ) (now : ℕ) → RelayEvent
  PumpAsked : (now : ℕ) → RelayEvent
  UpTicked : (now : ℕ) → RelayEvent
  DownTicked : (now : ℕ) → RelayEvent
  DownNews : RelayEvent
  DownStruck : (node now : ℕ) → RelayEvent
  Above : (event : Event) → RelayEvent
  Below : (event : Event) → RelayEvent

-- whether a datagram was taken, or lost since something waits; how many jobs were accepted, or why one was refused; a datagram or
-- none; or what a node of a session answers: news or none, what became of a strike
pub data RelayAnswer : Type 0 where
  Took : (taken : Bool) → RelayAnswer
  Counted : (count : Result ℕ SendFault) → RelayAnswer
  Sent : (datagram : Option Written) → RelayAnswer
  Other : (answer : Answer) → RelayAnswer

-- what was handed up to a node and not taken yet
abbrev pub ups_of : Option ReceiverState → List Up
ups_of (Some r) = r.holding.ups
ups_of None = []

-- these hand-ups of a node are taken
unfoldable pub takes : ℕ → List Up → Side → Side
takes node [] s = s
takes node (u ∷ ups) s = takes node ups (happens_in s (UpTaken node)).0

-- the relay went on from one upper instance to another
abbrev pub goes_on : Option ℕ → Option ℕ → Bool
goes_on (Some was) (Some now) = not (was == now)
goes_on _ _ = false

-- if it did, nothing of the former instance is held back, and the lower session has to begin anew
abbrev pub leaves : Bool → Relaying → Relaying
leaves true x = record x { anew = true; unmarked = None; pledge = None }
leaves false x = x

-- these hand-ups are taken, and wait behind what waited
abbrev pub takes_these : List Up → Relaying → Relaying
takes_these ups x = record x { upper = takes x.node ups x.upper; waiting = x.waiting ++ ups }

-- all that was handed up is taken, and waits
abbrev pub takes_all : Relaying → Relaying
takes_all x = takes_these (ups_of (receiver_at x.upper.world x.node)) x

-- the relay's receiver hears a datagram
abbrev pub receiver_hears : List ℕ → ℕ → ℕ → Relaying → Relaying
receiver_hears datagram now draw x = record x { upper = (happens_in x.upper (Delivered x.node datagram now draw)).0 }

-- the same, and what that leaves if the receiver went on to another instance
abbrev pub hears_up : List ℕ → ℕ → ℕ → Relaying → Relaying
hears_up datagram now draw x =
    let after = receiver_hears datagram now draw x in leaves (goes_on (upper_instance x) (upper_instance after)) after

-- A datagram from above is taken if nothing waits. What it makes the relay's receiver hand up waits then.
abbrev pub delivers_up : List ℕ → ℕ → ℕ → Relaying → Relaying × RelayAnswer
delivers_up datagram now draw x = elim x.waiting [
  | u ∷ ups ↦ (x, Took false)
  | [] ↦ (takes_all (hears_up datagram now draw x), Took true)
]

-- a message is an acknowledgement
abbrev pub is_ack : Message → Bool
is_ack (Ack m) = true
is_ack _ = false

-- An acknowledgement that the receiver gives counts as offered above, and is held back. Another datagram is sent.
abbrev pub says_up : Option Written → Relaying → Relaying × RelayAnswer
says_up None x = (x, Sent None)
says_up (Some datagram) x = elim (is_ack datagram.message) [
  | true ↦ (record x { upper = (happens_in x.upper (Offered x.node datagram.octets)).0; unmarked = Some datagram }, Sent None)
  | false ↦ (x, Sent (Some datagram))
]

-- what a tick gave
abbrev pub given_by : Answer → Option Written
given_by (world.Sent datagram) = datagram
given_by _ = None

-- the receiver ticks above
abbrev pub receiver_ticks : ℕ → Relaying → Relaying × RelayAnswer
receiver_ticks now x =
    let step = happens_in x.upper (Ticked x.node now) in says_up (given_by step.1) (record x { upper = step.0 })

-- A tick above: the acknowledgement that has a watermark is sent if every member below is listed past that. Otherwise the receiver ticks.
abbrev pub ticks_up : ℕ → Relaying → Relaying × RelayAnswer
ticks_up now x = elim x.pledge [
  | Some pledge ↦ elim (is_met x pledge) [
    | true ↦ (record x { pledge = None }, Sent (Some pledge.datagram))
    | false ↦ receiver_ticks now x
  ]
  | None ↦ receiver_ticks now x
]

-- a member below is struck, or the strike is refused
abbrev pub strikes_below : ℕ → ℕ → Relaying → Relaying × RelayAnswer
strikes_below node now x = let step = commands now (job.Strike node) x in (step.0, Other (world.Gave step.1))

-- an event of the lower session
abbrev pub below : (Answer → RelayAnswer) → Event → Relaying → Relaying × RelayAnswer
below word event x = let step = happens_in x.lower event in (record x { lower = step.0 }, word step.1)

-- an event of the upper session
abbrev pub above : Event → Relaying → Relaying × RelayAnswer
above event x = let step = happens_in x.upper event in (record x { upper = step.0 }, Other step.1)

-- A step of the relay, or of another node in a session: the relay's own nodes move by its calls alone.
abbrev pub relay_step : Relaying → RelayEvent → Relaying × RelayAnswer
relay_step x (UpDelivered datagram now draw) = delivers_up datagram now draw x
relay_step x (DownDelivered datagram now) = below Other (Delivered x.lower.p.sender datagram now 0) x
relay_step x (PumpAsked now) = let step = pumped now x in (step.0, Counted step.1)
relay_step x (UpTicked now) = ticks_up now x
relay_step x (DownTicked now) = below (λ answer. Sent (given_by answer)) (Ticked x.lower.p.sender now) x
relay_step x DownNews = below Other NewsAsked x
relay_step x (DownStruck node now) = strikes_below node now x
relay_step x (Above event) = elim (comes_to x.node event) [ true ↦ (x, Other world.Silent) | false ↦ above event x ]
relay_step x (Below event) = elim (is_senders x.lower.p event) [ true ↦ (x, Other world.Silent) | false ↦ below Other event x ]

-- the relay and its sessions after these events
abbrev pub relay_from : Relaying → List RelayEvent → Relaying
relay_from x events = fold (λ x e. (relay_step x e).0) x events

-- the same from the beginning
abbrev pub relay_run : Settings → ℕ → Settings → List RelayEvent → Relaying
relay_run up node down events = relay_from (relay_opening up node down) events
