-- What a call of a world leaves and answers: it is an event of the rules.
use Rattle.std.specs.Prelude.{◌≡◌, ◌≢◌, ℕ, List, [], ◌∷◌, ◌++◌, true, Option, None, Some, MatchOption, Ok, Err, slice_get, length, ⊤}
use Rattle.std.specs.Option.{option_map}
use Rattle.norm_base.specs.Datagrams.{datagram_of}
use Rattle.norm_base.specs.declared.kinds.Sent.{Sent as Said}
use Rattle.norm_base.specs.declared.node.Origin.{Origin}
use Rattle.norm_ext.specs.Written.{Written}
use Rattle.norm_base.specs.Settings.{Settings}
use Rattle.norm_receive_rules.specs.ReceiverState.{receiver_opening}
use Rattle.norm_receive_rules.specs.Wanting.{may_want}
use Rattle.norm_receiver.specs.ReceiverKept.{ReceiverKept}
use Rattle.norm_receiver.specs.ReceiverSound.{StandsFor as ReceiverStands}
use Rattle.norm_safety.specs.Events.{Event, Answer, Sent, Commanded, Gave}
use Rattle.norm_safety.specs.World.{World, receiver_at}
use Rattle.norm_safety.specs.WorldStep.{world_step, run}
use Rattle.norm_send_rules.specs.declared.fault.SendFault.{SendFault}
use Rattle.norm_send_rules.specs.declared.fault.SendFault.TheVariants.{Memory}
use Rattle.norm_send_rules.specs.declared.job.Job.TheVariants.{File}
use Rattle.norm_send_rules.specs.declared.job.Receipt.{Receipt}
use Rattle.tx_window.specs.Taking.{room_made}
use Rattle.norm_world.specs.WorldKept.{WorldKept, StandsFor, HasRun, HasBegun, node_at, place_of}

-- A call is this event, and its answer fits. For each world of the rules that was stood for, the one after the event is; and
-- so, for each list of events, that list with this event at its end.
pub record IsEvent (old new : WorldKept) (event : Event) (Fits : Answer → Type 0) : Type 0 where
  pub steps : (w : World) → StandsFor old w → StandsFor new (world_step old.p w event).0 × Fits (world_step old.p w event).1
  pub runs : (events : List Event) → HasRun old events
      → HasRun new (events ++ event ∷ []) × Fits (world_step old.p (run old.p events) event).1

-- A file is refused by its name and its length: with any octets of that length its command would be this event. Only where there was
-- no memory nothing is said.
abbrev pub IsRefused : WorldKept → WorldKept → List ℕ → ℕ → SendFault → Type 0
IsRefused old new name len fault = (by : Origin) (octets : List ℕ) (now : ℕ) → length octets ≡ len → fault ≢ Memory
    → IsEvent old new (Commanded by (File name octets) now) (λ answer. answer ≡ Gave (Err fault))

-- A file that was begun joins the order, and this is its receipt. For each world of the rules that was stood for as it was begun, the
-- one after its command is; and so, for each list of events, that list with the command at its end.
pub record IsEnded (old new : WorldKept) (by : Origin) (now : ℕ) (receipt : Receipt) : Type 0 where
  pub steps : (w : World) (name octets : List ℕ) (len : ℕ) → HasBegun old w name len octets
      → StandsFor new (world_step old.p w (Commanded by (File name octets) now)).0
      × ((world_step old.p w (Commanded by (File name octets) now)).1 ≡ Gave (Ok receipt))
  pub runs : (events : List Event) (name octets : List ℕ) (len : ℕ) → HasBegun old (run old.p events) name len octets
      → HasRun new (events ++ Commanded by (File name octets) now ∷ [])
      × ((world_step old.p (run old.p events) (Commanded by (File name octets) now)).1 ≡ Gave (Ok receipt))

-- the room that was made for a file of so many octets stays made, and nothing else happened
abbrev pub IsLeft : WorldKept → WorldKept → Type 0
IsLeft old new = (w : World) (name octets : List ℕ) (len : ℕ) → HasBegun old w name len octets
    → StandsFor new (record w { sender = room_made old.p len w.sender })

-- nothing happened: what was stood for is
abbrev pub IsNoEvent : WorldKept → WorldKept → Type 0
IsNoEvent old new = (w : World) → StandsFor old w → StandsFor new w

-- a node is a receiver of each world of the rules that is stood for, and may want memory for these octets
abbrev pub MayWant : WorldKept → ℕ → List ℕ → Type 0
MayWant k node bytes = (w : World) → StandsFor k w → MatchOption (receiver_at w node) ⊥ (λ r. may_want k.p r bytes ≡ true)

-- A tick's answer fits: it is a datagram of these octets where one was written, and none where none was.
pub record IsSent (said : Said) (out : List ℕ) (answer : Answer) : Type 0 where
  pub datagram : Option Written
  pub answer_is : answer ≡ Sent datagram
  pub octets : datagram_of said out ≡ option_map (λ (w : Written). w.octets) datagram

-- all hand-ups of a receiver were taken
abbrev pub AreTaken : Option ReceiverKept → Type 0
AreTaken None = ⊤
AreTaken (Some k) = k.hold.ups ≡ []

-- the receiver of a node
abbrev pub receiver_of : WorldKept → ℕ → Option ReceiverKept
receiver_of k node = slice_get k.receivers (place_of k.p node)

-- the first so many receivers of a profile, as they begin
pub record AreBegun (p : Settings) (ks : List ReceiverKept) (many : ℕ) : Type 0 where
  pub count : length ks ≡ many
  pub begun : (place : ℕ) (k : ReceiverKept) → slice_get ks place ≡ Some k → (k.p ≡ p) × ReceiverStands k (receiver_opening (node_at p place))
