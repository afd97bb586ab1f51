-- What a world keeps, and for which worlds of the rules it stands.
use Rattle.std.specs.Prelude.{◌≡◌, ℕ, ◌+◌, ◌-◌, ◌≤◌, List, length, Option, None, Some, IsSome, MatchOption, slice_get}
use Rattle.norm_base.specs.Settings.{Settings}
use Rattle.norm_receive_rules.specs.ReceiverState.{ReceiverState}
use Rattle.norm_receiver.specs.ReceiverKept.{ReceiverKept}
use Rattle.norm_receiver.specs.ReceiverSound.{StandsFor as ReceiverStands}
use Rattle.norm_safety.specs.Events.{Event}
use Rattle.norm_safety.specs.World.{World, receiver_at}
use Rattle.norm_safety.specs.WorldStep.{run}
use Rattle.norm_sender.specs.Filling.{HasBegun as SenderBegan, file_of}
use Rattle.norm_sender.specs.SenderKept.{SenderKept, Stands as SenderStands}

-- a world: its profile, its sender, and its receivers in the order of their ids
pub record WorldKept : Type 0 where
  pub p : Settings
  pub sender : SenderKept
  pub receivers : List ReceiverKept

-- the node of the receiver at a place
abbrev pub node_at : Settings → ℕ → ℕ
node_at p place = p.sender + 1 + place

-- the place of a node's receiver
abbrev pub place_of : Settings → ℕ → ℕ
place_of p node = node - (p.sender + 1)

-- a receiver is the one of a node, under this profile
abbrev pub IsReceiver : Settings → ReceiverKept → Option ReceiverState → Type 0
IsReceiver p k None = ⊥
IsReceiver p k (Some r) = (k.p ≡ p) × ReceiverStands k r

-- each receiver is the one of its node
abbrev pub AreReceivers : Settings → List ReceiverKept → World → Type 0
AreReceivers p ks w = (place : ℕ) (k : ReceiverKept) → slice_get ks place ≡ Some k → IsReceiver p k (receiver_at w (node_at p place))

-- A world stands for one of the rules where its sender stands for that one's sender, and each receiver for the one of its
-- node, all under its profile. What was given and offered is not kept: who drives a world knows it.
pub record StandsFor (k : WorldKept) (w : World) : Type 0 where
  pub profile : k.sender.p ≡ k.p
  pub sender : SenderStands k.sender w.sender
  pub receivers : AreReceivers k.p k.receivers w

-- A world stands for a list of events where it stands for the world of the rules after them.
abbrev pub HasRun : WorldKept → List Event → Type 0
HasRun k events = StandsFor k (run k.p events)

-- no file is begun of which octets are missing
abbrev pub IsReady : WorldKept → Type 0
IsReady k = k.sender.window.filling ≡ None

-- a file is begun
abbrev pub IsBegun : WorldKept → Type 0
IsBegun k = IsSome k.sender.window.filling

-- a file of this name and length is begun, of which these octets are there
abbrev pub IsFilling : WorldKept → (name : List ℕ) (len : ℕ) (octets : List ℕ) → Type 0
IsFilling k name len octets = k.sender.window.filling ≡ Some (file_of name len octets)

-- a file is begun, of which at least so many octets are missing
abbrev pub IsMissing : WorldKept → ℕ → Type 0
IsMissing k many = MatchOption k.sender.window.filling ⊥ (λ f. length f.octets + many ≤ f.len)

-- a file is begun, and all its octets are there
abbrev pub IsFilled : WorldKept → Type 0
IsFilled k = MatchOption k.sender.window.filling ⊥ (λ f. length f.octets ≡ f.len)

-- A world that stood for one of the rules began a file of this name and length, of which these octets are there: its sender began it,
-- and its receivers are as they were.
pub record HasBegun (k : WorldKept) (w : World) (name : List ℕ) (len : ℕ) (octets : List ℕ) : Type 0 where
  pub profile : k.sender.p ≡ k.p
  pub sender : SenderBegan k.sender w.sender name len octets
  pub receivers : AreReceivers k.p k.receivers w
