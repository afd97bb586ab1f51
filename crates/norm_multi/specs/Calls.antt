-- The calls of a receiver of several senders, and which of them each sender's own receiver sees.
use Rattle.std.specs.Prelude.{ℕ, suc, ⊤, ◌==◌, List, [], ◌∷◌, true, false, Option, None, Some, find, option_and_then, if◌then◌else◌}
use Rattle.std.specs.Option.{option_map}
use Rattle.norm_base.specs.Settings.{Settings}
use Rattle.norm_receive_rules.specs.InstanceLaws.{after}
use Rattle.norm_receive_rules.specs.ReceiverState.{ReceiverState, receiver_opening}
use Rattle.norm_receive_rules.specs.ReceiverStep.{ReceiverEvent}
use Rattle.norm_receive_rules.specs.ReceiverStep as receiver
use Rattle.norm_receiver.specs.ReceiverSound.{StandsFor as ReceiverStands}
use Rattle.norm_multi.specs.Owner.{owner_of}
use Rattle.norm_multi.specs.declared.member.Member.{Member}

-- a datagram is delivered, with a draw; the next hand-up of a sender is taken; a sender's receiver ticks
pub data Call : Type 0 where
  Delivered : (datagram : List ℕ) (now draw : ℕ) → Call
  Taken : (sender : ℕ) → Call
  Ticked : (sender now : ℕ) → Call

-- ---- what each receiver sees

-- an event of an owner's receiver, if the owner is this sender
abbrev pub if_own : ℕ → ReceiverEvent → Option ℕ → Option ReceiverEvent
if_own s event None = None
if_own s event (Some owner) = elim (owner == s) [ true ↦ Some event | false ↦ None ]

-- what a call is to the receiver of a sender
abbrev pub own_event : ℕ → Call → Option ReceiverEvent
own_event s (Delivered datagram now draw) = if_own s (receiver.Delivered datagram now draw) (owner_of datagram)
own_event s (Taken sender) = if_own s receiver.UpTaken (Some sender)
own_event s (Ticked sender now) = if_own s (receiver.Ticked now) (Some sender)

abbrev pub onto : Option ReceiverEvent → List ReceiverEvent → List ReceiverEvent
onto None events = events
onto (Some event) events = event ∷ events

-- the events of a sender's receiver alone
abbrev pub only : ℕ → List Call → List ReceiverEvent
only s [] = []
only s (call ∷ calls) = onto (own_event s call) (only s calls)

-- the state of a receiver of this profile and node to which only the calls of this sender come
abbrev pub alone : Settings → ℕ → ℕ → List Call → ReceiverState
alone p node s calls = after p (receiver_opening node) (only s calls)

-- ---- members

-- the index of a sender's member, the first if there are several
abbrev pub index_in : ℕ → List Member → Option ℕ
index_in s [] = None
index_in s (m ∷ members) = if m.sender == s then Some 0 else option_map suc (index_in s members)

-- the member of a sender
abbrev pub member_of : List Member → ℕ → Option Member
member_of members s = find (λ (m : Member). m.sender == s) members

-- the sender of the list that a datagram belongs to
abbrev pub owner_in : List Member → List ℕ → Option ℕ
owner_in members datagram = option_and_then (λ s. option_map (λ (m : Member). s) (member_of members s)) (owner_of datagram)

-- a member's receiver stands for the state that it has alone
abbrev pub IsAlone : ℕ → List Call → Option Member → Type 0
IsAlone s calls None = ⊤
IsAlone s calls (Some m) = ReceiverStands m.receiver (alone m.receiver.p m.node s calls)

-- Members stand for a list of calls if each sender's receiver stands for its own part of them.
abbrev pub StandFor : List Member → List Call → Type 0
StandFor members calls = (s : ℕ) → IsAlone s calls (member_of members s)
