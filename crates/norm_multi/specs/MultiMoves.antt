-- What a call of a receiver of several senders leaves and answers.
use Rattle.std.specs.Prelude.{ℕ, ⊤, ◌≡◌, List, [], ◌∷◌, ◌++◌, true, Option, None, Some, IsSome}
use Rattle.std.specs.Option.{option_map}
use Rattle.norm_base.specs.Datagrams.{datagram_of}
use Rattle.norm_base.specs.Settings.{Settings}
use Rattle.norm_base.specs.declared.kinds.Sent.{Sent as Said}
use Rattle.norm_ext.specs.Written.{Written}
use Rattle.norm_receive_rules.specs.ReceiverState.{ReceiverState}
use Rattle.norm_receive_rules.specs.ReceiverStep.{ReceiverEvent, ReceiverAnswer, receiver_step, Sent}
use Rattle.norm_receive_rules.specs.Wanting.{may_want}
use Rattle.norm_receiver.specs.ReceiverSound.{StandsFor as ReceiverStands}
use Rattle.norm_multi.specs.Calls.{Call, own_event, alone, member_of, owner_in, StandFor}
use Rattle.norm_multi.specs.declared.member.Member.{Member}

-- who a member is: its sender, the profile and the node of its receiver
abbrev pub role_of : Member → ℕ × Settings × ℕ
role_of m = (m.sender, m.receiver.p, m.node)

abbrev pub role_at : List Member → ℕ → Option (ℕ × Settings × ℕ)
role_at members s = option_map role_of (member_of members s)

-- each sender has the member that it had, of the same profile and node
abbrev pub HaveSameRoles : List Member → List Member → Type 0
HaveSameRoles old new = (s : ℕ) → role_at new s ≡ role_at old s

-- the state after an event, or the same if there is none
abbrev pub after_own : Settings → ReceiverState → Option ReceiverEvent → ReceiverState
after_own p r None = r
after_own p r (Some event) = (receiver_step p r event).0

-- a sender's receiver stands for the state after its event, or for the same if there is none
abbrev pub Moves : Option ReceiverEvent → Option Member → Option Member → Type 0
Moves event None new = new ≡ None
Moves event (Some m) None = ⊥
Moves event (Some m) (Some new) = (r : ReceiverState) → ReceiverStands m.receiver r → ReceiverStands new.receiver (after_own m.receiver.p r event)

-- A call happened. Each sender's receiver moved as if that sender were alone. So for each list of calls for which the members stood,
-- they stand for that list with this call at its end.
pub record IsCall (old new : List Member) (call : Call) : Type 0 where
  pub roles : HaveSameRoles old new
  pub moves : (s : ℕ) → Moves (own_event s call) (member_of old s) (member_of new s)
  pub runs : (calls : List Call) → StandFor old calls → StandFor new (calls ++ call ∷ [])

-- Nothing happened: the members stand for each state and each list of calls for which they stood.
pub record IsNoCall (old new : List Member) : Type 0 where
  pub roles : HaveSameRoles old new
  pub same : (s : ℕ) (m k : Member) → member_of old s ≡ Some m → member_of new s ≡ Some k
      → (r : ReceiverState) → ReceiverStands m.receiver r → ReceiverStands k.receiver r
  pub runs : (calls : List Call) → StandFor old calls → StandFor new calls

-- a member's receiver may want memory for a datagram, whatever state it stands for
abbrev pub MayWant : List ℕ → Option Member → Type 0
MayWant datagram None = ⊥
MayWant datagram (Some m) = (r : ReceiverState) → ReceiverStands m.receiver r → may_want m.receiver.p r datagram ≡ true

-- Memory may run out for a datagram: it belongs to a sender of the list, whose receiver may want memory for it.
pub record MayLackMemory (members : List Member) (datagram : List ℕ) : Type 0 where
  pub sender : ℕ
  pub owner : owner_in members datagram ≡ Some sender
  pub wanted : MayWant datagram (member_of members sender)

-- What a call of a sender's receiver answers is what the rules say of each state for which that receiver stood, and of the state that it has
-- alone, for each list of calls for which the members stood.
abbrev pub AnswersOf : ReceiverEvent → (ReceiverAnswer → Type 0) → List Member → ℕ → Option Member → Type 0
AnswersOf event Fits members s None = ⊥
AnswersOf event Fits members s (Some m) =
    ((r : ReceiverState) → ReceiverStands m.receiver r → Fits (receiver_step m.receiver.p r event).1)
    × ((calls : List Call) → StandFor members calls → Fits (receiver_step m.receiver.p (alone m.receiver.p m.node s calls) event).1)

abbrev pub Answers : List Member → ℕ → ReceiverEvent → (ReceiverAnswer → Type 0) → Type 0
Answers members s event Fits = AnswersOf event Fits members s (member_of members s)

-- a tick's answer fits: a datagram of these octets if one was written, else none
abbrev pub IsSent : Said → List ℕ → ReceiverAnswer → Type 0
IsSent said out (Sent datagram) = datagram_of said out ≡ option_map (λ (w : Written). w.octets) datagram
IsSent said out _ = ⊥

-- all hand-ups of a member were taken
abbrev pub AreTaken : Option Member → Type 0
AreTaken None = ⊤
AreTaken (Some m) = m.receiver.hold.ups ≡ []

-- a member's receiver is in an instance
abbrev pub IsInInstance : Option Member → Type 0
IsInInstance None = ⊥
IsInInstance (Some m) = (r : ReceiverState) → ReceiverStands m.receiver r → IsSome r.instance
