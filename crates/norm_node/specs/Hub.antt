-- The hub between nodes that are in processes of their own: it offers each datagram that it takes on, once, as from its member.
use Rattle.std.specs.Prelude.{ℕ, ⊤, ◌≡◌, ◌<◌, ◌+◌, ◌==◌, ◌⊎◌, List, [], ◌∷◌, Option, None, Some, true, false}
use Rattle.norm_base.specs.Network.{Network, Starts, with_offer, with_answer}
use Rattle.norm_base.specs.Settings.{Settings}
use Rattle.norm_base.specs.declared.kinds.Local.TheVariants as local
use Rattle.norm_journal.specs.Takes.{most_takes}
use Rattle.norm_turns.specs.Moments.{IsNextMoment}
use Rattle.norm_turns.specs.declared.fault.SessionFault.{SessionFault}
use Rattle.norm_turns.specs.declared.fault.SessionFault.TheVariants as fault

-- Where in a turn it is: between two turns; after so many takes; where the datagram of a member is to be offered on.
pub data HubPlace : Type 0 where
  Idle : HubPlace
  Listening : (count : ℕ) → HubPlace
  Passing : (from : ℕ) (octets : List ℕ) (count : ℕ) → HubPlace

-- The profile; the turn, its moment, and the place in it.
pub record Hub : Type 0 where
  pub profile : Settings
  pub turn : ℕ
  pub now : ℕ
  pub place : HubPlace

-- as it begins
abbrev pub hub_opening : Settings → Hub
hub_opening p = record { profile = p; turn = 0; now = 0; place = Idle }

-- What happens: a turn begins at its moment; a member's datagram is taken, or none is ready; what was taken is offered on.
pub data HubEvent : Type 0 where
  Opens : (now : ℕ) → HubEvent
  Hears : (from : ℕ) (octets : List ℕ) → HubEvent
  HearsNone : HubEvent
  Passes : HubEvent

-- a datagram is to be taken
abbrev pub IsListening : HubPlace → Type 0
IsListening (Listening count) = ⊤
IsListening _ = ⊥

-- a datagram is to be offered on
abbrev pub IsPassing : HubPlace → Type 0
IsPassing (Passing from octets count) = ⊤
IsPassing _ = ⊥

-- an event is due
abbrev pub IsHubDue : Hub → HubEvent → Type 0
IsHubDue s (Opens now) = (s.place ≡ Idle) × (s.turn < s.profile.turns)
IsHubDue s (Hears from octets) = IsListening s.place
IsHubDue s HearsNone = IsListening s.place
IsHubDue s Passes = IsPassing s.place

-- what was taken is to be offered on
abbrev pub passing : HubPlace → ℕ → List ℕ → HubPlace
passing (Listening count) from octets = Passing from octets count
passing place from octets = place

-- a turn takes at most 512 datagrams
abbrev pub after_pass : HubPlace → HubPlace
after_pass (Passing from octets count) = elim (count + 1 == most_takes) [ true ↦ Idle | false ↦ Listening (count + 1) ]
after_pass place = place

-- the state after an event
abbrev pub after_hub : Hub → HubEvent → Hub
after_hub s (Opens now) = record s { turn = s.turn + 1; now = now; place = Listening 0 }
after_hub s (Hears from octets) = record s { place = passing s.place from octets }
after_hub s HearsNone = record s { place = Idle }
after_hub s Passes = record s { place = after_pass s.place }

-- What the outside tells a hub: the network, and the moments that the clock gave.
pub record Around : Type 0 where
  pub network : Network
  pub moments : Option (List ℕ)

abbrev pub around : Network → Option (List ℕ) → Around
around network moments = record { network = network; moments = moments }

-- the datagram at this place was offered, as from its member
abbrev pub IsPassed : HubPlace → (before after : Around) → Type 0
IsPassed (Passing from octets count) before after = after ≡ record before { network = with_offer before.network from octets }
IsPassed _ before after = ⊥

-- The moment of a turn: its number times the profile's step; where that is 0 the clock was asked, and the moment does not fall.
pub record AsksHubMoment (s : Hub) (now : ℕ) (before after : Around) : Type 0 where
  pub moment : IsNextMoment (s.turn + 1) s.profile.step s.now now before.moments after.moments
  pub rest : after ≡ record before { moments = after.moments }

-- what the outside has after an event, and had before it
abbrev pub HubShows : Hub → HubEvent → (before after : Around) → Type 0
HubShows s (Opens now) before after = AsksHubMoment s now before after
HubShows s (Hears from octets) before after = after ≡ record before { network = with_answer before.network (Some (from, octets)) }
HubShows s HearsNone before after = after ≡ record before { network = with_answer before.network None }
HubShows s Passes before after = IsPassed s.place before after

-- An event that is due happened, and the rest followed from what the outside has then.
pub record HubHappens (s : Hub) (e : HubEvent) (before : Around) (Rest : Around → Type 0) : Type 0 where
  pub due : IsHubDue s e
  pub between : Around
  pub shows : HubShows s e before between
  pub rest : Rest between

-- Nothing happened.
pub record IsSameHub (s last : Hub) (before after : Around) : Type 0 where
  pub state : last ≡ s
  pub around : after ≡ before

-- Events led one after the other from a state, and from what the outside had, to those.
unfoldable pub HubGoes : Hub → Around → List HubEvent → Hub → Around → Type 0
HubGoes s before [] last shown = IsSameHub s last before shown
HubGoes s before (e ∷ events) last shown = HubHappens s e before (λ between. HubGoes (after_hub s e) between events last shown)

-- ---- a hub's run

-- What it keeps: the profile, the turn and its moment.
pub record HubKept : Type 0 where
  pub p : Settings
  pub turn : ℕ
  pub now : ℕ

-- the state of the rules
abbrev pub hub_of : HubKept → HubPlace → Hub
hub_of k place = record { profile = k.p; turn = k.turn; now = k.now; place = place }

-- A run that began with this profile, and what the outside had then, is at a place of a turn: events led there.
pub record HubAt (p : Settings) (before : Around) (k : HubKept) (place : HubPlace) (now : Around) : Type 0 where
  pub events : List HubEvent
  pub goes : HubGoes (hub_opening p) before events (hub_of k place) now

-- a call of the network is due
abbrev pub CallsAround : HubPlace → Type 0
CallsAround (Listening count) = ⊤
CallsAround (Passing from octets count) = ⊤
CallsAround _ = ⊥

-- what a fault leaves: nothing but what was done
abbrev pub HubLeaves : SessionFault → HubPlace → Type 0
HubLeaves fault.Fabric place = CallsAround place
HubLeaves fault.Memory place = ⊤
HubLeaves _ place = ⊥

-- A run that a fault stopped: the outside has what was done.
pub record HubStopped (p : Settings) (before : Around) (failed : SessionFault) (now : Around) : Type 0 where
  pub events : List HubEvent
  pub last : Hub
  pub goes : HubGoes (hub_opening p) before events last now
  pub leaves : HubLeaves failed last.place

-- A hub ran, over the network that was started once, for the hub: it did all turns of its profile, and the outside has exactly what
-- they show. So each datagram that it took was offered once, as from its member, before the next was taken.
pub record RunsHub (p : Settings) (before after : Around) : Type 0 where
  pub started : Network
  pub starts : Starts before.network started p local.Hub
  pub events : List HubEvent
  pub last : Hub
  pub goes : HubGoes (hub_opening p) (around started before.moments) events last after
  pub idle : last.place ≡ Idle
  pub turns : last.turn ≡ p.turns

-- Nothing was done: there was no memory, or the network was not started.
pub record HubNotBegun (failed : SessionFault) (before after : Around) : Type 0 where
  pub why : (failed ≡ fault.Memory) ⊎ (failed ≡ fault.Fabric)
  pub same : after ≡ before

-- A fault broke a run off: what was done is the beginning of one.
pub record HubBreaksOff (failed : SessionFault) (p : Settings) (before after : Around) : Type 0 where
  pub started : Network
  pub starts : Starts before.network started p local.Hub
  pub stopped : HubStopped p (around started before.moments) failed after

-- what a fault leaves of a hub's run
abbrev pub StopsHub : SessionFault → Settings → (before after : Around) → Type 0
StopsHub failed p before after = HubNotBegun failed before after ⊎ HubBreaksOff failed p before after
