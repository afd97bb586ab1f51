-- A run so far: its journal is one that the judge accepts, and leads to where the run is; the network and the output have exactly
-- what it says.
use Rattle.std.specs.Prelude.{◌≡◌, ℕ, ◌+◌, ◌==◌, Bool, true, false, List, [], ◌∷◌, ◌++◌, None, Some, ⊤}
use Rattle.std.specs.List.{AllByRecursion}
use Rattle.norm_base.specs.Network.{Network, IsHonestAnswer, IsDirectAnswer}
use Rattle.norm_base.specs.Told.{Pieces, gained}
use Rattle.norm_base.specs.declared.kinds.Sent.{Sent}
use Rattle.norm_base.specs.declared.kinds.Sent.TheVariants as sent
use Rattle.norm_journal.specs.declared.event.Event.{Event}
use Rattle.norm_journal.specs.declared.event.Event.TheVariants as event
use Rattle.norm_journal.specs.Accepting.{judged_from}
use Rattle.norm_journal.specs.Judged.{Judged, news_due}
use Rattle.norm_journal.specs.Laws.{HasOctets}
use Rattle.norm_journal.specs.Places.{Place, Offering, Taking, handing}
use Rattle.norm_journal.specs.Printed.{lines_from}
use Rattle.norm_journal.specs.Takes.{most_takes}
use Rattle.norm_journal.specs.Projections.{Answer, moments_in, network_after}
use Rattle.norm_safety.specs.World.{World}
use Rattle.norm_world.specs.WorldKept.{StandsFor}
use Rattle.norm_session.specs.Context.{Context, opening, judged_of}
use Rattle.norm_session.specs.Posting.{entries_in, posting}
use Rattle.norm_session.specs.Noting.{kept_of}
use Rattle.norm_session.specs.RunKept.{RunKept, nodes_in}

-- what a take of a network may answer: an honest answer if the network is honest, and a direct one if it is direct
abbrev pub MayAnswer : Network → Answer → Type 0
MayAnswer n answer = IsHonestAnswer n answer × IsDirectAnswer n answer

-- an event's take, if it is one, answers what the network may, after what was before
abbrev pub IsTakenFrom : Network → List Event → Event → Type 0
IsTakenFrom n past (event.Took to octets) = MayAnswer (network_after n past) (Some (to, octets))
IsTakenFrom n past event.Empty = MayAnswer (network_after n past) None
IsTakenFrom n past _ = ⊤

-- each take of a journal answers what the network may
unfoldable pub AreTakenFrom : Network → List Event → List Event → Type 0
AreTakenFrom n past [] = ⊤
AreTakenFrom n past (e ∷ events) = IsTakenFrom n past e × AreTakenFrom n (past ++ e ∷ []) events

-- A journal leads to a state of the judge: it is accepted event by event, the network told its offers and answers, and the output its
-- lines; its turns began at the moments that are said, the board has its outcomes, and the files that it read have octets; and each take
-- answered what the network may answer.
pub record Leads (x : Context) (journal : List Event) (j : Judged) (network : Network) (written : Pieces) : Type 0 where
  pub judged : judged_from (opening x) journal ≡ Some j
  pub told : network ≡ network_after x.network journal
  pub lines : written ≡ gained x.written (lines_from (opening x) journal)
  pub taken : AreTakenFrom x.network [] journal
  pub moments : moments_in journal ≡ x.moments
  pub board : x.posted ≡ posting x.board (entries_in journal)
  pub octets : AllByRecursion HasOctets journal

-- A run has all receivers of its profile, or its sender is alone; its nodes and its script are under that.
pub record HasAll (x : Context) (k : RunKept) : Type 0 where
  pub script : k.p ≡ x.script.profile
  pub world : k.world.p ≡ k.p
  pub alone : k.alone ≡ x.alone
  pub receivers : x.nodes ≡ nodes_in k.alone k.p

-- A run with these nodes of the rules, at a place: its world stands for them, and there is a journal that leads there, which it keeps
-- unless its sender is alone.
pub record SoFar (x : Context) (k : RunKept) (w : World) (place : Place) (network : Network) (written : Pieces) : Type 0 where
  pub all : HasAll x k
  pub stands : StandsFor k.world w
  pub journal : List Event
  pub kept : k.journal ≡ kept_of k.alone journal
  pub leads : Leads x journal (judged_of x k w place) network written

-- A run is at a place, where changes may be due to be told.
pub record IsTelling (x : Context) (k : RunKept) (place : Place) (network : Network) (written : Pieces) : Type 0 where
  pub world : World
  pub so_far : SoFar x k world place network written

-- A run is at a place, where no change is to be told.
pub record At (x : Context) (k : RunKept) (place : Place) (network : Network) (written : Pieces) : Type 0 where
  pub world : World
  pub so_far : SoFar x k world place network written
  pub quiet : news_due (judged_of x k world place) ≡ None

-- after a tick, what it wrote is offered
abbrev pub after_sent : ℕ → Sent → List ℕ → Place → Place
after_sent node sent.Nothing octets next = next
after_sent node sent.Datagram octets next = Offering node octets next

-- the receivers' parts of a turn
abbrev pub hands_next : Context → Place
hands_next x = handing x.nodes

-- after so many takes of a turn, and one that gave a datagram
abbrev pub takes_next : Context → ℕ → Place
takes_next x count = elim (count + 1 == most_takes) [ true ↦ hands_next x | false ↦ Taking (count + 1) ]

-- after a take: where it gave a datagram, changes may be due, and else the receivers' parts follow
abbrev pub HasTaken : Bool → Context → RunKept → ℕ → Network → Pieces → Type 0
HasTaken true x k count network written = IsTelling x k (takes_next x count) network written
HasTaken false x k count network written = At x k (hands_next x) network written
