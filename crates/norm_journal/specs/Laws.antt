-- What is promised of the judge.
use Rattle.std.specs.Prelude.{◌≡◌, ◌≤◌, ℕ, ◌==◌, List, [], ◌∷◌, ◌++◌, length, map, filter, true, false, None, Some, IsSome, ⊤}
use Rattle.std.specs.List.{flat_map, AllByRecursion}
use Rattle.norm_base.specs.Octets.{AreOctets}
use Rattle.norm_base.specs.Settings.{Settings}
use Rattle.norm_base.specs.declared.node.Origin.{Origin}
use Rattle.norm_ext.specs.Written.{Written}
use Rattle.norm_script.specs.Commands.{Commands}
use Rattle.norm_script.specs.Scripts.{CanRun}
use Rattle.norm_script.specs.declared.script.Line.{Line}
use Rattle.norm_send_rules.specs.Watermarks.{open_watermarks}
use Rattle.norm_send_rules.specs.Commanding.{commanded}
use Rattle.norm_send_rules.specs.SenderState.{SenderState}
use Rattle.norm_send_rules.specs.Ticking.{is_idle}
use Rattle.norm_send_rules.specs.declared.job.Job.TheVariants as job
use Rattle.norm_safety.specs.Events.{Event as WorldEvent}
use Rattle.norm_safety.specs.InTime.{Honest, accepted_in}
use Rattle.norm_safety.specs.Jobs.{AreEvents, AreOfObjects}
use Rattle.norm_safety.specs.Lawful.{Lawful}
use Rattle.norm_safety.specs.WorldStep.{run_from}
use Rattle.norm_journal.specs.declared.event.Event.{Event}
use Rattle.norm_journal.specs.declared.event.Event.TheVariants as event
use Rattle.norm_journal.specs.Accepting.{accepts, judged_from}
use Rattle.norm_journal.specs.Direct.{IsDirect}
use Rattle.norm_journal.specs.Honest.{IsHonest}
use Rattle.norm_journal.specs.Jobs.{Told, file_of_length, IsOfObjects}
use Rattle.norm_journal.specs.Judged.{Judged, judged_opening, is_done}
use Rattle.norm_journal.specs.Printed.{lines_from}
use Rattle.norm_journal.specs.Pulling.{origin_of}
use Rattle.norm_journal.specs.Projections.{offers_in}
use Rattle.norm_journal.specs.SessionRun.{judged, Begun, ending_of, Whole}
use Rattle.norm_journal.specs.WorldEvents.{world_events, TakesHonestly, TakesDirectly, taken_after, NamedOnce}

-- Each front of a journal that is accepted is accepted.
abbrev pub FrontsAreAccepted : Type 0
FrontsAreAccepted = (j : Judged) (front rest : List Event) → IsSome (judged_from j (front ++ rest)) → IsSome (judged_from j front)

-- A journal prints the lines of its front, and then those of the rest from the state that the front leaves.
abbrev pub FrontsArePrinted : Type 0
FrontsArePrinted = (j next : Judged) (front rest : List Event) → judged_from j front ≡ Some next
    → lines_from j (front ++ rest) ≡ lines_from j front ++ lines_from next rest

-- A journal is in the nodes' world what its front is there, and then what the rest is from the state that the front leaves.
abbrev pub FrontsHappen : Type 0
FrontsHappen = (j : Judged) (front rest : List Event)
    → world_events j (front ++ rest) ≡ world_events j front ++ elim (judged_from j front) [ Some next ↦ world_events next rest | None ↦ [] ]

-- the names of a producer's commands among these lines
abbrev pub commands_by : ℕ → List Line → List Origin
commands_by producer lines = map origin_of (filter (λ (line : Line). line.producer == producer) lines)

-- the command that an event pulled, where it is this producer's
abbrev pub pull_by : ℕ → Event → List Origin
pull_by producer (event.Pull by) = elim (by.producer == producer) [ true ↦ by ∷ [] | false ↦ [] ]
pull_by producer _ = []

-- A producer's pulls are its commands in their order: what was pulled, and what is left then, is what was left before.
abbrev pub PullsInOrder : Type 0
PullsInOrder = (producer : ℕ) (j last : Judged) (events : List Event) → judged_from j events ≡ Some last
    → flat_map (pull_by producer) events ++ commands_by producer last.left ≡ commands_by producer j.left

-- a run that is whole left nothing to do
pub record LeavesNothing (j : Judged) : Type 0 where
  pub pulled : j.left ≡ []
  pub waiting : j.waiting ≡ None
  pub watermarks : open_watermarks j.world.sender ≡ []
  pub idle : is_idle j.profile j.world.sender ≡ true

-- In a run that ended whole all commands were pulled, none waits, no watermark is open, and the sender is idle.
abbrev pub WholeIsDone : Type 0
WholeIsDone = (j : Judged) → ending_of j ≡ Some Whole → LeavesNothing j

-- A journal moves the nodes as its events do in the world: the judge's world is the one after them.
abbrev pub MovesTheWorld : Type 0
MovesTheWorld = (j last : Judged) (events : List Event) → judged_from j events ≡ Some last
    → run_from j.profile j.world (world_events j events) ≡ last.world

-- the nodes have an honest run, of no more accepted commands than the script has
pub record RunsHonestly (script : Commands) (events : List WorldEvent) : Type 0 where
  pub honest : Honest script.profile events
  pub few : length (accepted_in script.profile events) ≤ length script.lines

-- From the opening on, the world's events of a journal are an honest run where its takes are honest.
abbrev pub BeginsHonestly : Type 0
BeginsHonestly = (script : Commands) (files : Told) (nodes : List ℕ) (events : List Event) → NamedOnce script.lines
    → Begun script files nodes events → TakesHonestly (judged_opening script files nodes) events
    → RunsHonestly script (world_events (judged_opening script files nodes) events)

-- A sender goes by a file's name and its length alone: it refuses files of one length alike, and accepts them alike.
abbrev pub FilesGoByLength : Type 0
FilesGoByLength = (p : Settings) (s : SenderState) (by : Origin) (name octets : List ℕ)
    → (commanded p s by (job.File name octets)).1 ≡ (commanded p s by (file_of_length name (length octets))).1

-- a datagram's octets, with the node that it is of
abbrev pub octets_given : ℕ × Written → ℕ × List ℕ
octets_given g = (g.0, g.1.octets)

-- What the nodes offered in their world is what the journal says was offered.
abbrev pub OffersAreTheWorlds : Type 0
OffersAreTheWorlds = (script : Commands) (files : Told) (nodes : List ℕ) (events : List Event) (last : Judged)
    → judged script files nodes events ≡ Some last → map octets_given last.world.offered ≡ offers_in events

-- Takes stay honest with one more event that is.
abbrev pub TakesStayHonest : Type 0
TakesStayHonest = (j next : Judged) (front : List Event) (e : Event) → judged_from j front ≡ Some next → TakesHonestly j front
    → IsHonest next e → TakesHonestly j (front ++ e ∷ [])

-- Takes stay direct with one more event that is.
abbrev pub TakesStayDirect : Type 0
TakesStayDirect = (taken : ℕ) (j next : Judged) (front : List Event) (e : Event) → judged_from j front ≡ Some next → TakesDirectly taken j front
    → IsDirect (taken_after taken front) next e → TakesDirectly taken j (front ++ e ∷ [])

-- a file that an event read has octets
abbrev pub HasOctets : Event → Type 0
HasOctets (event.Job by (Some (job.File name octets)) gave) = AreOctets octets
HasOctets _ = ⊤

-- Every command that a script gives comes to the sender as one that a program can make: its octets are octets, and an
-- instance id has 16 bits.
abbrev pub CommandsAreEvents : Type 0
CommandsAreEvents = (script : Commands) (files : Told) (nodes : List ℕ) (events : List Event) → CanRun script
    → Begun script files nodes events → AllByRecursion HasOctets events
    → AreEvents (world_events (judged_opening script files nodes) events)

-- Where no line of a script is of a stream, the nodes have a run of data and files alone.
abbrev pub CommandsAreOfObjects : Type 0
CommandsAreOfObjects = (script : Commands) (files : Told) (nodes : List ℕ) (events : List Event) → AllByRecursion IsOfObjects script.lines
    → Begun script files nodes events → AreOfObjects (world_events (judged_opening script files nodes) events)

-- Nothing comes too late in a session: a script has so few commands that its nodes' run is lawful wherever its takes are honest.
abbrev pub BeginsLawfully : Type 0
BeginsLawfully = (script : Commands) (files : Told) (nodes : List ℕ) (events : List Event) → CanRun script
    → Begun script files nodes events → AllByRecursion HasOctets events → TakesHonestly (judged_opening script files nodes) events
    → Lawful script.profile (world_events (judged_opening script files nodes) events)

-- In a script each command has a name of its own.
abbrev pub ScriptsNameOnce : Type 0
ScriptsNameOnce = (script : Commands) → CanRun script → NamedOnce script.lines

-- The summary comes only where the last turn was done, and nothing comes after it.
abbrev pub EndsLast : Type 0
EndsLast = (j last : Judged) → accepts j event.End ≡ Some last → (is_done j ≡ true) × ((e : Event) → accepts last e ≡ None)
