-- A session over a direct network passes on what its sender gives, and in the end every receiver was handed up everything.
use Rattle.std.specs.Prelude.{◌≡◌, ℕ, List, Contains, Some, ⊤}
use Rattle.std.specs.List.{AllByRecursion}
use Rattle.norm_base.specs.Members.{receivers_of}
use Rattle.norm_send_rules.specs.SenderState.{Instance}
use Rattle.norm_script.specs.Commands.{Commands}
use Rattle.norm_script.specs.Scripts.{CanRun}
use Rattle.norm_journal.specs.declared.event.Event.{Event}
use Rattle.norm_journal.specs.Handed.{ups_in}
use Rattle.norm_journal.specs.Jobs.{Told}
use Rattle.norm_journal.specs.Judged.{Judged, judged_opening}
use Rattle.norm_journal.specs.Laws.{HasOctets}
use Rattle.norm_journal.specs.Places.{Place, Offering, Taking, Handing}
use Rattle.norm_journal.specs.SessionRun.{judged, ending_of, Whole}
use Rattle.norm_journal.specs.WorldEvents.{world_events, TakesHonestly, TakesDirectly}
use Rattle.norm_laws.specs.HandedUp.{PassesOn, everything}

-- nothing behind the sender's tick is due in this turn
abbrev pub IsBeforeTick : Place → Type 0
IsBeforeTick (Taking taken) = ⊥
IsBeforeTick (Handing node nodes) = ⊥
IsBeforeTick (Offering node datagram next) = ⊥
IsBeforeTick _ = ⊤

-- as a session begins that has every receiver of its profile
abbrev pub session_opening : Commands → Told → Judged
session_opening script files = judged_opening script files (receivers_of script.profile script.profile.receivers)

-- A session whose takes are direct, of a script that can be run; files have octets as they are read.
pub record RunsDirectly (script : Commands) (files : Told) (events : List Event) (last : Judged) : Type 0 where
  pub can_run : CanRun script
  pub leads : judged script files (receivers_of script.profile script.profile.receivers) events ≡ Some last
  pub octets : AllByRecursion HasOctets events
  pub direct : TakesDirectly 0 (session_opening script files) events

-- What comes of it.
pub record DirectPasses : Type 0 where
  -- a direct network is honest
  pub honest : (script : Commands) (files : Told) (events : List Event) → TakesDirectly 0 (session_opening script files) events
      → TakesHonestly (session_opening script files) events
  -- each datagram of the sender came to every receiver, and all hand-ups were taken, before the sender's next tick
  pub passes : (script : Commands) (files : Told) (events : List Event) (last : Judged) → RunsDirectly script files events last → IsBeforeTick last.place
      → PassesOn script.profile (world_events (session_opening script files) events)
  -- so in a session that ended whole every receiver was handed everything of the current instance's order, and nothing else of it
  pub whole : (script : Commands) (files : Told) (events : List Event) (last : Judged) → RunsDirectly script files events last → ending_of last ≡ Some Whole
      → (node : ℕ) → Contains (receivers_of script.profile script.profile.receivers) node
      → let i : Instance = last.world.sender.current in ups_in events node i.id ≡ everything script.profile i.order
