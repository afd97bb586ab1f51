-- Enough turns are enough: a steady session over a direct network ends whole by the number that its script tells.
use Rattle.std.specs.Prelude.{◌≡◌, ◌≤◌, ℕ, List, Contains, Some, ⊤}
use Rattle.std.specs.List.{AllByRecursion}
use Rattle.norm_base.specs.Members.{receivers_of}
use Rattle.norm_send_rules.specs.SenderState.{Instance, Watermark}
use Rattle.norm_send_rules.specs.declared.news.Outcome.TheVariants.{Satisfied}
use Rattle.norm_script.specs.Commands.{Commands}
use Rattle.norm_journal.specs.declared.event.Event.{Event}
use Rattle.norm_journal.specs.Handed.{ups_in}
use Rattle.norm_journal.specs.Jobs.{Told}
use Rattle.norm_journal.specs.Judged.{Judged}
use Rattle.norm_journal.specs.SessionRun.{Ending, Whole, Spent, Absent, ending_of}
use Rattle.norm_laws.specs.HandedUp.{everything}
use Rattle.norm_recovery.specs.Steady.{Steady, turns_of}
use Rattle.norm_recovery.specs.SteadyPasses.{RunsDirectly}

-- each watermark was satisfied
abbrev pub IsSatisfied : Watermark → Type 0
IsSatisfied w = w.ended ≡ Some Satisfied

-- Each watermark was satisfied, and every receiver was handed everything of the order, and nothing else of it.
pub record IsComplete (script : Commands) (events : List Event) (last : Judged) : Type 0 where
  pub satisfied : AllByRecursion IsSatisfied last.world.sender.watermarks
  pub handed : (node : ℕ) → Contains (receivers_of script.profile script.profile.receivers) node
      → let i : Instance = last.world.sender.current in ups_in events node i.id ≡ everything script.profile i.order

-- How such a session ends: whole and complete, or at a file that is not there, but never with its turns spent.
abbrev pub EndsWell : Commands → List Event → Judged → Ending → Type 0
EndsWell script events last Whole = IsComplete script events last
EndsWell script events last Spent = ⊥
EndsWell script events last (Absent name) = ⊤

-- With no more turns than the profile has, so many are enough for every steady session over a direct network that ends.
abbrev pub TurnsSuffice : Type 0
TurnsSuffice = (script : Commands) (files : Told) (events : List Event) (last : Judged) (ending : Ending) → RunsDirectly script files events last
    → Steady script files events → turns_of script last ≤ script.profile.turns → ending_of last ≡ Some ending → EndsWell script events last ending
