-- Commands of a turn: where they are offered, and what an offer does to a run.
use Rattle.std.specs.Prelude.{◌≡◌, ℕ, List, Bool, true, false, Option, None, Some, Result, Ok, Err, nat_lt, slice_get}
use Rattle.norm_base.specs.Network.{Network}
use Rattle.norm_base.specs.Told.{Pieces}
use Rattle.norm_script.specs.declared.script.Line.{Line}
use Rattle.norm_send_rules.specs.Waiting.{may_wait}
use Rattle.norm_send_rules.specs.declared.fault.SendFault.{SendFault}
use Rattle.norm_send_rules.specs.declared.job.Job.{Job}
use Rattle.norm_send_rules.specs.declared.job.Receipt.{Receipt}
use Rattle.norm_safety.specs.World.{World}
use Rattle.norm_journal.specs.Accepting.{accepts}
use Rattle.norm_journal.specs.Commands.{offered}
use Rattle.norm_journal.specs.Judged.{Judged}
use Rattle.norm_journal.specs.Laws.{HasOctets}
use Rattle.norm_journal.specs.Places.{Place, Giving, Again, Sending}
use Rattle.norm_journal.specs.Printed.{line_of}
use Rattle.norm_journal.specs.declared.event.Event.{Event}
use Rattle.norm_world.specs.WorldKept.{StandsFor}
use Rattle.norm_turns.specs.Causes.{HasCause, counted}
use Rattle.norm_session.specs.Context.{Context, judged_of}
use Rattle.norm_session.specs.Noting.{kept_of}
use Rattle.norm_session.specs.RunKept.{RunKept}
use Rattle.norm_session.specs.SoFar.{HasAll, Leads, At, IsTelling}
use Rattle.norm_session.specs.Stopping.{Stopped}
use Rattle.norm_turns.specs.declared.fault.SessionFault.{SessionFault}

-- where a line's command is offered: for the first time, or again
abbrev pub offering : Bool → Line → Place
offering true line = Giving line
offering false line = Again line

-- the job as an offer tells it: the first does
abbrev pub told_at : Bool → Job → Option Job
told_at true job = Some job
told_at false job = None

-- the place of the line whose command waits after this answer
abbrev pub waits_at : ℕ → Result Receipt SendFault → Option ℕ
waits_at place (Ok receipt) = None
waits_at place (Err fault) = elim (may_wait fault) [ true ↦ Some place | false ↦ None ]

-- A run is where the command of the line at this place of the script is to be offered.
pub record IsDue (x : Context) (k : RunKept) (place : ℕ) (line : Line) (first : Bool) (network : Network) (written : Pieces) : Type 0 where
  pub line_is : slice_get x.script.lines place ≡ Some line
  pub here : At x k (offering first line) network written

-- A run is where the command of the line at a place of the script is to be offered, whichever line that is.
pub record IsAtLine (x : Context) (k : RunKept) (place : ℕ) (first : Bool) (network : Network) (written : Pieces) : Type 0 where
  pub line : Line
  pub due : IsDue x k place line first network written

-- the place of the line that waits, where the script has that place
abbrev pub within_lines : Option ℕ → ℕ → Option ℕ
within_lines None many = None
within_lines (Some place) many = elim (nat_lt place many) [ true ↦ Some place | false ↦ None ]

-- the judge's state after an offer that this event tells, and that moved the nodes to those
abbrev pub given : Context → RunKept → (before after : World) → Bool → Line → Result Receipt SendFault → Judged
given x k before after first line gave = offered line gave (record (judged_of x k before (offering first line)) { world = after })

-- The nodes of a run were moved by an offer of a line's command, and nothing else was done yet. The judge accepts the event that tells
-- it, and this is its line, if it has one.
pub record IsAnswered (x : Context) (k : RunKept) (place : ℕ) (line : Line) (e : Event) (gave : Result Receipt SendFault) (text : Option (List ℕ))
    (network : Network) (written : Pieces) : Type 0 where
  pub first : Bool
  pub before : World
  pub after : World
  pub all : HasAll x k
  pub stands : StandsFor k.world after
  pub line_is : slice_get x.script.lines place ≡ Some line
  pub journal : List Event
  pub kept : k.journal ≡ kept_of k.alone journal
  pub leads : Leads x journal (judged_of x k before (offering first line)) network written
  pub accepted : accepts (judged_of x k before (offering first line)) e ≡ Some (given x k before after first line gave)
  pub octets : HasOctets e
  pub text_is : line_of (judged_of x k before (offering first line)) e ≡ text

-- from an offer that was not noted yet a run goes on to the sender's tick
abbrev pub Notes : (old new : RunKept) → ℕ → Line → Event → Result Receipt SendFault → Option (List ℕ) → (unwritten written : Pieces) → Type 0
Notes old new place line e gave text unwritten written = (x : Context) (network : Network)
    → IsAnswered x old place line e gave text network unwritten → IsTelling x new Sending network written

-- or stops there
abbrev pub StopsNoting : RunKept → SessionFault → ℕ → Line → Event → Result Receipt SendFault → Option (List ℕ) → (unwritten written : Pieces) → Type 0
StopsNoting old fault place line e gave text unwritten written = (x : Context) (network : Network)
    → IsAnswered x old place line e gave text network unwritten → Stopped x fault network written

-- a part that writes, and calls the files
abbrev pub CommandCause : {T : Type 0} → Result T SessionFault → (output now files then : ℕ) → Type 0
CommandCause result output now files then = (network : ℕ) → HasCause result (counted output network files) (counted now network then)
