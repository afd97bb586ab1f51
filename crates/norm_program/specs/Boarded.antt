-- Runs of a script over a board of the program's own, which nobody else reads: what is said of them, whatever that board is.
use Rattle.std.specs.Prelude.{ℕ, List, Bool, Option}
use Rattle.norm_base.specs.Network.{Network}
use Rattle.norm_base.specs.Told.{Pieces}
use Rattle.norm_journal.specs.Jobs.{Told}
use Rattle.norm_journal.specs.declared.event.Event.{Event}
use Rattle.norm_script.specs.Commands.{Commands}
use Rattle.norm_session.specs.Pausing.{PausesSession}
use Rattle.norm_session.specs.Session as session
use Rattle.norm_session.specs.Turning as turning
use Rattle.norm_session.specs.declared.pausing.Paused.{Paused}
use Rattle.norm_turns.specs.declared.fault.SessionFault.{SessionFault}
use Rattle.producer_gate.specs.Boards.{BoardState}

-- what the outside told before and after a session, whatever the board was and is
abbrev pub Span : Type 0
Span = BoardState → BoardState → turning.Span

abbrev pub span : (before after : Network) (unwritten written : Pieces) (unasked asked : Option (List ℕ)) → Span
span before after unwritten written unasked asked =
    λ unposted posted. turning.span before after unwritten written unasked asked unposted posted

-- a script was run to its end, with its sender alone or with all members
abbrev pub RunsScript : Bool → Commands → Told → List Event → Bool → Span → Type 0
RunsScript alone script files journal whole o =
    (unposted : BoardState) × (posted : BoardState) × session.RunsScript alone script files journal whole (o unposted posted)

-- a session was run as far as a turn, or to its end if that is before
abbrev pub PausesScript : Commands → Told → ℕ → Paused → Span → Type 0
PausesScript script files until paused o =
    (unposted : BoardState) × (posted : BoardState) × PausesSession script files until paused (o unposted posted)

-- a fault stopped such a run
abbrev pub StopsScript : Bool → SessionFault → Commands → Told → Span → Type 0
StopsScript alone failed script files o =
    (unposted : BoardState) × (posted : BoardState) × session.StopsScript alone failed script files (o unposted posted)
