-- A turn of a run, and all its turns.
use Rattle.std.specs.Prelude.{◌≡◌, ℕ, ◌==◌, ◌&&◌, ◌||◌, List, [], ◌∷◌, Bool, Option, min, nat_le, slice_get, option_and_then, true, false}
use Rattle.norm_base.specs.Network.{Network}
use Rattle.norm_base.specs.Told.{Pieces}
use Rattle.norm_script.specs.Commands.{Commands}
use Rattle.norm_journal.specs.Jobs.{Told}
use Rattle.norm_journal.specs.Judged.{Judged, is_done, is_whole}
use Rattle.norm_journal.specs.Places.{Place, Sending, Between, command_due}
use Rattle.norm_session.specs.Context.{Context, judged_of, with_moments, with_posted}
use Rattle.norm_session.specs.Left.{lines_at}
use Rattle.norm_session.specs.Moments.{HaveMoments, last_moment}
use Rattle.norm_session.specs.RunKept.{RunKept}
use Rattle.norm_session.specs.SoFar.{At}
use Rattle.norm_session.specs.Stopping.{Stopped}
use Rattle.norm_turns.specs.declared.fault.SessionFault.{SessionFault}
use Rattle.producer_gate.specs.Boards.{BoardState}

-- a turn begins with a command: one that waits, or one that is pulled, where there are some left
abbrev pub command_next : Context → RunKept → Place
command_next x k = command_due (option_and_then (slice_get x.script.lines) k.waiting) (lines_at x.script.lines k.left)

-- the moments of turns that follow, by the clock's
abbrev pub FollowMoments : Context → Option (List ℕ) → Option (List ℕ) → List ℕ → Type 0
FollowMoments x before after moments = HaveMoments x.script.profile.step (last_moment 0 x.moments) before after moments

-- the last turn was not done
abbrev pub GoesOn : (x : Context) (k : RunKept) (network : Network) (written : Pieces) → At x k Between network written → Type 0
GoesOn x k network written here = is_done (judged_of x k here.world Between) ≡ false

-- A turn begins: from between two turns, where the last was not done, to the command that is due.
abbrev pub BeginsTurn : (old new : RunKept) → Option (List ℕ) → Option (List ℕ) → Type 0
BeginsTurn old new before after = (x : Context) (network : Network) (written : Pieces) (here : At x old Between network written)
    → GoesOn x old network written here → FollowMoments x before after (new.now ∷ []) × At (with_moments x (new.now ∷ [])) new (command_next x new) network written

-- A fault stops a turn that has begun at these moments, or at none.
abbrev pub StopsBeginning : RunKept → SessionFault → Option (List ℕ) → Option (List ℕ) → Type 0
StopsBeginning old fault before after = (moments : List ℕ) × ((x : Context) (network : Network) (written : Pieces) (here : At x old Between network written)
    → GoesOn x old network written here → FollowMoments x before after moments × Stopped (with_moments x moments) fault network written)

-- what a run is over: its script, and the files as they are told
pub record IsOver (x : Context) (commands : Commands) (told : Told) : Type 0 where
  pub script : x.script ≡ commands
  pub files : x.files ≡ told

-- A turn begins with its command, where the last was not done, and all is told.
abbrev pub OpensTurn : Commands → Told → (old new : RunKept) → (unposted posted : BoardState) → (unwritten written : Pieces)
    → (unasked asked : Option (List ℕ)) → Type 0
OpensTurn script files old new unposted posted unwritten written unasked asked = (moment : ℕ) × ((x : Context) (network : Network) → IsOver x script files
    → (here : At (with_posted x unposted) old Between network unwritten) → GoesOn (with_posted x unposted) old network unwritten here
    → FollowMoments x unasked asked (moment ∷ []) × At (with_moments (with_posted x posted) (moment ∷ [])) new Sending network written)

-- A fault stops that.
abbrev pub StopsOpening : Commands → Told → RunKept → SessionFault → (unposted posted : BoardState) → (unwritten written : Pieces)
    → (unasked asked : Option (List ℕ)) → Type 0
StopsOpening script files old fault unposted posted unwritten written unasked asked = (moments : List ℕ) × ((x : Context) (network : Network)
    → IsOver x script files → (here : At (with_posted x unposted) old Between network unwritten) → GoesOn (with_posted x unposted) old network unwritten here
    → FollowMoments x unasked asked moments × Stopped (with_moments (with_posted x posted) moments) fault network written)

-- What the outside told before and after a part of a run, the network, the output and the clock, and the board.
pub record Span : Type 0 where
  pub before : Network
  pub after : Network
  pub unwritten : Pieces
  pub written : Pieces
  pub unasked : Option (List ℕ)
  pub asked : Option (List ℕ)
  pub unposted : BoardState
  pub posted : BoardState

abbrev pub span : (before after : Network) (unwritten written : Pieces) (unasked asked : Option (List ℕ)) (unposted posted : BoardState) → Span
span before after unwritten written unasked asked unposted posted = record {
  before = before;
  after = after;
  unwritten = unwritten;
  written = written;
  unasked = unasked;
  asked = asked;
  unposted = unposted;
  posted = posted;
}

-- A turn is made, where the last was not done.
abbrev pub TakesTurn : Commands → Told → (old new : RunKept) → Span → Type 0
TakesTurn script files old new o = (moment : ℕ) × ((x : Context) → IsOver x script files → (here : At (with_posted x o.unposted) old Between o.before o.unwritten)
    → GoesOn (with_posted x o.unposted) old o.before o.unwritten here
    → FollowMoments x o.unasked o.asked (moment ∷ []) × At (with_moments (with_posted x o.posted) (moment ∷ [])) new Between o.after o.written)

-- A fault stops a turn.
abbrev pub StopsTurn : Commands → Told → RunKept → SessionFault → Span → Type 0
StopsTurn script files old fault o = (moments : List ℕ) × ((x : Context) → IsOver x script files → (here : At (with_posted x o.unposted) old Between o.before o.unwritten)
    → GoesOn (with_posted x o.unposted) old o.before o.unwritten here
    → FollowMoments x o.unasked o.asked moments × Stopped (with_moments (with_posted x o.posted) moments) fault o.after o.written)

-- a run that is at the end of its last turn
pub record AtLast (x : Context) (k : RunKept) (network : Network) (written : Pieces) : Type 0 where
  pub here : At x k Between network written
  pub done : is_done (judged_of x k here.world Between) ≡ true

-- The last turn was done of a run that goes no further than this turn: the first at which the run is whole, or the lesser of this one and
-- the profile's last.
abbrev pub is_done_by : ℕ → Judged → Bool
is_done_by until j = nat_le 1 j.turn && (is_whole j || j.turn == min until j.profile.turns)

-- such a run, at the end of its last turn
pub record AtTurn (until : ℕ) (x : Context) (k : RunKept) (network : Network) (written : Pieces) : Type 0 where
  pub here : At x k Between network written
  pub done : is_done_by until (judged_of x k here.world Between) ≡ true

-- All turns up to this one are made of a run in which none was.
abbrev pub TakesTurns : Commands → Told → ℕ → (old new : RunKept) → Span → Type 0
TakesTurns script files until old new o = (moments : List ℕ) × ((x : Context) → IsOver x script files → x.moments ≡ []
    → At (with_posted x o.unposted) old Between o.before o.unwritten
    → FollowMoments x o.unasked o.asked moments × AtTurn until (with_moments (with_posted x o.posted) moments) new o.after o.written)

-- A fault stops a run in one of its turns, or behind them.
abbrev pub StopsTurns : Commands → Told → RunKept → SessionFault → Span → Type 0
StopsTurns script files old fault o = (moments : List ℕ) × ((x : Context) → IsOver x script files → x.moments ≡ [] → At (with_posted x o.unposted) old Between o.before o.unwritten
    → FollowMoments x o.unasked o.asked moments × Stopped (with_moments (with_posted x o.posted) moments) fault o.after o.written)
