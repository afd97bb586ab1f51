-- The end of a run.
use Rattle.std.specs.Prelude.{◌≡◌, ℕ, List, [], Bool}
use Rattle.norm_base.specs.Network.{Network, Starts}
use Rattle.norm_base.specs.Told.{Pieces}
use Rattle.norm_script.specs.Commands.{Commands}
use Rattle.norm_journal.specs.Jobs.{Told}
use Rattle.norm_journal.specs.Judged.{is_whole}
use Rattle.norm_journal.specs.Places.{Between, Over}
use Rattle.norm_session.specs.Context.{Context, judged_of, with_moments, with_posted}
use Rattle.norm_session.specs.RunKept.{RunKept}
use Rattle.norm_session.specs.SoFar.{At}
use Rattle.norm_session.specs.Starting.{IsBegun, local_of}
use Rattle.norm_session.specs.Turning.{Span, IsOver, FollowMoments, TakesTurns, span}

-- A run ended, and was whole or had its turns spent.
pub record HasEnded (x : Context) (k : RunKept) (whole : Bool) (network : Network) (written : Pieces) : Type 0 where
  pub here : At x k Over network written
  pub whole_is : is_whole (judged_of x k here.world Over) ≡ whole

-- A run in which no turn was made goes to its end.
abbrev pub Finishes : Commands → Told → (old new : RunKept) → Bool → Span → Type 0
Finishes script files old new whole o = (moments : List ℕ) × ((x : Context) → IsOver x script files → x.moments ≡ []
    → At (with_posted x o.unposted) old Between o.before o.unwritten
    → FollowMoments x o.unasked o.asked moments × HasEnded (with_moments (with_posted x o.posted) moments) new whole o.after o.written)

-- A script was run up to this turn: the network was started, a run began over it, and all its turns up to there were made.
pub record TurnedScript (alone : Bool) (script : Commands) (files : Told) (until : ℕ) (k : RunKept) (o : Span) : Type 0 where
  pub started : Network
  pub starts : Starts o.before started script.profile (local_of alone script.profile)
  pub begun : RunKept
  pub begins : (x : Context) → IsBegun x script alone started → At x begun Between started x.written
  pub turns : TakesTurns script files until begun k (span started o.after o.unwritten o.written o.unasked o.asked o.unposted o.posted)
