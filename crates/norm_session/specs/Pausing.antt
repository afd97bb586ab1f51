-- A session that stopped between two turns: what it did, and what it says of itself.
use Rattle.std.specs.Prelude.{◌≡◌, ℕ, ◌==◌, ◌&&◌, not, length, is_none, Bool, true, None, Some}
use Rattle.norm_base.specs.Network.{Network, Starts}
use Rattle.norm_base.specs.Told.{gained}
use Rattle.norm_base.specs.declared.kinds.Local.TheVariants.{All}
use Rattle.norm_script.specs.Commands.{Commands}
use Rattle.norm_journal.specs.Jobs.{Told}
use Rattle.norm_journal.specs.Judged.{Judged, is_whole, news_due}
use Rattle.norm_journal.specs.Places.{Place, Between}
use Rattle.norm_journal.specs.Printed.{lines_from}
use Rattle.norm_journal.specs.Projections.{moments_in, network_after}
use Rattle.norm_journal.specs.SessionRun.{judged}
use Rattle.norm_journal.specs.WorldEvents.{TakesDirectly}
use Rattle.norm_safety.specs.World.{World}
use Rattle.norm_world.specs.WorldKept.{HasRun, IsReady, StandsFor}
use Rattle.norm_session.specs.Context.{Context, judged_of}
use Rattle.norm_session.specs.Moments.{HaveMoments}
use Rattle.norm_session.specs.Posting.{entries_in, posting}
use Rattle.norm_session.specs.RunKept.{RunKept}
use Rattle.norm_session.specs.Session.{nodes_of, session_opening, session_events, IsSafeThroughout, OverHonest, OverDirect}
use Rattle.norm_session.specs.SoFar.{HasAll}
use Rattle.norm_session.specs.Turning.{Span, is_done_by}
use Rattle.norm_session.specs.declared.pausing.Paused.{Paused}

-- a command was not pulled yet, or waits
abbrev pub has_commands : Judged → Bool
has_commands j = not (length j.left == 0 && is_none j.waiting)

-- What a session that stopped says of itself is read off the judge's state.
pub record IsReadOff (j : Judged) (p : Paused) : Type 0 where
  pub whole : p.whole ≡ is_whole j
  pub waiting : p.waiting ≡ has_commands j
  pub turn : p.turn ≡ j.turn
  pub last : p.last ≡ j.now
  pub counts : p.counts ≡ j.totals
  pub draws : p.draws ≡ j.draws

-- A session was run as far as this turn: as a session that was run to its end, but that the judge's state after the journal stands between
-- two turns, with no change left to tell, and is whole or at that turn, or at the profile's last if that is before. So the output has no
-- summary. All that is said of the session is read off that state, and the nodes stand for what happened in their world.
pub record PausesSession (script : Commands) (files : Told) (until : ℕ) (p : Paused) (o : Span) : Type 0 where
  pub started : Network
  pub starts : Starts o.before started script.profile All
  pub state : Judged
  pub begun : judged script files (nodes_of script) p.journal ≡ Some state
  pub place : state.place ≡ Between
  pub quiet : news_due state ≡ None
  pub done : is_done_by until state ≡ true
  pub reads : IsReadOff state p
  pub profile : p.world.p ≡ script.profile
  pub ready : IsReady p.world
  pub nodes : HasRun p.world (session_events script files p.journal)
  pub told : o.after ≡ network_after started p.journal
  pub lines : o.written ≡ gained o.unwritten (lines_from (session_opening script files) p.journal)
  pub board : o.posted ≡ posting o.unposted (entries_in p.journal)
  pub moments : HaveMoments script.profile.step 0 o.unasked o.asked (moments_in p.journal)
  pub safe : OverHonest started (IsSafeThroughout script files p.journal)
  pub direct : OverDirect o.before started (TakesDirectly 0 (session_opening script files) p.journal)

-- A run was taken apart between two turns.
pub record IsTakenApart (script : Commands) (k : RunKept) (p : Paused) : Type 0 where
  pub journal : k.journal ≡ Some p.journal
  pub draws : p.draws ≡ k.draws
  pub whole : (x : Context) (w : World) (place : Place) → HasAll x k → x.script ≡ script → StandsFor k.world w → p.whole ≡ is_whole (judged_of x k w place)
  pub waiting : (x : Context) (w : World) (place : Place) → x.script ≡ script → p.waiting ≡ has_commands (judged_of x k w place)
  pub turn : p.turn ≡ k.turn
  pub last : p.last ≡ k.now
  pub counts : p.counts ≡ k.totals
  pub world : p.world ≡ k.world
  pub ready : IsReady k.world
