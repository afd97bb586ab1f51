-- A whole session, or the run of its sender alone: what it did, and what a fault leaves of it.
use Rattle.std.specs.Prelude.{◌≡◌, ◌⊎◌, ℕ, List, [], ◌++◌, Bool, true, false, Option, IfSome, IsTrue}
use Rattle.norm_base.specs.Members.{receivers_of}
use Rattle.norm_base.specs.Network.{Network, Starts}
use Rattle.norm_base.specs.Told.{Pieces, gained}
use Rattle.norm_base.specs.declared.kinds.Local.TheVariants.{All, One}
use Rattle.norm_script.specs.Commands.{Commands}
use Rattle.norm_journal.specs.declared.event.Event.{Event}
use Rattle.norm_journal.specs.Jobs.{Told}
use Rattle.norm_journal.specs.Judged.{Judged, judged_opening}
use Rattle.norm_journal.specs.Printed.{lines_from}
use Rattle.norm_journal.specs.Projections.{moments_in, network_after}
use Rattle.norm_journal.specs.SessionRun.{SessionRun, SenderRun, Ending, Whole, Spent}
use Rattle.norm_journal.specs.WorldEvents.{world_events, TakesDirectly}
use Rattle.norm_safety.specs.Acknowledges.{OwesWhatItHanded}
use Rattle.norm_safety.specs.AcknowledgesHanded.{AcknowledgesHanded}
use Rattle.norm_safety.specs.ClosingCompletes.{ClosingCompletes}
use Rattle.norm_safety.specs.CreditsMembers.{CreditsMembers}
use Rattle.norm_safety.specs.Events.{Event as WorldEvent}
use Rattle.norm_safety.specs.FreshWants.{FreshWants}
use Rattle.norm_safety.specs.History.{History, history}
use Rattle.norm_safety.specs.Lawful.{Lawful}
use Rattle.norm_safety.specs.Laws.{SaidOfOrders}
use Rattle.norm_safety.specs.LosesNothing.{LosesNothing}
use Rattle.norm_safety.specs.RepairSuffices.{RepairSuffices}
use Rattle.norm_safety.specs.Safe.{Safe}
use Rattle.norm_session.specs.Context.{Context, with_moments, with_posted}
use Rattle.norm_session.specs.Moments.{HaveMoments}
use Rattle.norm_session.specs.Noting.{kept_of}
use Rattle.norm_session.specs.Posting.{entries_in, posting}
use Rattle.norm_session.specs.RunKept.{nodes_in}
use Rattle.norm_session.specs.Stopping.{Stopped}
use Rattle.norm_session.specs.Turning.{Span}
use Rattle.norm_turns.specs.declared.fault.SessionFault.{SessionFault}
use Rattle.norm_turns.specs.declared.fault.SessionFault.TheVariants as fault
use Rattle.producer_gate.specs.Boards.{BoardState}

-- the receivers of a script's profile, in order
abbrev pub nodes_of : Commands → List ℕ
nodes_of script = receivers_of script.profile script.profile.receivers

-- the judge's state before anything happened
abbrev pub session_opening : Commands → Told → Judged
session_opening script files = judged_opening script files (nodes_of script)

-- the events of a session in the nodes' world
abbrev pub session_events : Commands → Told → List Event → List WorldEvent
session_events script files journal = world_events (session_opening script files) journal

-- what happened in that world
abbrev pub session_history : Commands → Told → List Event → History
session_history script files journal = history script.profile (session_events script files journal)

-- What is promised of every session, of all of its journal and of each front: what was done is a lawful run of the nodes, and safe; and
-- more than that.
pub record IsSafe (script : Commands) (files : Told) (journal : List Event) : Type 0 where
  pub lawful : Lawful script.profile (session_events script files journal)
  -- Each accepted object is once in the order, with the octets that it was given, as what was written to a stream is; each receiver handed
  -- up that order, with a loss only where the sender dropped data; whoever is listed past a watermark had handed up everything before it;
  -- and a watermark is satisfied exactly where its quorum is listed.
  pub safe : Safe script.profile (session_events script files journal)
  -- what a member acknowledges is credited
  pub credited : CreditsMembers script.profile (session_history script files journal)
  -- in hold mode only a node that was struck reported a loss
  pub kept : LosesNothing script.profile (session_history script files journal)
  -- each symbol, info, flush and squelch that was said is true of the orders
  pub said : SaidOfOrders script.profile (session_history script files journal)
  -- what is wanted as a round closes and was never sent is held by nobody
  pub fresh : FreshWants script.profile (session_history script files journal)
  -- and what a closing wants completes a block for whoever lacks no more of it than the round counts
  pub completes : ClosingCompletes script.profile (session_history script files journal)
  -- and each block that one of the NACKs which joined the round counts, for the receiver that gave it, as it then was
  pub repaired : RepairSuffices script.profile (session_history script files journal)
  -- a receiver acknowledges only what it handed up, everything before included
  pub acknowledged : AcknowledgesHanded script.profile (session_history script files journal)
  -- and whoever handed up everything before the end of an object, or of a stream's segment, owes that to a flush which names it
  pub owed : OwesWhatItHanded script.profile (session_history script files journal)

-- A journal was safe at each moment: each front of it is, and so all of it. So whatever was handed up stands before the listing that rests
-- on it, also before one that a restart or a strike took away later.
abbrev pub IsSafeThroughout : Commands → Told → List Event → Type 0
IsSafeThroughout script files journal = (front rest : List Event) → journal ≡ front ++ rest → IsSafe script files front

-- over an honest network that tells what is offered
abbrev pub OverHonest : Network → Type 0 → Type 0
OverHonest started Promise = IsTrue started.honest → IfSome started.offered (λ offered. Promise)

-- over a direct network that tells what is offered, what it answers, and its starts, those before this one too
abbrev pub OverDirect : (before started : Network) → Type 0 → Type 0
OverDirect before started Promise =
    IsTrue started.direct
    → IfSome before.starts (λ earlier.
    IfSome started.starts (λ starts. IfSome started.offered (λ offered. IfSome started.answers (λ answers. Promise))))

-- how a session ended that ran to its end
abbrev pub end_of : Bool → Ending
end_of true = Whole
end_of false = Spent

-- A session was run to its end: its journal is a run of the script by the defined protocol, over the network that was started once,
-- whose offers and answers are the journal's; the output has the journal's lines, each one piece; the board has one entry more for each
-- outcome that the journal tells, in their order; its turns began at their moments, by the clock where the step is 0. Over an honest
-- network it was safe at each moment; over a direct one each take gave the next copy of what the nodes had offered, and nothing only
-- if there was none.
pub record RunsSession (script : Commands) (files : Told) (journal : List Event) (whole : Bool) (o : Span) : Type 0 where
  pub started : Network
  pub starts : Starts o.before started script.profile All
  pub run : SessionRun script files journal (end_of whole)
  pub told : o.after ≡ network_after started journal
  pub lines : o.written ≡ gained o.unwritten (lines_from (session_opening script files) journal)
  pub board : o.posted ≡ posting o.unposted (entries_in journal)
  pub moments : HaveMoments script.profile.step 0 o.unasked o.asked (moments_in journal)
  pub safe : OverHonest started (IsSafeThroughout script files journal)
  pub direct : OverDirect o.before started (TakesDirectly 0 (session_opening script files) journal)

-- A sender was run alone to its end, its receivers elsewhere: as a session, but that the network was started for its node alone, and
-- that the run has no receivers. What comes to it was offered elsewhere, so that nothing is said of the nodes' world.
pub record RunsSender (script : Commands) (files : Told) (journal : List Event) (whole : Bool) (o : Span) : Type 0 where
  pub started : Network
  pub starts : Starts o.before started script.profile (One script.profile.sender)
  pub run : SenderRun script files journal (end_of whole)
  pub told : o.after ≡ network_after started journal
  pub lines : o.written ≡ gained o.unwritten (lines_from (judged_opening script files []) journal)
  pub board : o.posted ≡ posting o.unposted (entries_in journal)
  pub moments : HaveMoments script.profile.step 0 o.unasked o.asked (moments_in journal)

-- a run of a script, with its sender alone or with all members
abbrev pub RunsScript : Bool → Commands → Told → List Event → Bool → Span → Type 0
RunsScript true = RunsSender
RunsScript false = RunsSession

-- Such a run was made, and this is kept of its journal.
pub record RunsKept (alone : Bool) (script : Commands) (files : Told) (kept : Option (List Event)) (whole : Bool) (o : Span) : Type 0 where
  pub journal : List Event
  pub kept_is : kept ≡ kept_of alone journal
  pub run : RunsScript alone script files journal whole o

-- Nothing was done: there was no memory, or the network was not started.
pub record NotBegun (failed : SessionFault) (o : Span) : Type 0 where
  pub why : (failed ≡ fault.Memory) ⊎ (failed ≡ fault.Fabric)
  pub network : o.after ≡ o.before
  pub output : o.written ≡ o.unwritten
  pub clock : o.asked ≡ o.unasked
  pub board : o.posted ≡ o.unposted

-- what a run of a script is over, with its sender alone or with all members
abbrev pub context_of : Bool → Commands → Told → Network → Pieces → BoardState → Context
context_of alone script files started unwritten board = record {
  script = script;
  files = files;
  alone = alone;
  nodes = nodes_in alone script.profile;
  network = started;
  written = unwritten;
  moments = [];
  board = board;
  posted = board;
}

-- A fault broke a session off: what was done is the beginning of a run, and that is what the network, the output, the clock and the board
-- have of it. Over an honest network it was safe at each moment up to then; over a direct one each take gave the next copy.
pub record BreaksOff (failed : SessionFault) (script : Commands) (files : Told) (o : Span) : Type 0 where
  pub started : Network
  pub starts : Starts o.before started script.profile All
  pub moments : List ℕ
  pub by_clock : HaveMoments script.profile.step 0 o.unasked o.asked moments
  pub stopped : Stopped (with_moments (with_posted (context_of false script files started o.unwritten o.unposted) o.posted) moments) failed o.after o.written
  pub safe : OverHonest started (IsSafeThroughout script files stopped.journal)
  pub direct : OverDirect o.before started (TakesDirectly 0 (session_opening script files) stopped.journal)

-- what a fault leaves of a session
abbrev pub StopsSession : SessionFault → Commands → Told → Span → Type 0
StopsSession failed script files o = NotBegun failed o ⊎ BreaksOff failed script files o

-- A fault broke off the run of a sender alone: the same, but that nothing is said of the nodes' world.
pub record BreaksOffSender (failed : SessionFault) (script : Commands) (files : Told) (o : Span) : Type 0 where
  pub started : Network
  pub starts : Starts o.before started script.profile (One script.profile.sender)
  pub moments : List ℕ
  pub by_clock : HaveMoments script.profile.step 0 o.unasked o.asked moments
  pub stopped : Stopped (with_moments (with_posted (context_of true script files started o.unwritten o.unposted) o.posted) moments) failed o.after o.written

-- what a fault leaves of the run of a sender alone
abbrev pub StopsSender : SessionFault → Commands → Told → Span → Type 0
StopsSender failed script files o = NotBegun failed o ⊎ BreaksOffSender failed script files o

-- what a fault leaves of a run of a script
abbrev pub StopsScript : Bool → SessionFault → Commands → Told → Span → Type 0
StopsScript true = StopsSender
StopsScript false = StopsSession
