-- What a session over a direct network promises besides: at status 0 all was handed up; with enough turns a steady one does not end with status 8.
use Rattle.std.specs.Prelude.{◌≡◌, ◌<◌, ℕ, List, Bool, true, false, Contains, ⊤}
use Rattle.std.specs.List.{AllByRecursion}
use Rattle.norm_base.specs.Members.{receivers_of}
use Rattle.norm_send_rules.specs.SenderState.{Instance}
use Rattle.norm_script.specs.Commands.{Commands}
use Rattle.norm_journal.specs.declared.event.Event.{Event}
use Rattle.norm_journal.specs.Handed.{ups_in}
use Rattle.norm_journal.specs.Jobs.{Told}
use Rattle.norm_journal.specs.Judged.{Judged}
use Rattle.norm_journal.specs.Laws.{HasOctets}
use Rattle.norm_laws.specs.HandedUp.{everything}
use Rattle.norm_session.specs.Session.{OverDirect}
use Rattle.norm_recovery.specs.Steady.{Steady, turns_of}
use Rattle.norm_recovery.specs.SteadyTurns.{IsSatisfied}
use Rattle.norm_program.specs.Asked.{Asked, Members, is_alone}
use Rattle.norm_program.specs.Boarded.{RunsScript, Span}

-- It ended whole: every receiver was handed everything of the order, and nothing else of it; and if it is steady, each watermark was satisfied.
pub record Serves (script : Commands) (files : Told) (journal : List Event) (last : Judged) : Type 0 where
  pub handed : (node : ℕ) → Contains (receivers_of script.profile script.profile.receivers) node
      → let i : Instance = last.world.sender.current in ups_in journal node i.id ≡ everything script.profile i.order
  pub satisfied : Steady script files journal → AllByRecursion IsSatisfied last.world.sender.watermarks

-- What follows of its ending. If its turns were spent and it is steady, they are fewer than the script tells.
abbrev pub ServesOrLacks : (whole : Bool) → Commands → Told → List Event → Judged → Type 0
ServesOrLacks true script files journal last = Serves script files journal last
ServesOrLacks false script files journal last = Steady script files journal → script.profile.turns < turns_of script last

-- So it is of a session, if the network told that it is direct, and its lists, and what was read of files are octets. Of a sender alone, and of a folder,
-- nothing is said here.
abbrev pub TurnsTell : (a : Asked) (script : Commands) (files : Told) (journal : List Event) (whole : Bool) (o : Span)
    → RunsScript (is_alone a) script files journal whole o → Type 0
TurnsTell (Members options) script files journal whole o (unposted, posted, run) =
    OverDirect (o unposted posted).before run.started (AllByRecursion HasOctets journal → ServesOrLacks whole script files journal run.run.last)
TurnsTell _ script files journal whole o run = ⊤
