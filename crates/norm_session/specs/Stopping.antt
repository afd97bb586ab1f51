-- What a fault leaves of a run.
use Rattle.std.specs.Prelude.{◌≡◌, ℕ, List, [], ◌∷◌, ◌++◌, Some, ⊤}
use Rattle.std.specs.List.{AllByRecursion}
use Rattle.norm_base.specs.Network.{Network}
use Rattle.norm_base.specs.Told.{Pieces, gained, GainsFront}
use Rattle.norm_journal.specs.declared.event.Event.{Event}
use Rattle.norm_journal.specs.Accepting.{judged_from}
use Rattle.norm_journal.specs.Calls.{Call, StartsNetwork, LooksIntoFile, OffersDatagram, TakesDatagram, call_due}
use Rattle.norm_journal.specs.Judged.{Judged}
use Rattle.norm_journal.specs.Laws.{HasOctets}
use Rattle.norm_journal.specs.Printed.{line_of, lines_from}
use Rattle.norm_journal.specs.Projections.{moments_in, network_after}
use Rattle.norm_journal.specs.SessionRun.{Absent, ending_of}
use Rattle.norm_session.specs.Context.{Context, opening}
use Rattle.norm_session.specs.Posting.{entries_in, posting}
use Rattle.norm_session.specs.SoFar.{AreTakenFrom}
use Rattle.norm_turns.specs.declared.fault.SessionFault.{SessionFault}
use Rattle.norm_turns.specs.declared.fault.SessionFault.TheVariants as fault

-- a call of the network
abbrev pub IsOfNetwork : Call → Type 0
IsOfNetwork StartsNetwork = ⊤
IsOfNetwork (OffersDatagram from octets) = ⊤
IsOfNetwork TakesDatagram = ⊤
IsOfNetwork _ = ⊥

-- a call of the files
abbrev pub IsOfFiles : Call → Type 0
IsOfFiles (LooksIntoFile name) = ⊤
IsOfFiles _ = ⊥

-- A call of this kind was due that failed.
pub record FailedCall (Kind : Call → Type 0) (last : Judged) : Type 0 where
  pub call : Call
  pub due : call_due last ≡ Some call
  pub of_kind : Kind call

-- The last event's line was not written whole: of the output there is what the journal's lines before it are, and a front of it.
pub record BrokenLine (x : Context) (journal : List Event) (written : Pieces) : Type 0 where
  pub front : List Event
  pub event : Event
  pub before : Judged
  pub line : List ℕ
  pub journal_is : journal ≡ front ++ event ∷ []
  pub begun : judged_from (opening x) front ≡ Some before
  pub line_is : line_of before event ≡ Some line
  pub output : GainsFront (gained x.written (lines_from (opening x) front)) written line

-- the output has the lines of a journal
abbrev pub HasLines : Context → List Event → Pieces → Type 0
HasLines x journal written = written ≡ gained x.written (lines_from (opening x) journal)

-- What was written, and which call failed, by the fault.
abbrev pub Leaves : SessionFault → Context → List Event → Judged → Pieces → Type 0
Leaves fault.Write x journal last written = BrokenLine x journal written
Leaves fault.Fabric x journal last written = HasLines x journal written × FailedCall IsOfNetwork last
Leaves fault.Files x journal last written = HasLines x journal written × FailedCall IsOfFiles last
Leaves (fault.Absent name) x journal last written = HasLines x journal written × (ending_of last ≡ Some (Absent name))
Leaves fault.Memory x journal last written = HasLines x journal written

-- A run that a fault stopped: some journal that the judge accepts, which the network has and whose takes answered what the network may
-- answer, whose outcomes the board has, and what was written of it.
pub record Stopped (x : Context) (fault : SessionFault) (network : Network) (written : Pieces) : Type 0 where
  pub journal : List Event
  pub last : Judged
  pub begun : judged_from (opening x) journal ≡ Some last
  pub told : network ≡ network_after x.network journal
  pub taken : AreTakenFrom x.network [] journal
  pub moments : moments_in journal ≡ x.moments
  pub board : x.posted ≡ posting x.board (entries_in journal)
  pub octets : AllByRecursion HasOctets journal
  pub leaves : Leaves fault x journal last written
