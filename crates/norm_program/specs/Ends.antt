-- How a session ends, or the run of a sender alone, and what each ending says.
use Rattle.std.specs.Prelude.{◌≡◌, ℕ, List, [], ◌∷◌, ◌⊎◌, Bool, true, false, codes, Option}
use Rattle.norm_base.specs.Faults.{one_more}
use Rattle.norm_base.specs.Told.{Pieces, gained, GainsFront}
use Rattle.norm_script.specs.Commands.{Commands}
use Rattle.norm_script.specs.declared.refusal.Refusal.{Refusal}
use Rattle.norm_journal.specs.declared.event.Event.{Event}
use Rattle.norm_turns.specs.declared.fault.SessionFault.{SessionFault}
use Rattle.norm_turns.specs.declared.fault.SessionFault.TheVariants as fault
use Rattle.norm_endings.specs.declared.status.Ending.{Ending}
use Rattle.norm_endings.specs.declared.status.Ending.TheVariants.{Done, Memory, Refused, Read, Write, Fabric, Files, Absent, Spent}
use Rattle.norm_endings.specs.Outside.{refused_line, absent_line, Says, Called, Outside, Undisturbed, IsInput, FailedRead, Untouched, outside}
use Rattle.norm_program.specs.Asked.{Asked, is_alone, IsAsked, IsRefusedLine}
use Rattle.norm_program.specs.Boarded.{RunsScript, Span, StopsScript, span}
use Rattle.norm_program.specs.SteadyEnds.{TurnsTell}

abbrev pub usage_line : List ℕ
usage_line = codes "usage: normd session | show | generate N | send PROFILE | recv PROFILE NODE | hub PROFILE | gather PROFILE NODE .. | relay UP NODE DOWN | mirror\n"

-- what a session had, up to when this was written
abbrev pub session_span : Outside → Outside → Pieces → Span
session_span before after written =
    span before.called.network after.called.network before.written written before.called.moments after.called.moments

-- A session was run to its end, or a sender alone: the input is the script that is asked for, what was done is a run of it, and the
-- lines of that journal, of which the summary is the last, had then been written, one piece each. Over a direct network everyone was served if it ended
-- whole; if its turns were spent, and its journal is steady, they were fewer than its script tells.
pub record RanSession (a : Asked) (before after : Outside) (whole : Bool) (written : Pieces) : Type 0 where
  pub text : List ℕ
  pub script : Commands
  pub journal : List Event
  pub input : IsInput text before.input after.input
  pub read : IsAsked a text script
  pub session : RunsScript (is_alone a) script before.called.files journal whole (session_span before after written)
  pub turns : TurnsTell a script before.called.files journal whole (session_span before after written) session

-- A fault stopped it: the input is the script that is asked for, what was done is nothing or the beginning of a run of it, and that had
-- then been written.
pub record StoppedSession (a : Asked) (failed : SessionFault) (before after : Outside) (written : Pieces) : Type 0 where
  pub text : List ℕ
  pub script : Commands
  pub input : IsInput text before.input after.input
  pub read : IsAsked a text script
  pub session : StopsScript (is_alone a) failed script before.called.files (session_span before after written)

-- All was done.
pub record DidAll (a : Asked) (before after : Outside) : Type 0 where
  pub session : RanSession a before after true after.written
  pub undisturbed : Undisturbed before after
  pub writes : after.write_faults ≡ before.write_faults

-- The turns were spent, and a last line says so.
pub record SpentTurns (a : Asked) (before after : Outside) : Type 0 where
  pub unsaid : Pieces
  pub session : RanSession a before after false unsaid
  pub output : after.written ≡ gained unsaid (codes "turns spent\n" ∷ [])
  pub undisturbed : Undisturbed before after
  pub writes : after.write_faults ≡ before.write_faults

-- The turns were spent, and a front of the last line says so.
pub record SpentUnsaid (a : Asked) (before after : Outside) : Type 0 where
  pub unsaid : Pieces
  pub session : RanSession a before after false unsaid
  pub output : GainsFront unsaid after.written (codes "turns spent\n")

-- A line is the input's first that has no meaning.
pub record RefusedLine (a : Asked) (before after : Outside) (refusal : Refusal) : Type 0 where
  pub text : List ℕ
  pub input : IsInput text before.input after.input
  pub read : IsRefusedLine a text refusal
  pub called : after.called ≡ before.called
  pub output : Says before.written after.written before.write_faults after.write_faults (refused_line refusal.line)
  pub undisturbed : Undisturbed before after

-- One write failed. It stopped the session, or it was that of the last line of spent turns.
pub record FailedWrite (a : Asked) (before after : Outside) : Type 0 where
  pub cause : after.write_faults ≡ one_more before.write_faults
  pub session : StoppedSession a fault.Write before after after.written ⊎ SpentUnsaid a before after
  pub undisturbed : Undisturbed before after

-- One call of the network failed. It stopped the session, and a last line says so.
pub record FailedNetwork (a : Asked) (before after : Outside) : Type 0 where
  pub cause : after.called.network_faults ≡ one_more before.called.network_faults
  pub unsaid : Pieces
  pub session : StoppedSession a fault.Fabric before after unsaid
  pub output : Says unsaid after.written before.write_faults after.write_faults (codes "fault fabric\n")
  pub reads : after.read_faults ≡ before.read_faults
  pub files : after.called.file_faults ≡ before.called.file_faults

-- One call of the files failed. It stopped the session, and a last line says so.
pub record FailedFiles (a : Asked) (before after : Outside) : Type 0 where
  pub cause : after.called.file_faults ≡ one_more before.called.file_faults
  pub unsaid : Pieces
  pub session : StoppedSession a fault.Files before after unsaid
  pub output : Says unsaid after.written before.write_faults after.write_faults (codes "fault files\n")
  pub reads : after.read_faults ≡ before.read_faults
  pub calls : after.called.network_faults ≡ before.called.network_faults

-- A command's file is not there. That stopped the session, and a last line has its name. No call failed but that of the line.
pub record AbsentFile (a : Asked) (name : List ℕ) (before after : Outside) : Type 0 where
  pub unsaid : Pieces
  pub session : StoppedSession a (fault.Absent name) before after unsaid
  pub output : Says unsaid after.written before.write_faults after.write_faults (absent_line name)
  pub undisturbed : Undisturbed before after

-- a command's file is not there, and no line says so
abbrev pub AbsentUnsaid : Asked → Outside → Outside → Type 0
AbsentUnsaid a before after = (name : List ℕ) × StoppedSession a (fault.Absent name) before after after.written

-- There was no memory: for reading a script; in a session, which that stopped; or for the line that names an absent file. No call
-- failed.
pub record WantedMemory (a : Asked) (before after : Outside) : Type 0 where
  pub session : Untouched before after ⊎ (StoppedSession a fault.Memory before after after.written ⊎ AbsentUnsaid a before after)
  pub undisturbed : Undisturbed before after
  pub writes : after.write_faults ≡ before.write_faults

-- The words are no command.
pub record RefusedWords (before after : Outside) : Type 0 where
  pub input : after.input ≡ before.input
  pub called : after.called ≡ before.called
  pub output : Says before.written after.written before.write_faults after.write_faults usage_line
  pub undisturbed : Undisturbed before after

-- what each ending of what is to be run says
abbrev pub EndsScript : Asked → Ending → Outside → Outside → Type 0
EndsScript a Done before after = DidAll a before after
EndsScript a Spent before after = SpentTurns a before after
EndsScript a (Refused refusal) before after = RefusedLine a before after refusal
EndsScript a Read before after = FailedRead before after
EndsScript a Memory before after = WantedMemory a before after
EndsScript a Write before after = FailedWrite a before after
EndsScript a Fabric before after = FailedNetwork a before after
EndsScript a Files before after = FailedFiles a before after
EndsScript a (Absent name) before after = AbsentFile a name before after
EndsScript a _ before after = ⊥

-- What there is to run: the input is this script.
pub record Prepared (a : Asked) (script : Commands) (before after : Option (List ℕ)) : Type 0 where
  pub text : List ℕ
  pub input : IsInput text before after
  pub read : IsAsked a text script

-- what each ending before a session says: a line has no meaning, a read failed, or there was no memory
abbrev pub EndsUnrun : Asked → Ending → Outside → Outside → Type 0
EndsUnrun a (Refused refusal) before after = RefusedLine a before after refusal
EndsUnrun a Read before after = FailedRead before after
EndsUnrun a Memory before after = WantedMemory a before after
EndsUnrun a _ before after = ⊥

-- What ends the program before a session. Nothing of the session was called.
abbrev pub EndsEarly : Asked → Ending → (input left : Option (List ℕ)) → (unwritten written : Pieces) → (reads read_faults writes write_faults : ℕ) → Type 0
EndsEarly a ending input left unwritten written reads read_faults writes write_faults =
    (called : Called) → EndsUnrun a ending (outside input unwritten reads writes called) (outside left written read_faults write_faults called)

-- how a text is no script
abbrev pub IsTextEnding : Asked → Ending → List ℕ → (unwritten written : Pieces) → (old new : ℕ) → Type 0
IsTextEnding a Memory text unwritten written old new = (written ≡ unwritten) × (new ≡ old)
IsTextEnding a (Refused refusal) text unwritten written old new =
    IsRefusedLine a text refusal × Says unwritten written old new (refused_line refusal.line)
IsTextEnding a _ text unwritten written old new = ⊥
