-- How `show` ends, and what each ending says.
use Rattle.std.specs.Prelude.{◌≡◌, ℕ, Bool, true, false, codes}
use Rattle.norm_base.specs.Faults.{one_more}
use Rattle.norm_base.specs.Told.{Pieces}
use Rattle.norm_show.specs.Progress.{ShowsAll, ShowsLess}
use Rattle.norm_show.specs.declared.fault.NoDatagram.{NoDatagram}
use Rattle.norm_show.specs.declared.fault.ShowFault.TheVariants as fault
use Rattle.norm_endings.specs.Outside.{Outside, Says, refused_line}
use Rattle.norm_endings.specs.declared.status.Ending.{Ending}
use Rattle.norm_endings.specs.declared.status.Ending.TheVariants.{Done, Datagram, Memory, Line, Read, Write}

-- nothing was called that only nodes call: no network, no files and no clock
abbrev pub Alone : Outside → Outside → Type 0
Alone before after = after.called ≡ before.called

-- All of the input was shown, each line of output one piece, and whether a datagram was refused is this.
pub record ShownAll (refused : Bool) (before after : Outside) : Type 0 where
  pub shows : ShowsAll refused before.input after.input before.written after.written
  pub alone : Alone before after
  pub reads : after.read_faults ≡ before.read_faults
  pub writes : after.write_faults ≡ before.write_faults

-- A line spells no datagram, for this reason: the lines before it were shown, and a last line says which it is.
pub record ShownToLine (n : ℕ) (why : NoDatagram) (before after : Outside) : Type 0 where
  pub unsaid : Pieces
  pub shows : ShowsLess (fault.Line n why) before.input after.input before.written unsaid
  pub output : Says unsaid after.written before.write_faults after.write_faults (refused_line n)
  pub alone : Alone before after
  pub reads : after.read_faults ≡ before.read_faults

-- One read failed: the whole lines of what was read before it were shown, and a last line says so.
pub record ShownToFault (before after : Outside) : Type 0 where
  pub cause : after.read_faults ≡ one_more before.read_faults
  pub unsaid : Pieces
  pub shows : ShowsLess fault.Read before.input after.input before.written unsaid
  pub output : Says unsaid after.written before.write_faults after.write_faults (codes "fault read\n")
  pub alone : Alone before after

-- One write failed: what was written is lines that are to be shown, and a front of the next.
pub record ShownInPart (before after : Outside) : Type 0 where
  pub cause : after.write_faults ≡ one_more before.write_faults
  pub shows : ShowsLess fault.Write before.input after.input before.written after.written
  pub alone : Alone before after
  pub reads : after.read_faults ≡ before.read_faults

-- There was no memory: what was written is lines that are to be shown. No call failed.
pub record ShownSome (before after : Outside) : Type 0 where
  pub shows : ShowsLess fault.Memory before.input after.input before.written after.written
  pub alone : Alone before after
  pub reads : after.read_faults ≡ before.read_faults
  pub writes : after.write_faults ≡ before.write_faults

abbrev pub ShowEnds : Ending → Outside → Outside → Type 0
ShowEnds Done before after = ShownAll false before after
ShowEnds Datagram before after = ShownAll true before after
ShowEnds (Line n why) before after = ShownToLine n why before after
ShowEnds Read before after = ShownToFault before after
ShowEnds Write before after = ShownInPart before after
ShowEnds Memory before after = ShownSome before after
ShowEnds _ before after = ⊥

-- how a line that spells no datagram ends the program: it is said, or there was no memory for that
abbrev pub IsLineEnding : Ending → ℕ → NoDatagram → (unwritten written : Pieces) → (before now : ℕ) → Type 0
IsLineEnding (Line m reason) n why unwritten written before now = (m ≡ n) × (reason ≡ why) × Says unwritten written before now (refused_line n)
IsLineEnding Memory n why unwritten written before now = (written ≡ unwritten) × (now ≡ before)
IsLineEnding _ n why unwritten written before now = ⊥
