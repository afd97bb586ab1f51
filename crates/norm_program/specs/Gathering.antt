-- How the parts of a gathering end the program.
use Rattle.std.specs.Prelude.{◌≡◌, ℕ, List, ◌∷◌, ◌++◌, None, Some}
use Rattle.norm_base.specs.Faults.{one_more}
use Rattle.norm_base.specs.Settings.{Settings}
use Rattle.norm_base.specs.Told.{Pieces, gained}
use Rattle.norm_journal.specs.Jobs.{Told}
use Rattle.norm_multi.specs.declared.multi.MultiFault.{MultiFault}
use Rattle.norm_multi.specs.declared.multi.MultiFault.TheVariants as multi
use Rattle.norm_turns.specs.declared.fault.SessionFault.TheVariants as fault
use Rattle.driven_nodes.specs.Gathered.{Printed}
use Rattle.driven_nodes.specs.Writing.{LeavesLines}
use Rattle.norm_endings.specs.Outside.{Says, refused_line}
use Rattle.norm_endings.specs.Endings.{IsLoading, IsRefusing}
use Rattle.norm_endings.specs.declared.status.Ending.{Ending}
use Rattle.norm_endings.specs.declared.status.Ending.TheVariants.{Done, Memory, Line, Write}
use Rattle.norm_endings.specs.declared.status.ProfileFault.TheVariants.{Members}
use Rattle.norm_program.specs.GatherEnds.{AreLoaded}

-- how the lines end the program, of which this is printed: it was written, and a last line names one that spells no datagram; or a fault
-- left whole lines of it
abbrev pub IsLinesEnding : Ending → Printed → (unwritten written : Pieces) → (before after : ℕ) → Type 0
IsLinesEnding Done printed unwritten written before after =
    (printed.stop ≡ None) × (written ≡ gained unwritten printed.lines) × (after ≡ before)
IsLinesEnding (Line n why) printed unwritten written before after =
    (printed.stop ≡ Some (n, why)) × Says (gained unwritten printed.lines) written before after (refused_line n)
IsLinesEnding Write printed unwritten written before after = LeavesLines fault.Write unwritten written printed.lines × (after ≡ one_more before)
IsLinesEnding Memory printed unwritten written before after = LeavesLines fault.Memory unwritten written printed.lines × (after ≡ before)
IsLinesEnding _ printed unwritten written before after = ⊥

-- how senders that are refused end the program
abbrev pub IsMembersEnding : MultiFault → Ending → (unwritten written : Pieces) → (before after : ℕ) → Type 0
IsMembersEnding multi.Memory ending unwritten written before after = (ending ≡ Memory) × (written ≡ unwritten) × (after ≡ before)
IsMembersEnding why ending unwritten written before after = IsRefusing ending (Members why) unwritten written before after

-- What a load of profiles left of which one could not be loaded: which it is, and how that ends the program.
pub record IsLoadingPair (pairs : List (List ℕ × ℕ)) (ending : Ending) (files : Told) (unwritten written : Pieces)
    (before after faults now : ℕ) : Type 0 where
  pub front : List (List ℕ × ℕ)
  pub list : List (Settings × ℕ)
  pub pair : List ℕ × ℕ
  pub rest : List (List ℕ × ℕ)
  pub all : pairs ≡ front ++ pair ∷ rest
  pub loaded : AreLoaded files front list
  pub loading : IsLoading pair.0 ending files unwritten written before after faults now
