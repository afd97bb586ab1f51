-- What a fault leaves of a line.
use Rattle.std.specs.Prelude.{◌≡◌, ℕ, List, Option, Some}
use Rattle.norm_base.specs.Told.{Pieces, GainsFront}
use Rattle.norm_turns.specs.declared.fault.SessionFault.{SessionFault}
use Rattle.norm_turns.specs.declared.fault.SessionFault.TheVariants as fault

-- What a fault leaves of the line of an event: a front of it where its write failed, and else nothing.
abbrev pub IsUnwritten : SessionFault → (unwritten written : Pieces) → Option (List ℕ) → Type 0
IsUnwritten fault.Write unwritten written line = (octets : List ℕ) × (line ≡ Some octets) × GainsFront unwritten written octets
IsUnwritten fault.Memory unwritten written line = written ≡ unwritten
IsUnwritten _ unwritten written line = ⊥
