-- A file that a hand-up puts, where that fails.
use Rattle.std.specs.Prelude.{ℕ, ◌≡◌, List, Option, None, Some}
use Rattle.norm_base.specs.Contents.{ChangesOnly}
use Rattle.norm_journal.specs.Jobs.{Told}
use Rattle.norm_turns.specs.declared.fault.SessionFault.{SessionFault}
use Rattle.norm_turns.specs.declared.fault.SessionFault.TheVariants as fault

-- the put failed of a file: all others have what they had
abbrev pub OthersStay : Option (List ℕ × List ℕ) → (before after : Told) → Type 0
OthersStay (Some file) before after = ChangesOnly before after file.0
OthersStay None before after = ⊥

-- What is left where a file was not put: the call failed, or there was no memory for its name.
abbrev pub IsFailedPut : SessionFault → Option (List ℕ × List ℕ) → (before after : Told) → Type 0
IsFailedPut fault.Files file before after = OthersStay file before after
IsFailedPut fault.Memory file before after = after ≡ before
IsFailedPut _ file before after = ⊥
