use Rattle.std.specs.Prelude.{◌≡◌, ℕ, Option, Some, Result}
use Rattle.std.specs.Option.{option_map}
use Rattle.std.specs.Result.{result_err}
use Rattle.norm_script.specs.Commands.{Commands}
use Rattle.norm_script.specs.declared.refusal.Refusal.{Refusal}
use Rattle.norm_script.specs.declared.refusal.ScriptFault.{ScriptFault}
use Rattle.norm_script.specs.declared.refusal.ScriptFault.TheVariants as fault

-- What a fault says of a script.

-- the number of the first line without meaning
abbrev pub refused_number : Result Commands Refusal → Option ℕ
refused_number said = option_map (λ r. r.line) (result_err said)

-- the line that a fault names is the first without meaning; want of memory says nothing
abbrev pub IsRefused : Result Commands Refusal → ScriptFault → Type 0
IsRefused said (fault.Line n) = refused_number said ≡ Some n
IsRefused said fault.Memory = Unit {0}
