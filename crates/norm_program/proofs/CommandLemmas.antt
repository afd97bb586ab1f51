-- What is read for a sender can be run.
use Rattle.std.proofs.Common.{◌≡◌, List, ℕ, Ok}
use Rattle.std.proofs.lemmas.Result.{IfOk-at_ok}
use Rattle.norm_base.specs.Settings.{Settings, InRange}
use Rattle.norm_script.specs.Commands.{Commands}
use Rattle.norm_script.specs.Reading.{commands_of}
use Rattle.norm_script.specs.Scripts.{IsScript, CanRun}
use Rattle.norm_script.specs.Text.{text_lines}
use Rattle.norm_script.proofs.RunLemmas.{can_run}
use Rattle.norm_script.proofs.TakingLemmas.{commands-sound}

pub commands_runnable : (p : Settings) (text : List ℕ) (script : Commands) → InRange p → commands_of p text ≡ Ok script → CanRun script
commands_runnable p text script range is = can_run script (IfOk-at_ok IsScript is (commands-sound p 1 (text_lines text) range))
