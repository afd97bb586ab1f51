-- Scripts that were read.
use Rattle.std.proofs.Common.{◌≡◌, ℕ, List, Ok}
use Rattle.std.proofs.lemmas.Result.{IfOk-at_ok}
use Rattle.norm_script.specs.Commands.{Commands}
use Rattle.norm_script.specs.Reading.{script_of}
use Rattle.norm_script.specs.Scripts.{IsScript, CanRun}
use Rattle.norm_script.proofs.RunLemmas.{can_run}
use Rattle.norm_script.proofs.TakingLemmas.{script-sound}

-- What is read can be run.
pub runnable : (text : List ℕ) (script : Commands) → script_of text ≡ Ok script → CanRun script
runnable text script is = can_run script (IfOk-at_ok IsScript is (script-sound text))
