use Rattle.std.proofs.Common.{◌≡◌, Ok, sym, ◌∙◌}
use Rattle.norm_script.specs.Reading.{commands_of}
use Rattle.norm_program.proofs.CommandLemmas.{commands_runnable}
use Rattle.norm_program.proofs.commands.commands_in.Goals as goal

-- what is read can be run
pub returns-in-Ok-clause-script : goal.returns-in-Ok-clause-script
returns-in-Ok-clause-script c =
    let is : commands_of c.args.profile.now c.args.text.now ≡ Ok c.in-Ok.script = sym c.in_ok-read.ensures ∙ c.in-Ok.is in
    (is, commands_runnable c.args.profile.now c.args.text.now c.in-Ok.script c.is_in_range.ensures is)
