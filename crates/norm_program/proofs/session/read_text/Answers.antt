use Rattle.std.proofs.Common.{◌∙◌, sym}
use Rattle.norm_program.proofs.AskedLemmas.{asked_is}
use Rattle.norm_program.proofs.session.read_text.Goals as goal

-- what is read can be run, with the options too
pub returns-in-Ok-Ok-clause-script : goal.returns-in-Ok-Ok-clause-script
returns-in-Ok-Ok-clause-script g c =
    asked_is c.args.options c.args.text.now c.in-Ok-Ok.script c.script_with.result c.requires (sym c.in-Ok-Ok.ensures ∙ c.in-Ok-Ok.field-0-is) c.script_with.ensures
