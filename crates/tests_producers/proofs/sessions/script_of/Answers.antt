use Rattle.std.proofs.Common.{◌∙◌, sym}
use Rattle.norm_session.proofs.ScriptLemmas.{runnable}
use Rattle.tests_producers.proofs.sessions.script_of.Goals as goal

-- what is read can be run
pub returns-in-Ok-Ok : goal.returns-in-Ok-Ok
returns-in-Ok-Ok c = runnable c.args.text.now c.in-Ok-Ok.script (sym c.in-Ok-Ok.ensures ∙ c.in-Ok-Ok.field-0-is)
