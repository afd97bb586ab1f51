use Rattle.norm_journal.proofs.ScriptLemmas.{scripts_named}
use Rattle.norm_journal.proofs.laws.scripts_name_once.Goals as goal

pub returns : goal.returns
returns c = scripts_named
