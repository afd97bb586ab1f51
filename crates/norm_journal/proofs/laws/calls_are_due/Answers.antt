use Rattle.norm_journal.proofs.CallLemmas.{calls_are_due}
use Rattle.norm_journal.proofs.laws.calls_are_due.Goals as goal

pub returns : goal.returns
returns c = calls_are_due
