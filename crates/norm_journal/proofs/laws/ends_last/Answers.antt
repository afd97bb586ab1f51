use Rattle.norm_journal.proofs.EndLemmas.{ends_last}
use Rattle.norm_journal.proofs.laws.ends_last.Goals as goal

pub returns : goal.returns
returns c = ends_last
