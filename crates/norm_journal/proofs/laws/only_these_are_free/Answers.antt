use Rattle.norm_journal.proofs.FreeLemmas.{only_these_are_free}
use Rattle.norm_journal.proofs.laws.only_these_are_free.Goals as goal

pub returns : goal.returns
returns c = only_these_are_free
