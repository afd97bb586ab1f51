use Rattle.norm_journal.proofs.SaidLemmas.{lines_read_back}
use Rattle.norm_journal.proofs.laws.lines_read_back.Goals as goal

pub returns : goal.returns
returns c = lines_read_back
