use Rattle.norm_folder.proofs.MirroredLemmas.{changes_are_refused}
use Rattle.norm_folder.proofs.laws.changes_are_refused.Goals as goal

pub returns : goal.returns
returns c = changes_are_refused
