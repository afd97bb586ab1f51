use Rattle.norm_persist.proofs.Statuses.{statuses_say}
use Rattle.norm_persist.proofs.laws.statuses_say.Goals as goal

pub returns : goal.returns
returns c = statuses_say
