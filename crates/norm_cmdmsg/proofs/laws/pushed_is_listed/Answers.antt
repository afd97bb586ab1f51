use Rattle.norm_cmdmsg.proofs.Listed.{pushed_is_listed_law}
use Rattle.norm_cmdmsg.proofs.laws.pushed_is_listed.Goals as goal

pub returns : goal.returns
returns c = pushed_is_listed_law
