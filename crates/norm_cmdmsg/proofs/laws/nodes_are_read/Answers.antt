use Rattle.norm_cmdmsg.proofs.Listed.{nodes_are_read_law}
use Rattle.norm_cmdmsg.proofs.laws.nodes_are_read.Goals as goal

pub returns : goal.returns
returns c = nodes_are_read_law
