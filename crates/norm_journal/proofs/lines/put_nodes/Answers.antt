use Rattle.std.proofs.Common.{arith}
use Rattle.std.proofs.lemmas.Grind.{common_steps}
use Rattle.norm_text.proofs.WordLemmas.{one_more_number}
use Rattle.norm_journal.proofs.lines.put_nodes.Goals as goal

pub loop-node-preserved : goal.loop-node-preserved
loop-node-preserved c =
    one_more_number 32 c.args.text.now c.loop-node.text c.put_node.new.text c.args.nodes.now c.loop-node.node-index
    (grind (arith, common_steps)) c.loop-node.invariant (grind (arith, common_steps))
