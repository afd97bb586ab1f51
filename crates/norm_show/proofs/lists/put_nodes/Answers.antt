use Rattle.std.proofs.Common.{arith}
use Rattle.std.proofs.lemmas.Grind.{common_steps}
use Rattle.norm_show.proofs.ListLemmas.{nodes_begin}
use Rattle.norm_show.proofs.lists.put_nodes.Goals as goal

pub nodes-init : goal.nodes-init
nodes-init c =
    nodes_begin c.args.line.now c.args.list.now c.number.new.self c.split_at.result.1.now c.read_32.result c.if-list-lt-NODE.false
    (grind (arith, common_steps)) c.read_32.ensures c.split_at.ensures.back
