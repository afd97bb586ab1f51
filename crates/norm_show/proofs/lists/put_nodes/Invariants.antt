use Rattle.std.proofs.Common.{◌≡◌, length, map}
use Rattle.std.specs.Fmt.{decimal}
use Rattle.norm_ext.specs.Lists.{nodes_of}
use Rattle.norm_text.specs.Words.{with_pieces, with_word, numbers_word}
use Rattle.norm_show.proofs.lists.put_nodes.Given as goal

abbrev pub invariant-nodes : goal.invariant-nodes
invariant-nodes l = with_pieces 44 l.line (map decimal (nodes_of l.rest)) ≡ with_word l.fn.line (numbers_word (nodes_of l.fn.list))

abbrev pub decreases-nodes : goal.decreases-nodes
decreases-nodes l = length l.rest
