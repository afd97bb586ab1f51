use Rattle.std.proofs.Common.{◌≡◌, take}
use Rattle.norm_text.specs.Words.{with_words}
use Rattle.norm_journal.specs.Words.{node_words}
use Rattle.norm_journal.proofs.lines.put_nodes.Given as goal

-- the words of the nodes so far
abbrev pub invariant-loop-node : goal.invariant-loop-node
invariant-loop-node l = l.text ≡ with_words l.fn.text (node_words (take l.node-index l.nodes))
