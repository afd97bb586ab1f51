use Rattle.std.proofs.Common.{◌≡◌, eqb}
use Rattle.std.specs.List.{list_any}
use Rattle.norm_ext.specs.Lists.{nodes_of}
use Rattle.norm_cmdmsg.proofs.lists.names.Given as goal

abbrev pub invariant-loop-number : goal.invariant-loop-number
invariant-loop-number l =
    (goal.iterator-loop-number).can_next l.number-iterator × (goal.iterator-loop-number).is_finite l.number-iterator
    × (list_any (λ n. eqb n l.fn.node) l.number-iterator ≡ list_any (λ n. eqb n l.fn.node) (nodes_of l.list))
