use Rattle.std.proofs.Common.{◌≡◌, ◌++◌, take, drop}
use Rattle.std.specs.Prelude.{nat_lt}
use Rattle.norm_order.specs.Sets.{with_member}
use Rattle.mark_book.proofs.untold.put_node.Given as goal

abbrev pub invariant-loop-place : goal.invariant-loop-place
invariant-loop-place l = take l.place l.other-items ++ with_member nat_lt l.node (drop l.place l.other-items) ≡ with_member nat_lt l.node l.other-items
