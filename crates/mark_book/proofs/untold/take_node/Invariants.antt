use Rattle.std.proofs.Common.{◌≡◌, ◌++◌, take, drop}
use Rattle.std.specs.Prelude.{◌==◌, not, filter}
use Rattle.mark_book.proofs.untold.take_node.Given as goal

abbrev pub invariant-loop-place : goal.invariant-loop-place
invariant-loop-place l =
    take l.place l.other-items ++ filter (λ other. not (other == l.node)) (drop l.place l.other-items) ≡ filter (λ other. not (other == l.node)) l.other-items
