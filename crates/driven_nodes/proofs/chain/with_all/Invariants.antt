use Rattle.std.proofs.Common.{◌≡◌, take, fold}
use Rattle.driven_nodes.specs.Chaining.{with_waiting}
use Rattle.driven_nodes.proofs.chain.with_all.Given as goal

abbrev pub invariant-loop-first : goal.invariant-loop-first
invariant-loop-first l = l.lost ≡ fold (with_waiting l.instance) l.initial.lost (take l.first-index l.waiting)
