use Rattle.rs_block.proofs.WeightLemmas.{Weighed}
use Rattle.rs_block.proofs.weights.weigh_others.Given as goal

abbrev pub invariant-loop-i : goal.invariant-loop-i
invariant-loop-i l = Weighed l.places l.fn.weights l.i l.weights
