use Rattle.rs_block.proofs.WeightLemmas.{AreMixed}
use Rattle.rs_block.proofs.weights.weigh_own.Given as goal

abbrev pub invariant-loop-d : goal.invariant-loop-d
invariant-loop-d l = AreMixed l.ids l.places l.weights l.d
