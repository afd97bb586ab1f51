use Rattle.std.proofs.Common.{arith, ap, sym, subst, ◌∙◌, ◌+◌, get_or}
use Rattle.gf_field.specs.Power.{power}
use Rattle.rs_block.proofs.WeightLemmas.{Weighed, weight_from_one, weighed_other}
use Rattle.rs_block.proofs.weights.weigh_others.Goals as goal
use Rattle.rs_block.proofs.weights.weigh_others.Goals.{then-from-i, else-from-i}

pub loop-i-preserved : goal.loop-i-preserved
loop-i-preserved c = elim c.if-from-i.branch [
  | then-from-i w ↦ subst (Weighed c.args.places.now c.args.weights.now (c.loop-i.i + 1)) (sym w.weights-is)
      (weighed_other c.args.places.now c.args.weights.now c.loop-i.i c.loop-i.weights w.weight_log.result (omega arith) w.weight_log.ensures c.loop-i.invariant)
  | else-from-i w ↦ subst (Weighed c.args.places.now c.args.weights.now (c.loop-i.i + 1)) (sym w.weights-is)
      (weighed_other c.args.places.now c.args.weights.now c.loop-i.i c.loop-i.weights (get_or c.loop-i.weights c.loop-i.i 0) (omega arith)
      (ap power (c.loop-i.invariant.rest c.loop-i.i (omega arith))
      ∙ weight_from_one c.args.places.now (get_or c.args.places.now c.loop-i.i 0) (get_or c.args.weights.now c.loop-i.i 0)
      (c.requires.own c.loop-i.i (omega arith) (sym c.from.ensures ∙ w.if-from-i.false))) c.loop-i.invariant)
]
