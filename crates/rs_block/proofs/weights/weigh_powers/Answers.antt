use Rattle.std.proofs.Common.{◌≡◌, ◌∙◌, arith, sym, subst, ◌-◌, get_or, length}
use Rattle.std.proofs.Math.ListN.{length-set}
use Rattle.gf_field.specs.Power.{power, powers}
use Rattle.rs_block.specs.Points.{IsWeight}
use Rattle.rs_block.proofs.WeightLemmas.{next_weight_at, weight_set}
use Rattle.rs_block.proofs.weights.weigh_powers.Goals as goal

pub loop-i-preserved : goal.loop-i-preserved
loop-i-preserved c =
    let long : length c.loop-i.weights ≡ length c.args.weights.now = c.loop-i.auto.weights ∙ simp length-set in
    weight_set (length c.args.weights.now) c.loop-i.weights c.loop-i.i c.from-place.result c.next_weight.result c.from-place.ensures (omega arith)
    (next_weight_at (length c.args.weights.now) c.loop-i.i (get_or c.loop-i.weights (c.from-place.result - 1) 0) c.next_weight.result
    c.loop-i.auto.i (omega arith) c.requires.few c.next_weight.ensures
    (subst (λ p. IsWeight (powers (length c.args.weights.now)) (power (c.loop-i.i - 1)) (get_or c.loop-i.weights (p - 1) 0)) (sym c.from-place.ensures)
    (c.loop-i.invariant (c.loop-i.i - 1) (omega (arith, c.loop-i.auto.i)))))
    c.loop-i.invariant
