use Rattle.std.proofs.Common.{arith, sym, subst, ◌∙◌, ◌+◌}
use Rattle.rs_block.proofs.WeightLemmas.{AreMixed, away_new, away_old, mixed_begins, mixed_ends, mixed_more, mixed_same}
use Rattle.rs_block.proofs.weights.weigh_own.Goals as goal
use Rattle.rs_block.proofs.weights.weigh_own.Goals.{then-from-d, else-from-d}

pub loop-d-init : goal.loop-d-init
loop-d-init c = mixed_begins c.args.ids.now c.args.places.now c.args.weights.now c.requires.places c.requires.powers

pub exchange-requires-clause-old : goal.exchange-requires-clause-old
exchange-requires-clause-old c = λ i lt own same.
    away_old c.args.ids.now c.args.places.now c.loop-d.d i c.requires.places c.requires.few (omega arith)
    (λ e. c.if-from-d.true (c.from.ensures ∙ e)) lt own (same ∙ c.place_of.ensures)

pub exchange-requires-clause-new : goal.exchange-requires-clause-new
exchange-requires-clause-new c = λ i lt own same.
    away_new c.args.ids.now c.args.places.now c.loop-d.d i c.requires.places c.requires.ids c.requires.few (omega arith)
    (λ e. c.if-from-d.true (c.from.ensures ∙ e)) lt own (same ∙ c.place_of-then-from-d.ensures)

pub loop-d-preserved : goal.loop-d-preserved
loop-d-preserved c = elim c.if-from-d.branch [
  | then-from-d w ↦ subst (λ ws. AreMixed c.args.ids.now c.args.places.now ws (c.loop-d.d + 1)) (sym w.weights-is)
      (mixed_more c.args.ids.now c.args.places.now c.loop-d.weights w.exchange.new.weights c.loop-d.d w.place_of.result w.place_of-then-from-d.result
      c.requires.places c.requires.ids c.requires.few (omega arith) (λ e. w.if-from-d.true (c.from.ensures ∙ e))
      w.place_of.ensures w.place_of-then-from-d.ensures w.exchange.ensures c.loop-d.invariant)
  | else-from-d w ↦ subst (λ ws. AreMixed c.args.ids.now c.args.places.now ws (c.loop-d.d + 1)) (sym w.weights-is)
      (mixed_same c.args.ids.now c.args.places.now c.loop-d.weights c.loop-d.d c.requires.places (omega arith) (sym c.from.ensures ∙ w.if-from-d.false) c.loop-d.invariant)
]

pub returns : goal.returns
returns c = λ i lt own. mixed_ends c.args.ids.now c.args.places.now c.loop-d.weights c.loop-d.d i c.requires.places c.loop-d-test.false c.loop-d.invariant lt own
