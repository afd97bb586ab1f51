use Rattle.std.proofs.Common.{sym, subst, arith}
use Rattle.std.specs.Prelude.{nat_lt}
use Rattle.std.proofs.lemmas.Bool.{lt-ltb, le-ltb}
use Rattle.fec_plan.specs.Points.{Position, position}
use Rattle.norm_order.specs.Shapes.{shape_of}
use Rattle.tx_window.specs.EntryAsked.{IsNext}
use Rattle.tx_window.specs.EntryState.{first_of}
use Rattle.tx_window.specs.Asked.{later_of}
use Rattle.tx_window.proofs.KeptLemmas.{chosen, passed_over}
use Rattle.tx_window.proofs.window.next_of.Goals as goal

pub returns-then-from-first_block-clause-next : goal.returns-then-from-first_block-clause-next
returns-then-from-first_block-clause-next c = λ r is auto.
    let first = first_of c.args.entry.now in
    let from = position c.from.inside.index c.from.inside.block c.from.inside.symbol in
    subst (λ (x : Position). IsNext r.p (shape_of r.p r.object) (later_of x first) c.first_in.result) c.from.view_is
    (subst (λ (x : Position). IsNext r.p (shape_of r.p r.object) x c.first_in.result)
    (sym (chosen (nat_lt from.block first) (position from.index first 0) from (lt-ltb from.block first (omega (arith, c.if-from-first_block.true, c.first_block.ensures)))))
    (c.first_in.ensures.next r is auto))

pub returns-clause-next : goal.returns-clause-next
returns-clause-next c = λ r is auto.
    let first = first_of c.args.entry.now in
    let from = position c.from.inside.index c.from.inside.block c.from.inside.symbol in
    subst (λ (x : Position). IsNext r.p (shape_of r.p r.object) (later_of x first) c.next_in.result) c.from.view_is
    (subst (λ (x : Position). IsNext r.p (shape_of r.p r.object) x c.next_in.result)
    (sym (passed_over (nat_lt from.block first) (position from.index first 0) from (le-ltb from.block first (omega (arith, c.if-from-first_block.false, c.first_block.ensures)))))
    (subst (λ (x : Position). IsNext r.p (shape_of r.p r.object) x c.next_in.result) (sym c.from.view_is) (c.next_in.ensures.next r is auto)))
