use Rattle.std.proofs.Common.{List, ℕ, ◌++◌, ◌+◌, take, drop, add-one, ap, sym, subst, ◌∙◌}
use Rattle.std.specs.Prelude.{◌==◌, not, filter}
use Rattle.std.proofs.lemmas.Bool.{eqb-true, eq-eqb, false≢true}
use Rattle.norm_order.specs.Sets.{Rises}
use Rattle.mark_book.proofs.Nodes.{taken_here, taken_on, taken_none}
use Rattle.mark_book.proofs.untold.take_node.Goals as goal

pub returns-then-eq-clause-nodes : goal.returns-then-eq-clause-nodes
returns-then-eq-clause-nodes c =
    let value = c.deref-other-items.ensures.value in
    let same = eqb-true c.args.node c.other-item.result (sym c.if-eq.ensures) in
    c.remove.ensures.items ∙ ap (λ n. take c.loop-place.place c.args.nodes.now.items ++ drop n c.args.nodes.now.items) (sym (add-one c.loop-place.place))
    ∙ ap (λ (xs : List ℕ). take c.loop-place.place xs ++ drop (c.loop-place.place + 1) xs) (sym value)
    ∙ taken_here c.args.node c.deref-other-items.result.now c.loop-place.place c.other-item.result c.loop-place-test.true c.other-item.is same
    (subst Rises (sym value) c.requires) c.loop-place.invariant
    ∙ ap (filter (λ other. not (other == c.args.node))) value

pub loop-place-preserved : goal.loop-place-preserved
loop-place-preserved c =
    taken_on c.args.node c.deref-other-items.result.now c.loop-place.place c.other-item.result c.loop-place-test.true c.other-item.is
    (λ same. false≢true (sym (sym c.eq.ensures ∙ c.if-eq.false) ∙ eq-eqb c.args.node c.other-item.result same)) c.loop-place.invariant

pub returns-clause-nodes : goal.returns-clause-nodes
returns-clause-nodes c =
    let value = c.deref-other-items.ensures.value in
    sym value ∙ taken_none c.args.node c.deref-other-items.result.now c.loop-place.place c.loop-place-test.false c.loop-place.invariant
    ∙ ap (filter (λ other. not (other == c.args.node))) value
