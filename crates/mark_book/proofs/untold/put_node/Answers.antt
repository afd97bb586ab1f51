use Rattle.std.proofs.Common.{◌≡◌, ◌≤◌, ap, sym, ◌∙◌, arith, length, List, [], ◌∷◌, ◌++◌, ℕ}
use Rattle.std.specs.Prelude.{nat_lt, insert}
use Rattle.std.proofs.lemmas.Bool.{eqb-true}
use Rattle.norm_order.specs.Sets.{with_member}
use Rattle.mark_book.proofs.Nodes.{lower_where, higher_where, put_on, put_same, put_here, put_last, one_longer, edited}
use Rattle.std.proofs.lemmas.List.{length_push}
use Rattle.mark_book.proofs.untold.put_node.Goals as goal

pub returns-then-eq-clause-nodes : goal.returns-then-eq-clause-nodes
returns-then-eq-clause-nodes c =
    let same = eqb-true c.args.node c.other-item.result (sym c.if-eq.ensures) in
    let e = put_same c.args.node c.deref-other-items.result.now c.loop-place.place c.other-item.result c.loop-place-test.true c.other-item.is same in
    sym c.deref-other-items.ensures.value ∙ sym e ∙ c.loop-place.invariant ∙ ap (with_member nat_lt c.args.node) c.deref-other-items.ensures.value

pub unwrap-requires : goal.unwrap-requires
unwrap-requires c =
    let lower = lower_where c.args.node c.other-item.result c.lt.result c.lt.ensures c.if-lt.true in
    let e = put_here c.args.node c.deref-other-items.result.now c.loop-place.place c.other-item.result c.loop-place-test.true c.other-item.is lower in
    let w = sym e ∙ c.loop-place.invariant ∙ ap (with_member nat_lt c.args.node) c.deref-other-items.ensures.value in
    let long = one_longer c.args.node c.deref-other-items.result.now c.loop-place.place (omega arith) in
    let room : length (with_member nat_lt c.args.node c.args.nodes.now.items) ≤ c.args.nodes.now.cap = c.requires in
    let same_length = ap length w in
    let len : length c.deref-other-items.result.now ≡ c.args.nodes.now.len = c.deref-other-items.ensures.len in
    c.insert.ensures.succeeds (omega (arith, long, same_length, room, len))

pub returns-then-lt-clause-nodes : goal.returns-then-lt-clause-nodes
returns-then-lt-clause-nodes c =
    let lower = lower_where c.args.node c.other-item.result c.lt.result c.lt.ensures c.if-lt.true in
    let e = put_here c.args.node c.deref-other-items.result.now c.loop-place.place c.other-item.result c.loop-place-test.true c.other-item.is lower in
    let value = c.deref-other-items.ensures.value in
    edited _ _ _ _ _ c.insert.ensures.items c.unwrap.ensures
    ∙ sym (ap (λ (xs : List ℕ). insert xs c.loop-place.place c.args.node) value)
    ∙ sym e ∙ c.loop-place.invariant ∙ ap (with_member nat_lt c.args.node) value

pub loop-place-preserved : goal.loop-place-preserved
loop-place-preserved c =
    let higher = higher_where c.args.node c.other-item.result c.lt.result c.eq.result c.lt.ensures c.if-lt.false c.eq.ensures c.if-eq.false in
    sym (put_on c.args.node c.deref-other-items.result.now c.loop-place.place c.other-item.result c.loop-place-test.true c.other-item.is higher)
    ∙ c.loop-place.invariant

pub unwrap-requires-2 : goal.unwrap-requires-2
unwrap-requires-2 c =
    let e = put_last c.args.node c.deref-other-items.result.now c.loop-place.place c.loop-place-test.false in
    let w = sym e ∙ c.loop-place.invariant ∙ ap (with_member nat_lt c.args.node) c.deref-other-items.ensures.value in
    let room : length (with_member nat_lt c.args.node c.args.nodes.now.items) ≤ c.args.nodes.now.cap = c.requires in
    let same_length = ap length w in
    let long = length_push c.deref-other-items.result.now c.args.node in
    let len : length c.deref-other-items.result.now ≡ c.args.nodes.now.len = c.deref-other-items.ensures.len in
    c.push.ensures.succeeds (omega (arith, long, same_length, room, len))

pub returns-clause-nodes : goal.returns-clause-nodes
returns-clause-nodes c =
    let e = put_last c.args.node c.deref-other-items.result.now c.loop-place.place c.loop-place-test.false in
    let value = c.deref-other-items.ensures.value in
    edited _ _ _ _ _ c.push.ensures.items c.unwrap-2.ensures
    ∙ sym (ap (λ (xs : List ℕ). xs ++ c.args.node ∷ []) value)
    ∙ sym e ∙ c.loop-place.invariant ∙ ap (with_member nat_lt c.args.node) value
