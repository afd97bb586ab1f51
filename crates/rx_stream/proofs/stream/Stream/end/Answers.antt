use Rattle.std.proofs.Common.{◌≡◌, ◌+◌, sym, ap, subst, ◌∙◌, arith, Some, None}
use Rattle.fec_plan.specs.Partition.{Cut}
use Rattle.fec_plan.specs.Points.{position}
use Rattle.norm_receive_rules.specs.StreamNeeds.{end_of}
use Rattle.rx_stream.specs.BlockState.{BlockState, empty_block, end_in_block}
use Rattle.rx_stream.specs.StreamState.{StreamState, alone}
use Rattle.rx_stream.proofs.EndLemmas.{end_is, end_named, first_at, first_none, none_more}
use Rattle.rx_stream.proofs.stream.Stream.end.Goals as goal

pub loop-place-init : goal.loop-place-init
loop-place-init c = λ i d lt. absurd (omega (arith, lt))

pub loop-place-preserved : goal.loop-place-preserved
loop-place-preserved c =
    none_more c.self.inside.fti.e c.loop-place.place c.self.inside.ring.items c.index.result.now c.loop-place.invariant c.index.ensures (omega (arith, c.loop-place-test.true, c.len-place-end.ensures))
    (ap (λ n. end_in_block n c.index.result.now) (sym (c.e.ensures.exact ∙ ap (λ (x : Cut). x.e) c.self.invariant.sound.cut_is)) ∙ sym c.end.ensures ∙ c.in_default.is)

pub overflow_cast-result : goal.overflow_cast-result
overflow_cast-result c =
    let lt =
    end_named c.self.inside.index c.self.inside.first c.self.inside.fti.b (c.self.inside.fti.e + 8) c.self.inside.fti.e c.loop-place.place c.in-Some.symbol c.self.inside.ring.items c.index.result.now c.self.invariant.sound.named c.self.invariant.sound.blocks
    (let n = c.self.invariant.sound.next in omega (arith, n)) (omega (arith, c.loop-place-test.true, c.len-place-end.ensures)) c.index.ensures
    (ap (λ n. end_in_block n c.index.result.now) (sym (c.e.ensures.exact ∙ ap (λ (x : Cut). x.e) c.self.invariant.sound.cut_is)) ∙ sym c.end.ensures ∙ c.in-Some.is) in
    omega (arith, lt)

pub overflow_add-result : goal.overflow_add-result
overflow_add-result c =
    let lt =
    end_named c.self.inside.index c.self.inside.first c.self.inside.fti.b (c.self.inside.fti.e + 8) c.self.inside.fti.e c.loop-place.place c.in-Some.symbol c.self.inside.ring.items c.index.result.now c.self.invariant.sound.named c.self.invariant.sound.blocks
    (let n = c.self.invariant.sound.next in omega (arith, n)) (omega (arith, c.loop-place-test.true, c.len-place-end.ensures)) c.index.ensures
    (ap (λ n. end_in_block n c.index.result.now) (sym (c.e.ensures.exact ∙ ap (λ (x : Cut). x.e) c.self.invariant.sound.cut_is)) ∙ sym c.end.ensures ∙ c.in-Some.is) in
    omega (arith, lt)

pub invariant_of-result : goal.invariant_of-result
invariant_of-result c =
    end_named c.self.inside.index c.self.inside.first c.self.inside.fti.b (c.self.inside.fti.e + 8) c.self.inside.fti.e c.loop-place.place c.in-Some.symbol c.self.inside.ring.items c.index.result.now c.self.invariant.sound.named c.self.invariant.sound.blocks
    (let n = c.self.invariant.sound.next in omega (arith, n)) (omega (arith, c.loop-place-test.true, c.len-place-end.ensures)) c.index.ensures
    (ap (λ n. end_in_block n c.index.result.now) (sym (c.e.ensures.exact ∙ ap (λ (x : Cut). x.e) c.self.invariant.sound.cut_is)) ∙ sym c.end.ensures ∙ c.in-Some.is)

pub returns-in-Some : goal.returns-in-Some
returns-in-Some c = λ p same.
    subst (λ (o : StreamState). p.e ≡ o.plan.fti.e → Some (position o.plan.index (c.self.inside.first + c.loop-place.place) c.in-Some.symbol) ≡ end_of p (alone o) o.plan) c.self.view_is
    (λ e. sym (end_is p (record { index = c.self.inside.index; fti = c.self.inside.fti; flags = c.self.inside.flags; seen = c.self.inside.seen }) c.self.inside.info c.self.inside.first c.self.inside.symbol c.self.inside.ring.items c.index.result.now c.self.invariant.sound.stream c.self.invariant.sound.blocks (let n = c.self.invariant.sound.next in omega (arith, n)) e
    ∙ first_at c.self.inside.fti.e c.self.inside.index c.self.inside.first c.loop-place.place c.in-Some.symbol c.self.inside.ring.items c.index.result.now (omega (arith, c.loop-place-test.true, c.len-place-end.ensures))
    (ap (λ (b : BlockState). end_in_block c.self.inside.fti.e b) (sym c.index.ensures) ∙ (ap (λ n. end_in_block n c.index.result.now) (sym (c.e.ensures.exact ∙ ap (λ (x : Cut). x.e) c.self.invariant.sound.cut_is)) ∙ sym c.end.ensures ∙ c.in-Some.is))
    (λ j below. c.loop-place.invariant j c.index.result.now below)))
    same

pub returns : goal.returns
returns c = λ p same.
    subst (λ (o : StreamState). p.e ≡ o.plan.fti.e → None ≡ end_of p (alone o) o.plan) c.self.view_is
    (λ e. sym (end_is p (record { index = c.self.inside.index; fti = c.self.inside.fti; flags = c.self.inside.flags; seen = c.self.inside.seen }) c.self.inside.info c.self.inside.first c.self.inside.symbol c.self.inside.ring.items (empty_block 1 8) c.self.invariant.sound.stream c.self.invariant.sound.blocks (let n = c.self.invariant.sound.next in omega (arith, n)) e
    ∙ first_none c.self.inside.fti.e c.self.inside.index c.self.inside.first c.self.inside.ring.items (empty_block 1 8) (λ j below. c.loop-place.invariant j (empty_block 1 8) (omega (arith, below, c.loop-place-test.false, c.len-place-end.ensures)))))
    same
