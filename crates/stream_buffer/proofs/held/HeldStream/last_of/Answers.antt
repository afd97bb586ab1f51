use Rattle.std.proofs.Common.{◌≡◌, ◌+◌, ◌-◌, ◌/◌, ◌%◌, ap, sym, subst, ◌∙◌, arith, Some}
use Rattle.fec_plan.specs.Partition.{Cut}
use Rattle.fec_plan.specs.Points.{position}
use Rattle.stream_buffer.specs.StreamState.{StandsFor}
use Rattle.stream_buffer.specs.HeldState.{HeldState}
use Rattle.stream_buffer.proofs.GoingLemmas.{none_last, last_is, last_below}
use Rattle.stream_buffer.proofs.held.HeldStream.last_of.Goals as goal

pub returns-then-segments-eq0 : goal.returns-then-segments-eq0
returns-then-segments-eq0 c = λ p parts more st is. sym (none_last p c.args.index more (sym is ∙ c.if-segments-eq0.true))

pub invariant_of-result : goal.invariant_of-result
invariant_of-result c =
    last_below c.args.segments c.from-b.result c.self.inside.buffer.cut.b (omega (arith, c.from-b.ensures, c.self.invariant.some)) (c.from-b.ensures ∙ c.self.invariant.b)
    (omega (arith, c.requires, ap (λ (v : HeldState). v.buffer.cut.b) c.self.view_is)) c.if-segments-eq0.false

pub returns : goal.returns
returns c = λ p parts more st is.
    let here : StandsFor p parts c.self.inside.buffer = subst (λ (v : HeldState). StandsFor p parts v.buffer) (sym c.self.view_is) st in
    let b : c.from-b.result ≡ p.b = c.from-b.ensures ∙ c.self.invariant.b ∙ ap (λ (k : Cut). k.b) here.cut in
    let n = c.args.segments in
    let next : n ≡ n - 1 + 1 = grows n c.if-segments-eq0.false in
    ap (λ k. Some (position c.args.index ((n - 1) / k) ((n - 1) % k))) b
    ∙ sym (last_is p c.args.index more (n - 1) (omega (arith, b, c.from-b.ensures, c.self.invariant.some)) (sym is ∙ next))
  where
    grows : (n : Rattle.std.specs.Prelude.ℕ) → (n ≡ 0 → ⊥) → n ≡ n - 1 + 1
    grows n some = grind (arith, some)
