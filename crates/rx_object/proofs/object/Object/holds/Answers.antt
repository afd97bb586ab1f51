use Rattle.std.proofs.Common.{◌≡◌, ◌<◌, ◌≤◌, ◌⊎◌, inl, inr, sym, subst, ◌∙◌, false, arith}
use Rattle.fec_plan.specs.Points.{position}
use Rattle.norm_receive_rules.specs.Plans.{holds}
use Rattle.rx_object.specs.ObjectState.{ObjectState, alone}
use Rattle.rx_object.proofs.ObjectLemmas.{object_holds, holds_none, holds_nothing}
use Rattle.rx_object.proofs.object.Object.holds.Goals as goal

pub returns-then-block-blocks : goal.returns-then-block-blocks
returns-then-block-blocks c = go c.then-block-blocks.either
  where
    go : (c.blocks-2.result ≤ c.args.block) ⊎ ((c.args.block < c.blocks-2.result) × (c.args.symbol ≡ 255)) → false ≡ holds (alone c.args.self.now) (position c.args.self.now.plan.index c.args.block c.args.symbol)
    go (inl le) =
        subst (λ (o : ObjectState). false ≡ holds (alone o) (position o.plan.index c.args.block c.args.symbol)) c.self.view_is
        (sym (holds_nothing c.self.inside c.args.block c.args.symbol (let n = c.blocks-2.ensures.exact in omega (arith, n, le))))
    go (inr both) =
        subst (λ (o : ObjectState). false ≡ holds (alone o) (position o.plan.index c.args.block c.args.symbol)) c.self.view_is
        (sym (holds_none c.self.inside c.args.block c.args.symbol (let e = both.1 in omega (arith, e))))

pub holds-requires-clause-id : goal.holds-requires-clause-id
holds-requires-clause-id c =
    let byte = c.ranges.symbol in
    let fits = byte.fits in
    let other = c.if-symbol-eq-FREE.false in
    omega (arith, fits, other)

pub returns : goal.returns
returns c =
    let byte = c.ranges.symbol in
    let fits = byte.fits in
    let n = c.blocks-2.ensures.exact in
    let lt = c.if-block-blocks.false in
    let other = c.if-symbol-eq-FREE.false in
    subst (λ (o : ObjectState). c.holds.result ≡ holds (alone o) (position o.plan.index c.args.block c.args.symbol)) c.self.view_is
    (c.holds.ensures ∙ sym (object_holds c.self.inside c.args.block c.args.symbol (omega (arith, n, lt)) (omega (arith, fits, other))))
