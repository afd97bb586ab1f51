use Rattle.std.proofs.Common.{◌≡◌, sym, subst, ◌∙◌, false, arith}
use Rattle.std.proofs.lemmas.Bool.{le-ltb}
use Rattle.norm_receive_rules.specs.Plans.{is_done}
use Rattle.rx_object.specs.ObjectState.{ObjectState, alone}
use Rattle.rx_object.proofs.ObjectLemmas.{never_done}
use Rattle.rx_object.proofs.object.Object.is_done.Goals as goal

pub returns-else-block-blocks : goal.returns-else-block-blocks
returns-else-block-blocks c =
    le-ltb c.args.block c.blocks-2.result c.if-block-blocks.false
    ∙ subst (λ (o : ObjectState). false ≡ is_done (alone o) o.plan c.args.block) c.self.view_is
    (sym (never_done c.self.inside c.args.block c.self.invariant (let n = c.blocks-2.ensures.exact in let t = c.if-block-blocks.false in omega (arith, n, t))))
