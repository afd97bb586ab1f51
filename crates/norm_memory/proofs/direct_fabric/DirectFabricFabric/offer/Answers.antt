use Rattle.std.proofs.Common.{◌≡◌, ◌∙◌, ap, subst, sym}
use Rattle.norm_memory.specs.Fates.{once, plan_by}
use Rattle.norm_memory.specs.Direct.{direct_offer, KeepsCopies}
use Rattle.norm_memory.specs.Networks.{after_offer}
use Rattle.norm_memory.proofs.DirectLemmas.{keeps_offered}
use Rattle.norm_memory.proofs.direct_fabric.DirectFabricFabric.offer.Goals as goal

pub invariant_of-self-2 : goal.invariant_of-self-2
invariant_of-self-2 c =
    let is : c.offer.new.self ≡ direct_offer c.self.inside.network c.args.from c.args.bytes.now =
    c.in_ok-offer.ensures.ok
    ∙ ap (after_offer c.self.inside.network c.args.from c.args.bytes.now)
    (c.deref.ensures.value ∙ c.in_ok-plan.ensures.plan ∙ ap (plan_by (λ to. once) c.args.from) c.members.ensures) in
    subst KeepsCopies (sym is) (keeps_offered c.self.inside.network c.args.from c.args.bytes.now c.self.invariant)
