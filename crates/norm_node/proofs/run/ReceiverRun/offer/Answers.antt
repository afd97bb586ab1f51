use Rattle.std.proofs.Common.{◌∙◌, ap}
use Rattle.norm_base.specs.Network.{with_offer}
use Rattle.norm_node.specs.RunKept.{RunKept}
use Rattle.norm_node.proofs.GoesLemmas.{offers}
use Rattle.norm_node.proofs.run.ReceiverRun.offer.Goals as goal

pub returns-clause-goes : goal.returns-clause-goes
returns-clause-goes g c x o here =
    offers x c.args.self.now o c.args.bytes.now _ _
    (c.in_ok-offer.ensures.ok ∙ ap (λ (k : RunKept). with_offer (g.F.Fabric.told c.args.fabric.now) k.node c.args.bytes.now) c.self.view_is) here
