use Rattle.std.proofs.Common.{subst, sym}
use Rattle.norm_base.specs.Network.{IsDirectAnswer, answer_of}
use Rattle.norm_memory.specs.Direct.{direct_told, KeepsCopies}
use Rattle.norm_memory.proofs.DirectLemmas.{keeps_taken, gives_directly}
use Rattle.norm_memory.proofs.direct_fabric.DirectFabricFabric.take.Goals as goal

pub invariant_of-self-2 : goal.invariant_of-self-2
invariant_of-self-2 c = subst KeepsCopies (sym c.in_ok-take.ensures.ok) (keeps_taken c.self.inside.network c.self.invariant)

pub returns-clause-direct : goal.returns-clause-direct
returns-clause-direct c =
    let answer = answer_of c.in_ok-take.field-0 c.take.new.into in
    subst (λ s. IsDirectAnswer (direct_told s) answer) c.self.view_is
    (gives_directly c.self.inside.network answer c.self.invariant c.in_ok-take.ensures.answer)
