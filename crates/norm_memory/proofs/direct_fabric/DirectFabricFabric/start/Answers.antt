use Rattle.std.proofs.Common.{subst, sym}
use Rattle.norm_memory.specs.Direct.{KeepsCopies}
use Rattle.norm_memory.proofs.DirectLemmas.{keeps_started}
use Rattle.norm_memory.proofs.direct_fabric.DirectFabricFabric.start.Goals as goal

pub invariant_of-self-2 : goal.invariant_of-self-2
invariant_of-self-2 c =
    subst KeepsCopies (sym c.in_ok-start.ensures.ok) (keeps_started c.self.inside.network c.args.profile.now c.args.local)
