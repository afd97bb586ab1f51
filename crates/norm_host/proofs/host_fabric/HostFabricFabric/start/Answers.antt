use Rattle.std.proofs.Common.{rules}
use Rattle.norm_host.proofs.HostLemmas.{shared_at_start, passes_begun}
use Rattle.norm_host.proofs.host_fabric.HostFabricFabric.start.Goals as goal

pub invariant_of-self-2 : goal.invariant_of-self-2
invariant_of-self-2 g c = (
  shared_at_start c.self.inside.starts.items c.push.new.self.items c.profile.inside.fabric c.self.inside.direct c.begin-begun.new.direct
      c.args.profile.now c.args.local (search rules) (search rules) (search rules),
  passes_begun c.profile.inside.fabric c.begin-begun.new.udp c.begin-begun.ensures.passed c.begin-begun.ensures.misfit,
)
