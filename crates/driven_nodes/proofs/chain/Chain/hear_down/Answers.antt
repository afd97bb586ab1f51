use Rattle.std.specs.Prelude.{⊤}
use Rattle.driven_nodes.proofs.ChainLemmas.{hears_below}
use Rattle.driven_nodes.proofs.chain.Chain.hear_down.Goals as goal

pub returns : goal.returns
returns c u = hears_below c.args.octets.now c.args.now c.args.self.now c.deliver_down.new.self c.tell_all.new.relay (λ answer. ⊤) u c.deliver_down.ensures.call c.tell_all.ensures
