use Rattle.tests_nodes.proofs.LedLemmas.{led_or_not}
use Rattle.tests_nodes.proofs.tails.Nodes.deliver.Goals as goal

pub invariant_of-self : goal.invariant_of-self
invariant_of-self c =
    led_or_not c.self.inside.profile c.self.inside.world c.deliver.new.self _ _ c.deliver.result c.self.invariant
    c.deliver.ensures.profile c.deliver.ensures.ready c.deliver.ensures.event c.deliver.ensures.refused
