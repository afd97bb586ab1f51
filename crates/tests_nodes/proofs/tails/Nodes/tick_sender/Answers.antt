use Rattle.tests_nodes.proofs.LedLemmas.{led_on}
use Rattle.tests_nodes.proofs.tails.Nodes.tick_sender.Goals as goal

pub invariant_of-self : goal.invariant_of-self
invariant_of-self c =
    led_on c.self.inside.profile c.self.inside.world c.tick_sender.new.self _ _ c.self.invariant
    c.tick_sender.ensures.profile c.tick_sender.ensures.ready c.tick_sender.ensures.event
