use Rattle.norm_sender.specs.Commands.{answer_of}
use Rattle.tests_nodes.proofs.LedLemmas.{led_by}
use Rattle.tests_nodes.proofs.tails.Nodes.accepts.Goals as goal

pub invariant_of-self : goal.invariant_of-self
invariant_of-self c =
    led_by c.self.inside.profile c.self.inside.world c.job.new.self _ _ (answer_of c.job.result) c.self.invariant
    c.job.ensures.profile c.job.ensures.ready c.job.ensures.event c.job.ensures.memory
