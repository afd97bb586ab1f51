use Rattle.std.proofs.Common.{◌≡◌, None, sym, subst}
use Rattle.norm_sender.specs.SenderKept.{SenderKept}
use Rattle.tests_nodes.proofs.LedLemmas.{led_on}
use Rattle.tests_nodes.proofs.tails.Nodes.tick_receiver.Goals as goal

pub invariant_of-self : goal.invariant_of-self
invariant_of-self c =
    led_on c.self.inside.profile c.self.inside.world c.tick_receiver.new.self _ _ c.self.invariant
    c.tick_receiver.ensures.profile
    (subst (λ (s : SenderKept). s.window.filling ≡ None) (sym c.tick_receiver.ensures.sender) c.self.invariant.ready)
    c.tick_receiver.ensures.event
