use Rattle.norm_base.specs.Settings.{Settings}
use Rattle.norm_safety.specs.Events.{Ticked}
use Rattle.norm_world.proofs.WorldLemmas.{turned}
use Rattle.norm_world.proofs.SenderEvents.{ticks}
use Rattle.norm_world.proofs.world.World.tick_sender.Goals as goal

pub returns-clause-event : goal.returns-clause-event
returns-clause-event c =
    let i = c.self.inside in
    turned _ _ _ (λ (p : Settings). Ticked p.sender c.args.now) _ c.self.view_is
    (ticks i.profile i.sender c.tick.new.self i.receivers.items c.args.now c.tick.new.out c.tick.result c.tick.ensures.profile c.tick.ensures.stands)
