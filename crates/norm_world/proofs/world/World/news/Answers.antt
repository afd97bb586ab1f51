use Rattle.std.proofs.Common.{ap, ◌∙◌}
use Rattle.norm_sender.specs.SenderKept.{SenderKept}
use Rattle.norm_world.proofs.WorldLemmas.{where_none}
use Rattle.norm_base.specs.Settings.{Settings}
use Rattle.norm_safety.specs.Events.{NewsAsked}
use Rattle.norm_world.proofs.WorldLemmas.{kept, turned}
use Rattle.norm_world.proofs.SenderEvents.{tells}
use Rattle.norm_world.proofs.world.World.news.Goals as goal

pub returns-clause-event : goal.returns-clause-event
returns-clause-event c =
    let i = c.self.inside in
    turned _ _ _ (λ (p : Settings). NewsAsked) _ c.self.view_is
    (tells i.profile i.sender c.news.new.self i.receivers.items c.news.result c.news.ensures.profile c.news.ensures.stands)

pub returns-clause-none : goal.returns-clause-none
returns-clause-none c =
    let i = c.self.inside in
    where_none c.news.result c.news.ensures.same (λ same. ap (λ (s : SenderKept). kept i.profile s i.receivers.items) same ∙ c.self.view_is)
