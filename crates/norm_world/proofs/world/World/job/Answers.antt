use Rattle.std.proofs.Common.{ap, subst, sym, ◌≡◌, ◌∙◌, None}
use Rattle.norm_base.specs.Settings.{Settings}
use Rattle.norm_safety.specs.Events.{Commanded}
use Rattle.norm_sender.specs.Commands.{answer_of}
use Rattle.norm_sender.specs.SenderKept.{SenderKept}
use Rattle.norm_world.specs.WorldKept.{WorldKept, IsReady}
use Rattle.norm_world.proofs.SenderEvents.{commands}
use Rattle.norm_world.proofs.WorldLemmas.{kept, turned}
use Rattle.norm_world.proofs.world.World.job.Goals as goal

pub command-requires : goal.command-requires
command-requires c = subst (λ (v : WorldKept). IsReady v) (sym c.self.view_is) c.requires.ready

pub returns-clause-event : goal.returns-clause-event
returns-clause-event c memory =
    let i = c.self.inside in
    turned _ _ _ (λ (p : Settings). Commanded c.args.by c.args.job c.args.now) _ c.self.view_is
    (commands i.profile i.sender c.command.new.self i.receivers.items c.args.by c.args.job c.args.now (answer_of c.command.result) c.command.ensures.profile
    (λ x st. c.command.ensures.stands x st memory))

pub returns-clause-memory : goal.returns-clause-memory
returns-clause-memory c wanted =
    let i = c.self.inside in
    ap (λ (s : SenderKept). kept i.profile s i.receivers.items) (c.command.ensures.memory wanted) ∙ c.self.view_is
