use Rattle.std.proofs.Common.{ap, subst, sym, ◌∙◌}
use Rattle.norm_base.specs.Settings.{Settings}
use Rattle.norm_safety.specs.World.{world_opening}
use Rattle.norm_send_rules.specs.SenderState.{sender_opening}
use Rattle.norm_sender.specs.SenderKept.{Stands}
use Rattle.norm_world.specs.WorldKept.{StandsFor}
use Rattle.norm_world.proofs.NewLemmas.{begins}
use Rattle.norm_world.proofs.WorldLemmas.{kept}
use Rattle.norm_world.proofs.world.World.new.Goals as goal

pub returns-clause-stands : goal.returns-clause-stands
returns-clause-stands c =
    let p = c.args.profile.now in
    subst (λ (q : Settings). StandsFor (kept q c.in_ok-sender.sender c.in_ok-receivers.receivers.items) (world_opening p)) (sym c.profile.view_is)
    (begins p c.in_ok-sender.sender c.in_ok-receivers.receivers.items c.in_ok-sender.ensures.profile
    (subst (λ i. Stands c.in_ok-sender.sender (sender_opening p i)) (ap (λ (q : Settings). q.instance) c.profile.view_is) c.in_ok-sender.ensures.stands)
    c.in_ok-receivers.ensures)

pub invariant_of-result-2 : goal.invariant_of-result-2
invariant_of-result-2 c = c.in_ok-receivers.ensures.count ∙ ap (λ (q : Settings). q.receivers) (sym c.profile.view_is)
