use Rattle.std.proofs.Common.{◌≡◌, true, sym, subst}
use Rattle.norm_base.specs.Members.{is_receiver}
use Rattle.norm_base.specs.Settings.{Settings}
use Rattle.norm_safety.specs.Events.{Ticked}
use Rattle.norm_world.specs.WorldKept.{WorldKept}
use Rattle.norm_world.proofs.WorldLemmas.{turned}
use Rattle.norm_world.proofs.ReceiverEvents.{is_place, ticks, taken_there}
use Rattle.norm_world.proofs.world.World.tick_receiver.Goals as goal

pub tick-requires : goal.tick-requires
tick-requires c =
    let i = c.self.inside in
    record {
      taken =
          taken_there i.profile i.sender i.receivers.items c.args.node c.index_mut.result.now c.place-place.result c.args.self.now
          (is_place i.profile i.receivers.items c.args.node c.place-place.result c.index_mut.result.now
          (subst (λ (v : WorldKept). is_receiver v.p c.args.node ≡ true) (sym c.self.view_is) c.requires.receiver)
          c.place-place.ensures.place c.place-place.ensures.there c.self.invariant c.index_mut.ensures.value)
          c.self.view_is c.requires.taken;
    }

pub returns-clause-event : goal.returns-clause-event
returns-clause-event c =
    let i = c.self.inside in
    turned _ _ _ (λ (p : Settings). Ticked c.args.node c.args.now) _ c.self.view_is
    (ticks i.profile i.sender i.receivers.items c.args.node c.index_mut.result.now c.tick.new.self c.args.now c.tick.new.out c.tick.result c.place-place.result
    (is_place i.profile i.receivers.items c.args.node c.place-place.result c.index_mut.result.now
    (subst (λ (v : WorldKept). is_receiver v.p c.args.node ≡ true) (sym c.self.view_is) c.requires.receiver)
    c.place-place.ensures.place c.place-place.ensures.there c.self.invariant c.index_mut.ensures.value)
    c.tick.ensures.profile c.tick.ensures.stands)
