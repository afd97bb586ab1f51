use Rattle.std.proofs.Common.{◌≡◌, true, sym, subst}
use Rattle.norm_base.specs.Members.{is_receiver}
use Rattle.norm_base.specs.Settings.{Settings}
use Rattle.norm_safety.specs.Events.{UpTaken}
use Rattle.norm_world.specs.WorldKept.{WorldKept}
use Rattle.norm_world.proofs.WorldLemmas.{turned, where_none}
use Rattle.norm_world.proofs.ReceiverEvents.{is_place, takes, none_left, some_in}
use Rattle.norm_world.proofs.world.World.take_up.Goals as goal

pub returns-clause-event : goal.returns-clause-event
returns-clause-event c =
    let i = c.self.inside in
    turned _ _ _ (λ (p : Settings). UpTaken c.args.node) _ c.self.view_is
    (takes i.profile i.sender i.receivers.items c.args.node c.index_mut.result.now c.take_up.new.self c.take_up.result c.place-place.result
    (is_place i.profile i.receivers.items c.args.node c.place-place.result c.index_mut.result.now
    (subst (λ (v : WorldKept). is_receiver v.p c.args.node ≡ true) (sym c.self.view_is) c.requires)
    c.place-place.ensures.place c.place-place.ensures.there c.self.invariant c.index_mut.ensures.value)
    c.take_up.ensures.profile c.take_up.ensures.stands)

pub returns-clause-none : goal.returns-clause-none
returns-clause-none c =
    let i = c.self.inside in
    where_none c.take_up.result c.take_up.ensures.none
    (none_left i.profile i.sender i.receivers.items c.args.node c.index_mut.result.now c.take_up.new.self c.place-place.result c.args.self.now
    (is_place i.profile i.receivers.items c.args.node c.place-place.result c.index_mut.result.now
    (subst (λ (v : WorldKept). is_receiver v.p c.args.node ≡ true) (sym c.self.view_is) c.requires)
    c.place-place.ensures.place c.place-place.ensures.there c.self.invariant c.index_mut.ensures.value)
    c.index_mut.ensures.value c.self.view_is)

pub returns-clause-some : goal.returns-clause-some
returns-clause-some c =
    let i = c.self.inside in
    some_in c.take_up.result i.profile i.sender i.receivers.items c.args.node c.index_mut.result.now c.place-place.result c.args.self.now
    (is_place i.profile i.receivers.items c.args.node c.place-place.result c.index_mut.result.now
    (subst (λ (v : WorldKept). is_receiver v.p c.args.node ≡ true) (sym c.self.view_is) c.requires)
    c.place-place.ensures.place c.place-place.ensures.there c.self.invariant c.index_mut.ensures.value)
    c.self.view_is c.take_up.ensures.some
