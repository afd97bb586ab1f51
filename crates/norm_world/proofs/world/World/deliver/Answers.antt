use Rattle.std.proofs.Common.{◌≡◌, true, false, sym, subst, set, rules}
use Rattle.norm_base.specs.Members.{is_receiver, is_node}
use Rattle.norm_base.specs.Settings.{Settings}
use Rattle.norm_safety.specs.Events.{Delivered, Silent}
use Rattle.norm_world.specs.WorldKept.{WorldKept}
use Rattle.norm_world.specs.WorldMoves.{IsEvent, IsNoEvent, MayWant}
use Rattle.norm_world.proofs.WorldLemmas.{kept, turned, on_err}
use Rattle.norm_world.proofs.SenderEvents.{hears}
use Rattle.norm_world.proofs.ReceiverEvents.{is_place, is_sender, rests, may_want_there}
use Rattle.norm_world.proofs.ReceiverEvents as receivers
use Rattle.norm_world.proofs.world.World.deliver.Goals as goal

pub returns-then-not-is_receiver-clause-event : goal.returns-then-not-is_receiver-clause-event
returns-then-not-is_receiver-clause-event c =
    let i = c.self.inside in
    let no : is_receiver i.profile c.args.to ≡ false = search rules in
    let member : is_node i.profile c.args.to ≡ true = subst (λ (v : WorldKept). is_node v.p c.args.to ≡ true) (sym c.self.view_is) c.requires.member in
    turned _ _ _ (λ (p : Settings). Delivered c.args.to c.args.bytes.now c.args.now c.args.draw) _ c.self.view_is
    (subst (λ n. IsEvent (kept i.profile i.sender i.receivers.items) (kept i.profile c.deliver.new.self i.receivers.items)
    (Delivered n c.args.bytes.now c.args.now c.args.draw) (λ answer. answer ≡ Silent)) (sym (is_sender i.profile c.args.to member no))
    (hears i.profile i.sender c.deliver.new.self i.receivers.items c.args.bytes.now c.args.now c.args.draw c.deliver.ensures.profile c.deliver.ensures.stands))

pub returns-in_err-deliver-clause-refused : goal.returns-in_err-deliver-clause-refused
returns-in_err-deliver-clause-refused c =
    let i = c.self.inside in
    let yes : is_receiver i.profile c.args.to ≡ true = search rules in
    on_err c.from_residual.result
    (subst (λ (v : WorldKept). IsNoEvent v (kept i.profile i.sender (set i.receivers.items c.place-place.result c.deliver-2.new.self))) c.self.view_is
    (rests i.profile i.sender i.receivers.items c.args.to c.index_mut.result.now c.deliver-2.new.self c.place-place.result
    (is_place i.profile i.receivers.items c.args.to c.place-place.result c.index_mut.result.now yes
    c.place-place.ensures.place c.place-place.ensures.there c.self.invariant c.index_mut.ensures.value)
    c.in_err-deliver.ensures.profile c.in_err-deliver.ensures.refused))

pub returns-in_err-deliver-clause-wanted : goal.returns-in_err-deliver-clause-wanted
returns-in_err-deliver-clause-wanted c =
    let i = c.self.inside in
    let yes : is_receiver i.profile c.args.to ≡ true = search rules in
    on_err c.from_residual.result
    (subst (λ (v : WorldKept). MayWant v c.args.to c.args.bytes.now) c.self.view_is
    (may_want_there i.profile i.sender i.receivers.items c.args.to c.index_mut.result.now c.args.bytes.now c.place-place.result
    (is_place i.profile i.receivers.items c.args.to c.place-place.result c.index_mut.result.now yes
    c.place-place.ensures.place c.place-place.ensures.there c.self.invariant c.index_mut.ensures.value)
    c.in_err-deliver.ensures.wanted))

pub returns-clause-event : goal.returns-clause-event
returns-clause-event c =
    let i = c.self.inside in
    let yes : is_receiver i.profile c.args.to ≡ true = search rules in
    turned _ _ _ (λ (p : Settings). Delivered c.args.to c.args.bytes.now c.args.now c.args.draw) _ c.self.view_is
    (receivers.hears i.profile i.sender i.receivers.items c.args.to c.index_mut.result.now c.deliver-2.new.self c.args.bytes.now c.args.now c.args.draw
    c.place-place.result
    (is_place i.profile i.receivers.items c.args.to c.place-place.result c.index_mut.result.now yes
    c.place-place.ensures.place c.place-place.ensures.there c.self.invariant c.index_mut.ensures.value)
    c.in_ok-deliver.ensures.profile c.in_ok-deliver.ensures.stands)
