use Rattle.std.proofs.Common.{◌≡◌, ℕ, Option, true, sym, subst}
use Rattle.norm_base.specs.Members.{is_receiver}
use Rattle.norm_world.specs.WorldKept.{WorldKept, StandsFor}
use Rattle.norm_world.proofs.ReceiverEvents.{is_place, of_node}
use Rattle.norm_world.proofs.world.World.instance_at.Goals as goal

pub returns : goal.returns
returns c w st =
    let i = c.self.inside in
    of_node i.profile i.sender i.receivers.items c.args.node c.index.result.now (λ (o : Option ℕ). c.instance.result ≡ o) c.place.result
    (is_place i.profile i.receivers.items c.args.node c.place.result c.index.result.now
    (subst (λ (v : WorldKept). is_receiver v.p c.args.node ≡ true) (sym c.self.view_is) c.requires)
    c.place.ensures.place c.place.ensures.there c.self.invariant c.index.ensures)
    c.instance.ensures w (subst (λ (v : WorldKept). StandsFor v w) (sym c.self.view_is) st)
