use Rattle.std.proofs.Common.{◌≡◌, ◌<◌, ◌+◌, false, subst, arith}
use Rattle.norm_receive_rules.specs.Putting.{is_far}
use Rattle.rx_stream.specs.StreamState.{StreamState, alone, IsOf}
use Rattle.rx_stream.proofs.StreamLemmas.{far_by}
use Rattle.rx_stream.proofs.stream.Stream.is_far.Goals as goal

pub returns-clause-exact : goal.returns-clause-exact
returns-clause-exact c = λ p.
    subst (λ (o : StreamState). IsOf p o → c.is_beyond.result ≡ is_far p (alone o) o.plan c.args.block) c.self.view_is
    (λ h. far_by p (record { index = c.self.inside.index; fti = c.self.inside.fti; flags = c.self.inside.flags; seen = c.self.inside.seen }) c.self.inside.info c.self.inside.first c.self.inside.symbol c.place_of.result c.args.block c.self.inside.ring.items c.is_beyond.result c.self.invariant.sound.stream h.blocks c.place_of.ensures c.is_beyond.ensures.beyond c.is_beyond.ensures.within)

pub returns-clause-near : goal.returns-clause-near
returns-clause-near c =
    subst (λ (o : StreamState). c.is_beyond.result ≡ false → c.args.block < o.point.block + o.room) c.self.view_is
    (λ e. let lt = c.is_beyond.ensures.within e in omega (arith, lt, c.place_of.ensures))
