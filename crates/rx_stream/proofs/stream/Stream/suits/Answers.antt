use Rattle.std.proofs.Common.{◌≡◌, ◌+◌, true, sym, ap, subst, ◌∙◌}
use Rattle.std.specs.Prelude.{not}
use Rattle.fec_plan.specs.Partition.{Cut}
use Rattle.fec_plan.specs.Points.{position}
use Rattle.norm_receive_rules.specs.Putting.{is_misfit}
use Rattle.rx_stream.specs.BlockMoves.{IsSent}
use Rattle.rx_stream.specs.StreamState.{StreamState, IsOf}
use Rattle.rx_stream.proofs.StreamLemmas.{suits_is}
use Rattle.rx_stream.proofs.stream.Stream.suits.Goals as goal

pub returns-clause-exact : goal.returns-clause-exact
returns-clause-exact c = λ p.
    subst (λ (o : StreamState). IsOf p o → c.fits.result ≡ not (is_misfit p o.plan (position o.plan.index c.args.block c.args.symbol) c.args.payload.now)) c.self.view_is
    (λ h. c.fits.ensures.exact p (h.e ∙ sym (ap (λ (x : Cut). x.e) c.self.invariant.sound.cut_is))
    ∙ suits_is p (record { index = c.self.inside.index; fti = c.self.inside.fti; flags = c.self.inside.flags; seen = c.self.inside.seen }) c.args.block c.args.symbol c.args.payload.now c.self.inside.plan c.self.invariant.sound.stream c.self.invariant.sound.cut_is)

pub returns-clause-sent : goal.returns-clause-sent
returns-clause-sent c =
    subst (λ (o : StreamState). c.fits.result ≡ true → IsSent o.plan.fti.b (o.plan.fti.e + 8) c.args.symbol c.args.payload.now) c.self.view_is
    (λ e. subst (λ (x : Cut). IsSent x.b (x.e + 8) c.args.symbol c.args.payload.now) c.self.invariant.sound.cut_is (c.fits.ensures.sent e))
