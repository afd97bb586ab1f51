use Rattle.std.proofs.Common.{sym, ◌∙◌}
use Rattle.rx_object.specs.ObjectState.{alone}
use Rattle.rx_object.proofs.WordLemmas.{word_held, word_done, word_unfit, word_kept}
use Rattle.rx_object.proofs.object.Object.offer.Goals as goal

pub returns-then-holds-clause-word : goal.returns-then-holds-clause-word
returns-then-holds-clause-word c = λ p.
    word_held p (alone c.args.self.now) c.args.self.now.plan c.args.block c.args.symbol c.args.payload.now (sym c.holds.ensures ∙ c.if-holds.true)

pub returns-then-is_done-clause-word : goal.returns-then-is_done-clause-word
returns-then-is_done-clause-word c = λ p.
    word_done p (alone c.args.self.now) c.args.self.now.plan c.args.block c.args.symbol c.args.payload.now (sym c.is_done.ensures ∙ c.if-is_done.true)

pub returns-then-not-fits-clause-word : goal.returns-then-not-fits-clause-word
returns-then-not-fits-clause-word c = λ p.
    word_unfit p (alone c.args.self.now) c.args.self.now.plan c.args.block c.args.symbol c.args.payload.now c.fits.ensures.kind
    (sym c.holds.ensures ∙ c.if-holds.false) (sym c.is_done.ensures ∙ c.if-is_done.false) (sym c.fits.ensures.exact ∙ c.if-not-fits.true)

pub returns-clause-word : goal.returns-clause-word
returns-clause-word c = λ p.
    word_kept p (alone c.args.self.now) c.args.self.now.plan c.args.block c.args.symbol c.args.payload.now c.fits.ensures.kind
    (sym c.holds.ensures ∙ c.if-holds.false) (sym c.is_done.ensures ∙ c.if-is_done.false) (sym c.fits.ensures.exact ∙ c.if-not-fits.false)
