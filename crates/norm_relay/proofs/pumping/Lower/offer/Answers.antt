use Rattle.std.proofs.Common.{sym, subst}
use Rattle.std.specs.Prelude.{IfOk}
use Rattle.norm_relay.specs.declared.waiting.Waiting.{Waiting}
use Rattle.norm_relay.proofs.EnqueueLemmas.{Offers}
use Rattle.norm_relay.proofs.pumping.Lower.offer.Goals as goal

pub returns-in-Given-clause-offers : goal.returns-in-Given-clause-offers
returns-in-Given-clause-offers c =
    subst (λ (w : Waiting). IfOk c.offer_job.result (λ o. Offers c.args.now c.args.self.now c.offer_job.new.self w o)) (sym c.in-Given.is) c.offer_job.ensures.offers

pub returns-in-Lost-clause-offers : goal.returns-in-Lost-clause-offers
returns-in-Lost-clause-offers c =
    subst (λ (w : Waiting). IfOk c.offer_loss.result (λ o. Offers c.args.now c.args.self.now c.offer_loss.new.self w o)) (sym c.in-Lost.is) c.offer_loss.ensures.offers
