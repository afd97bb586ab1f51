use Rattle.std.proofs.Common.{sym, subst}
use Rattle.std.proofs.lemmas.Result.{err_from_is_err_and}
use Rattle.norm_base.specs.Network.{Network}
use Rattle.norm_turns.specs.Causes.{session_fault}
use Rattle.norm_session.specs.Stopping.{Stopped}
use Rattle.norm_turns.specs.declared.fault.SessionFault.TheVariants as fault
use Rattle.norm_turns.proofs.FaultLemmas.{at_fault}
use Rattle.norm_session.proofs.SendingLemmas.{offers_on, offer_stops, offer_unnoted}
use Rattle.norm_session.proofs.run.Run.offer.Goals as goal

pub returns-in_err-offer-clause-stops : goal.returns-in_err-offer-clause-stops
returns-in_err-offer-clause-stops g c =
    let exit = err_from_is_err_and c.from_residual.result c.from_residual.ensures.1 in
    let e = c.in_err-offer.field-0.0 in
    at_fault _ c.from_residual.result exit.0 (session_fault e) exit.1 exit.2
    (λ x written after here.
    subst (λ (n : Network). Stopped x (session_fault e) n written) (sym c.in_err-offer.ensures.err)
    (offer_stops x c.args.self.now e c.args.from c.args.bytes.now after (g.F.Fabric.told c.args.fabric.now) written here))

pub returns-in_err-push_offer-clause-stops : goal.returns-in_err-push_offer-clause-stops
returns-in_err-push_offer-clause-stops g c =
    let exit = err_from_is_err_and c.from_residual-in_err-push_offer.result c.from_residual-in_err-push_offer.ensures.1 in
    at_fault _ c.from_residual-in_err-push_offer.result exit.0 fault.Memory exit.1 exit.2
    (λ x written after here.
    subst (λ (n : Network). Stopped x fault.Memory n written) (sym c.in_ok-offer.ensures.ok)
    (offer_unnoted x c.args.self.now c.args.from c.args.bytes.now after (g.F.Fabric.told c.args.fabric.now) written here))

pub returns-clause-goes : goal.returns-clause-goes
returns-clause-goes g c x written after here =
    offers_on x _ c.args.self.now c.push_offer.new.self c.args.from c.args.bytes.now after
    (g.F.Fabric.told c.args.fabric.now) (g.F.Fabric.told c.offer.new.self) written c.self.view_is c.in_ok-push_offer.ensures
    c.in_ok-offer.ensures.ok here
