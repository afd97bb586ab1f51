use Rattle.std.proofs.Common.{None, ap, ◌∙◌, refl}
use Rattle.std.proofs.lemmas.Result.{err_from_is_err_and}
use Rattle.norm_base.specs.Network.{with_answer, with_offer, answer_of}
use Rattle.norm_turns.specs.Causes.{session_fault}
use Rattle.norm_node.specs.Hub.{Listening, Passing}
use Rattle.norm_turns.proofs.FaultLemmas.{at_fault}
use Rattle.norm_node.proofs.GoesLemmas.{answer_is}
use Rattle.norm_node.proofs.HubLemmas.{hears, hears_none, passes, around_stops}
use Rattle.norm_node.proofs.hub.pass.Goals as goal

pub returns-in_err-from-clause-stops : goal.returns-in_err-from-clause-stops
returns-in_err-from-clause-stops g c =
    let exit = err_from_is_err_and c.from_residual.result c.from_residual.ensures.1 in
    let e = c.in_err-from.field-0.0 in
    at_fault _ c.from_residual.result exit.0 (session_fault e) exit.1 exit.2
    (λ p o k count moments here. around_stops p o k (Listening count) e _ _ moments tt c.in_err-from.ensures.err.0 here)

pub returns-in_err-offer-in-Some-clause-stops : goal.returns-in_err-offer-in-Some-clause-stops
returns-in_err-offer-in-Some-clause-stops g c =
    let exit = err_from_is_err_and c.from_residual-in_err-offer-in-Some.result c.from_residual-in_err-offer-in-Some.ensures.1 in
    let e = c.in_err-offer-in-Some.field-0.0 in
    let is = answer_is c.in_ok-from.field-0 c.in-Some.from c.take.new.into c.bytes.result.now c.in-Some.is c.bytes.ensures.octets in
    at_fault _ c.from_residual-in_err-offer-in-Some.result exit.0 (session_fault e) exit.1 exit.2
    (λ p o k count moments here.
    around_stops p o k (Passing c.in-Some.from c.bytes.result.now count) e _ _ moments tt c.in_err-offer-in-Some.ensures.err
    (hears p o k count c.in-Some.from c.bytes.result.now _ _ moments (c.in_ok-from.ensures.ok ∙ ap (with_answer (g.F.Fabric.told c.args.fabric.now)) is) here))

pub returns-in_ok-offer-in-Some-clause-goes : goal.returns-in_ok-offer-in-Some-clause-goes
returns-in_ok-offer-in-Some-clause-goes g c p o k count moments here =
    let is = answer_is c.in_ok-from.field-0 c.in-Some.from c.take.new.into c.bytes.result.now c.in-Some.is c.bytes.ensures.octets in
    passes p o k count c.in-Some.from c.bytes.result.now _ _ moments c.in_ok-offer-in-Some.ensures.ok
    (hears p o k count c.in-Some.from c.bytes.result.now _ _ moments (c.in_ok-from.ensures.ok ∙ ap (with_answer (g.F.Fabric.told c.args.fabric.now)) is) here)

pub returns-in-None-clause-goes : goal.returns-in-None-clause-goes
returns-in-None-clause-goes g c p o k count moments here =
    hears_none p o k count _ _ moments
    (c.in_ok-from.ensures.ok ∙ ap (λ n. with_answer (g.F.Fabric.told c.args.fabric.now) (answer_of n c.take.new.into)) c.in-None.is) here
