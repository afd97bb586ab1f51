use Rattle.std.proofs.Common.{None, ap, subst, ◌∙◌}
use Rattle.norm_base.specs.Network.{with_answer, answer_of}
use Rattle.norm_session.specs.SoFar.{MayAnswer}
use Rattle.norm_session.proofs.TakingLemmas.{answered, stopped_after, answer_is, gave}
use Rattle.norm_session.proofs.run.Run.take.Goals as goal

pub returns-in-Some-clause-goes : goal.returns-in-Some-clause-goes
returns-in-Some-clause-goes g c =
    let before = g.F.Fabric.told c.args.fabric.now in
    let is = answer_is c.in_ok-to.field-0 c.in-Some.to c.take.new.into c.bytes.result.now c.in-Some.is c.bytes.ensures.octets in
    answered c.args.self.now c.take_in.new.self (gave c.in-Some.to c.bytes.result.now) before (g.F.Fabric.told c.take.new.self) c.take_in.result
    (c.in_ok-to.ensures.ok ∙ ap (with_answer before) is) (subst (MayAnswer before) is (c.in_ok-to.ensures.honest, c.in_ok-to.ensures.direct)) c.take_in.ensures.goes

pub returns-in-Some-clause-stops : goal.returns-in-Some-clause-stops
returns-in-Some-clause-stops g c =
    let before = g.F.Fabric.told c.args.fabric.now in
    let is = answer_is c.in_ok-to.field-0 c.in-Some.to c.take.new.into c.bytes.result.now c.in-Some.is c.bytes.ensures.octets in
    stopped_after c.args.self.now (gave c.in-Some.to c.bytes.result.now) before (g.F.Fabric.told c.take.new.self) c.take_in.result
    (c.in_ok-to.ensures.ok ∙ ap (with_answer before) is) (subst (MayAnswer before) is (c.in_ok-to.ensures.honest, c.in_ok-to.ensures.direct)) c.take_in.ensures.stops

pub returns-in-None-clause-stops : goal.returns-in-None-clause-stops
returns-in-None-clause-stops g c =
    let before = g.F.Fabric.told c.args.fabric.now in
    let is = ap (λ n. answer_of n c.take.new.into) c.in-None.is in
    stopped_after c.args.self.now None before (g.F.Fabric.told c.take.new.self) c.find_none.result
    (c.in_ok-to.ensures.ok ∙ ap (with_answer before) is) (subst (MayAnswer before) is (c.in_ok-to.ensures.honest, c.in_ok-to.ensures.direct)) c.find_none.ensures.stops
