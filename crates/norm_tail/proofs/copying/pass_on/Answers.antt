use Rattle.std.proofs.Common.{subst}
use Rattle.norm_tail.specs.SoFar.{At, Stopped}
use Rattle.norm_tail.specs.Steps.{words_of}
use Rattle.norm_safety.specs.Tail.{Course}
use Rattle.norm_tail.proofs.PassLemmas.{passes_nothing, passes_one}
use Rattle.norm_world.proofs.WorldLemmas.{on_err}
use Rattle.norm_tail.proofs.copying.pass_on.Goals as goal

pub returns-in-Nothing-clause-goes : goal.returns-in-Nothing-clause-goes
returns-in-Nothing-clause-goes c x d sent =
    subst (λ (e : Course). At x e c.args.world.now c.args.steps.now.items c.args.draws.now)
    (passes_nothing x.p (words_of x.draws) c.args.now d c.args.from c.args.sent c.args.datagram.now c.in-Nothing.is sent.given) sent.here

pub returns-in_err-copy_to_all-in-Datagram-clause-stops : goal.returns-in_err-copy_to_all-in-Datagram-clause-stops
returns-in_err-copy_to_all-in-Datagram-clause-stops c =
    on_err c.from_residual.result
    (λ x d sent.
    subst (λ (e : Course). Stopped x e c.copy_to_all.new.world)
    (passes_one x.p (words_of x.draws) c.args.now d c.args.from c.args.sent c.args.datagram.now c.bytes.result.now c.in-Datagram.is c.bytes.ensures.octets sent.given)
    (c.in_err-copy_to_all-in-Datagram.ensures.stops x d sent.here))

pub returns-in_ok-copy_to_all-in-Datagram-clause-goes : goal.returns-in_ok-copy_to_all-in-Datagram-clause-goes
returns-in_ok-copy_to_all-in-Datagram-clause-goes c x d sent =
    subst (λ (e : Course). At x e c.copy_to_all.new.world c.copy_to_all.new.steps.items c.copy_to_all.new.draws)
    (passes_one x.p (words_of x.draws) c.args.now d c.args.from c.args.sent c.args.datagram.now c.bytes.result.now c.in-Datagram.is c.bytes.ensures.octets sent.given)
    (c.in_ok-copy_to_all-in-Datagram.ensures.goes x d sent.here)
