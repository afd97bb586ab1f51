use Rattle.std.proofs.Common.{◌≡◌, true, false, subst, rules}
use Rattle.std.specs.Prelude.{◌==◌}
use Rattle.norm_tail.specs.SoFar.{At, Stopped}
use Rattle.norm_tail.specs.Steps.{words_of}
use Rattle.norm_safety.specs.Tail.{Course}
use Rattle.norm_tail.proofs.PassLemmas.{unless_self, unless_other}
use Rattle.norm_world.proofs.WorldLemmas.{on_err}
use Rattle.norm_tail.proofs.copying.copy_to.Goals as goal

pub returns-then-number-clause-goes : goal.returns-then-number-clause-goes
returns-then-number-clause-goes c x d here =
    let self : (c.args.to == c.args.from) ≡ true = search rules in
    subst (λ (e : Course). At x e c.args.world.now c.args.steps.now.items c.args.draws.now)
    (unless_self x.p (words_of x.draws) c.args.now c.args.bytes.now c.args.from d c.args.to self) here

pub returns-in_err-deliver-clause-stops : goal.returns-in_err-deliver-clause-stops
returns-in_err-deliver-clause-stops c =
    let other : (c.args.to == c.args.from) ≡ false = search rules in
    on_err c.from_residual.result
    (λ x d here.
    subst (λ (e : Course). Stopped x e c.deliver.new.world)
    (unless_other x.p (words_of x.draws) c.args.now c.args.bytes.now c.args.from d c.args.to other) (c.in_err-deliver.ensures.stops x d here))

pub returns-clause-goes : goal.returns-clause-goes
returns-clause-goes c x d here =
    let other : (c.args.to == c.args.from) ≡ false = search rules in
    subst (λ (e : Course). At x e c.deliver.new.world c.deliver.new.steps.items c.deliver.new.draws)
    (unless_other x.p (words_of x.draws) c.args.now c.args.bytes.now c.args.from d c.args.to other) (c.in_ok-deliver.ensures.goes x d here)
