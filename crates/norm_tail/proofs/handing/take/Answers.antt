use Rattle.std.proofs.Common.{◌≡◌, None, Some}
use Rattle.norm_safety.specs.Events.{UpTaken, Took}
use Rattle.norm_tail.proofs.CourseLemmas.{came, came_stops, took_none, took_one}
use Rattle.norm_world.proofs.WorldLemmas.{on_err}
use Rattle.norm_tail.proofs.handing.take.Goals as goal

pub returns-in_default-clause-goes : goal.returns-in_default-clause-goes
returns-in_default-clause-goes c g x d here =
    came x d (UpTaken c.args.node) (λ answer. answer ≡ Took None) c.args.world.now c.take_up.new.self c.args.steps.now.items c.args.steps.now.items g
    c.in_default.ensures.profile c.in_default.ensures.event (took_none c.args.node c.args.steps.now.items) here

pub returns-in_err-push-clause-stops : goal.returns-in_err-push-clause-stops
returns-in_err-push-clause-stops c =
    on_err c.from_residual.result
    (λ g x d here. came_stops x d (UpTaken c.args.node) (λ answer. answer ≡ Took (Some c.in-Some.up)) c.args.world.now c.take_up.new.self
    c.args.steps.now.items g c.in-Some.ensures.event here)

pub returns-clause-goes : goal.returns-clause-goes
returns-clause-goes c g x d here =
    came x d (UpTaken c.args.node) (λ answer. answer ≡ Took (Some c.in-Some.up)) c.args.world.now c.take_up.new.self c.args.steps.now.items
    c.push.new.self.items g c.in-Some.ensures.profile c.in-Some.ensures.event
    (took_one c.args.node c.args.steps.now.items c.push.new.self.items c.in-Some.up c.in_ok-push.ensures.items) here
