use Rattle.std.proofs.Common.{◌≡◌, None, Some}
use Rattle.norm_safety.specs.Events.{NewsAsked, Told}
use Rattle.norm_tail.proofs.CourseLemmas.{came, came_stops, told_none, told_one}
use Rattle.norm_world.proofs.WorldLemmas.{on_err}
use Rattle.norm_tail.proofs.telling.tell.Goals as goal

pub returns-in_default-clause-goes : goal.returns-in_default-clause-goes
returns-in_default-clause-goes c g x d here =
    came x d NewsAsked (λ answer. answer ≡ Told None) c.args.world.now c.news.new.self c.args.steps.now.items c.args.steps.now.items g
    c.in_default.ensures.profile c.in_default.ensures.event (told_none c.args.steps.now.items) here

pub returns-in_err-push-clause-stops : goal.returns-in_err-push-clause-stops
returns-in_err-push-clause-stops c =
    on_err c.from_residual.result
    (λ g x d here. came_stops x d NewsAsked (λ answer. answer ≡ Told (Some c.in-Some.news)) c.args.world.now c.news.new.self c.args.steps.now.items g
    c.in-Some.ensures.event here)

pub returns-clause-goes : goal.returns-clause-goes
returns-clause-goes c g x d here =
    came x d NewsAsked (λ answer. answer ≡ Told (Some c.in-Some.news)) c.args.world.now c.news.new.self c.args.steps.now.items c.push.new.self.items g
    c.in-Some.ensures.profile c.in-Some.ensures.event (told_one c.args.steps.now.items c.push.new.self.items c.in-Some.news c.in_ok-push.ensures.items) here
