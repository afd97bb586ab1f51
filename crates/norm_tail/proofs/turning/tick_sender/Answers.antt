use Rattle.std.proofs.Common.{ap, subst}
use Rattle.norm_base.specs.Settings.{Settings}
use Rattle.norm_safety.specs.Events.{Ticked}
use Rattle.norm_tail.specs.SoFar.{AtSent}
use Rattle.norm_safety.specs.Tail.{comes}
use Rattle.norm_tail.proofs.CourseLemmas.{ticked, sender_ticked}
use Rattle.norm_world.proofs.WorldLemmas.{on_err}
use Rattle.norm_tail.proofs.turning.tick_sender.Goals as goal

pub returns-in_err-tell_all-clause-stops : goal.returns-in_err-tell_all-clause-stops
returns-in_err-tell_all-clause-stops c =
    on_err c.from_residual.result
    (λ g x d here.
    let sender = ap (λ (p : Settings). p.sender) here.profile in
    let sent = subst (λ n. AtSent x (comes x.p (Ticked n c.args.now) d) n c.tick_sender-sent.result c.tick_sender-sent.new.out c.tick_sender-sent.new.self c.args.steps.now.items g)
    sender
    (ticked x d c.args.world.now.p.sender c.args.now c.args.world.now c.tick_sender-sent.new.self c.args.steps.now.items g c.tick_sender-sent.result
    c.tick_sender-sent.new.out c.tick_sender-sent.ensures.profile c.tick_sender-sent.ensures.event here) in
    c.in_err-tell_all.ensures.stops g x (comes x.p (Ticked x.p.sender c.args.now) d) sent.here)

pub returns-clause-goes : goal.returns-clause-goes
returns-clause-goes c g x d here =
    let sender = ap (λ (p : Settings). p.sender) here.profile in
    let sent = subst (λ n. AtSent x (comes x.p (Ticked n c.args.now) d) n c.tick_sender-sent.result c.tick_sender-sent.new.out c.tick_sender-sent.new.self c.args.steps.now.items g)
    sender
    (ticked x d c.args.world.now.p.sender c.args.now c.args.world.now c.tick_sender-sent.new.self c.args.steps.now.items g c.tick_sender-sent.result
    c.tick_sender-sent.new.out c.tick_sender-sent.ensures.profile c.tick_sender-sent.ensures.event here) in
    sender_ticked x d c.args.now c.tell_all.new.world c.tell_all.new.steps.items g c.tick_sender-sent.result c.tick_sender-sent.new.out sent.given
    (c.in_ok-tell_all.ensures.goes g x (comes x.p (Ticked x.p.sender c.args.now) d) sent.here)
