use Rattle.std.proofs.Common.{◌∙◌}
use Rattle.norm_tail.specs.Steps.{words_of}
use Rattle.norm_safety.specs.Tail.{receiver_ticks, serves}
use Rattle.norm_tail.proofs.ExtendLemmas.{stopped_later, passes_extend}
use Rattle.norm_world.proofs.WorldLemmas.{on_err}
use Rattle.norm_tail.proofs.serving.serve.Goals as goal

pub returns-in_err-sent-clause-stops : goal.returns-in_err-sent-clause-stops
returns-in_err-sent-clause-stops c =
    on_err c.from_residual.result
    (λ x d here.
    stopped_later x (receiver_ticks x.p c.args.now d c.args.node) (serves x.p (words_of x.draws) c.args.now d c.args.node) c.tick_receiver.new.world
    (c.in_err-sent.ensures.stops c.args.draws.now x d here) (passes_extend x.p (words_of x.draws) c.args.now (receiver_ticks x.p c.args.now d c.args.node) c.args.node))

pub pass_on-requires-clause-profile : goal.pass_on-requires-clause-profile
pass_on-requires-clause-profile c = c.in_ok-sent.ensures.profile ∙ c.requires.profile

pub returns-in_err-pass_on-clause-stops : goal.returns-in_err-pass_on-clause-stops
returns-in_err-pass_on-clause-stops c =
    on_err c.from_residual-in_err-pass_on.result
    (λ x d here. c.in_err-pass_on.ensures.stops x (receiver_ticks x.p c.args.now d c.args.node) (c.in_ok-sent.ensures.goes c.args.draws.now x d here))

pub returns-clause-goes : goal.returns-clause-goes
returns-clause-goes c x d here =
    c.in_ok-pass_on.ensures.goes x (receiver_ticks x.p c.args.now d c.args.node) (c.in_ok-sent.ensures.goes c.args.draws.now x d here)
