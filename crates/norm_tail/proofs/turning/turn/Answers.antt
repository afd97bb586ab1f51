use Rattle.std.proofs.Common.{sym, subst, ◌∙◌}
use Rattle.norm_tail.specs.SoFar.{At, Stopped}
use Rattle.norm_tail.specs.Steps.{words_of}
use Rattle.norm_safety.specs.Tail.{Course, sender_ticks, cut_turn}
use Rattle.norm_tail.proofs.ExtendLemmas.{stopped_later, cut_extends}
use Rattle.norm_tail.proofs.TurnLemmas.{cut_by, whole_by}
use Rattle.norm_world.proofs.WorldLemmas.{on_err}
use Rattle.norm_tail.proofs.turning.turn.Goals as goal

pub returns-in_err-sent-clause-stops : goal.returns-in_err-sent-clause-stops
returns-in_err-sent-clause-stops c =
    on_err c.from_residual.result
    (λ x d here.
    stopped_later x (sender_ticks x.p c.args.now d) (cut_turn x.p (words_of x.draws) c.args.mark c.args.now d) c.tick_sender.new.world
    (c.in_err-sent.ensures.stops c.args.draws.now x d here) (cut_extends x.p (words_of x.draws) c.args.mark c.args.now d))

pub returns-then-not-is_open-clause-goes : goal.returns-then-not-is_open-clause-goes
returns-then-not-is_open-clause-goes c x d here =
    let sent = c.in_ok-sent.ensures.goes c.args.draws.now x d here in
    subst (λ (e : Course). At x e c.tick_sender.new.world c.tick_sender.new.steps.items c.args.draws.now)
    (cut_by x.p (words_of x.draws) c.args.mark c.args.now d
    (sym (c.is_open.ensures (sender_ticks x.p c.args.now d).world sent.here.stands) ∙ c.if-not-is_open.true)) sent.here

pub go_round-requires-clause-profile : goal.go_round-requires-clause-profile
go_round-requires-clause-profile c = c.in_ok-sent.ensures.profile ∙ c.requires.profile

pub returns-in_err-go_round-clause-stops : goal.returns-in_err-go_round-clause-stops
returns-in_err-go_round-clause-stops c =
    on_err c.from_residual-in_err-go_round.result
    (λ x d here.
    let sent = c.in_ok-sent.ensures.goes c.args.draws.now x d here in
    subst (λ (e : Course). Stopped x e c.go_round.new.world)
    (whole_by x.p (words_of x.draws) c.args.mark c.args.now d
    (sym (c.is_open.ensures (sender_ticks x.p c.args.now d).world sent.here.stands) ∙ c.if-not-is_open.false))
    (c.in_err-go_round.ensures.stops x (sender_ticks x.p c.args.now d) sent))

pub returns-clause-goes : goal.returns-clause-goes
returns-clause-goes c x d here =
    let sent = c.in_ok-sent.ensures.goes c.args.draws.now x d here in
    subst (λ (e : Course). At x e c.go_round.new.world c.go_round.new.steps.items c.go_round.new.draws)
    (whole_by x.p (words_of x.draws) c.args.mark c.args.now d
    (sym (c.is_open.ensures (sender_ticks x.p c.args.now d).world sent.here.stands) ∙ c.if-not-is_open.false))
    (c.in_ok-go_round.ensures.goes x (sender_ticks x.p c.args.now d) sent)
