use Rattle.std.proofs.Common.{◌∙◌, ap, sym, subst}
use Rattle.norm_base.specs.Members.{receivers_of}
use Rattle.norm_base.specs.Settings.{Settings}
use Rattle.norm_tail.specs.SoFar.{At, AtSent, Stopped}
use Rattle.norm_tail.specs.Steps.{words_of}
use Rattle.norm_safety.specs.Tail.{passes_on, goes_round}
use Rattle.norm_tail.proofs.ExtendLemmas.{stopped_later, all_extend}
use Rattle.norm_world.proofs.WorldLemmas.{on_err}
use Rattle.norm_tail.proofs.serving.go_round.Goals as goal

pub returns-in_err-pass_on-clause-stops : goal.returns-in_err-pass_on-clause-stops
returns-in_err-pass_on-clause-stops c =
    on_err c.from_residual.result
    (λ x d sent.
    let own = c.sender_node.ensures ∙ ap (λ (p : Settings). p.sender) (sym c.requires.profile ∙ sent.here.profile) in
    let first = passes_on x.p (words_of x.draws) c.args.now d x.p.sender in
    stopped_later x first (goes_round x.p (words_of x.draws) c.args.now d) c.pass_on.new.world
    (subst (λ n. Stopped x (passes_on x.p (words_of x.draws) c.args.now d n) c.pass_on.new.world) own
    (c.in_err-pass_on.ensures.stops x d
    (subst (λ n. AtSent x d n c.args.sent c.args.datagram.now c.args.world.now c.args.steps.now.items c.args.draws.now) (sym own) sent)))
    (all_extend x.p (words_of x.draws) c.args.now (receivers_of x.p x.p.receivers) first))

pub serve_all-requires-clause-profile : goal.serve_all-requires-clause-profile
serve_all-requires-clause-profile c = c.in_ok-pass_on.ensures.profile ∙ c.requires.profile

pub returns-in_err-serve_all-clause-stops : goal.returns-in_err-serve_all-clause-stops
returns-in_err-serve_all-clause-stops c =
    on_err c.from_residual-in_err-serve_all.result
    (λ x d sent.
    let own = c.sender_node.ensures ∙ ap (λ (p : Settings). p.sender) (sym c.requires.profile ∙ sent.here.profile) in
    c.in_err-serve_all.ensures.stops x (passes_on x.p (words_of x.draws) c.args.now d x.p.sender)
    (subst (λ n. At x (passes_on x.p (words_of x.draws) c.args.now d n) c.pass_on.new.world c.pass_on.new.steps.items c.pass_on.new.draws) own
    (c.in_ok-pass_on.ensures.goes x d
    (subst (λ n. AtSent x d n c.args.sent c.args.datagram.now c.args.world.now c.args.steps.now.items c.args.draws.now) (sym own) sent))))

pub returns-clause-goes : goal.returns-clause-goes
returns-clause-goes c x d sent =
    let own = c.sender_node.ensures ∙ ap (λ (p : Settings). p.sender) (sym c.requires.profile ∙ sent.here.profile) in
    c.in_ok-serve_all.ensures.goes x (passes_on x.p (words_of x.draws) c.args.now d x.p.sender)
    (subst (λ n. At x (passes_on x.p (words_of x.draws) c.args.now d n) c.pass_on.new.world c.pass_on.new.steps.items c.pass_on.new.draws) own
    (c.in_ok-pass_on.ensures.goes x d
    (subst (λ n. AtSent x d n c.args.sent c.args.datagram.now c.args.world.now c.args.steps.now.items c.args.draws.now) (sym own) sent)))
