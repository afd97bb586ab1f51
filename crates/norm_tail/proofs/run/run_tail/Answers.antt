use Rattle.std.proofs.Common.{◌≡◌, ◌≤◌, ◌∙◌, ap, sym, subst, List}
use Rattle.std.proofs.lemmas.Result.{err_from_is_err_and}
use Rattle.norm_base.specs.Settings.{Settings}
use Rattle.norm_send_rules.specs.Repairable.{repairable}
use Rattle.norm_send_rules.specs.Watermarks.{oldest}
use Rattle.norm_tail.specs.Ending.{BreaksOff}
use Rattle.norm_tail.specs.SoFar.{At}
use Rattle.norm_tail.specs.declared.fault.TailFault.{TailFault}
use Rattle.norm_tail.specs.declared.fault.TailFault.TheVariants as fault
use Rattle.norm_tail.specs.declared.step.TailStep.{TailStep}
use Rattle.norm_tail.proofs.BeginLemmas.{may_begin, few_symbols, none_open}
use Rattle.norm_tail.proofs.RecoverLemmas.{made_recovers}
use Rattle.norm_tail.proofs.RunLemmas.{at_memory, mark_is, bound_is, closed_refuses, made, broken}
use Rattle.norm_tail.proofs.run.run_tail.Goals as goal

pub returns-in_default-oldest_mark-clause-refused : goal.returns-in_default-oldest_mark-clause-refused
returns-in_default-oldest_mark-clause-refused c w st =
    closed_refuses c.args.profile.now w.sender (none_open (oldest w.sender) (sym (c.in_default-oldest_mark.ensures w st)))

pub bound_of-bound-requires-clause-symbols : goal.bound_of-bound-requires-clause-symbols
bound_of-bound-requires-clause-symbols c =
    let p = c.args.profile.now in
    let can = c.requires.fits in
    let may = may_begin p can.world.sender (sym (c.in_default.ensures can.world can.stands)) in
    let few = few_symbols p can.world.sender c.hold_range.ensures may in
    let counts = c.symbols.ensures can.world can.stands ∙ ap (λ (q : Settings). repairable q can.world.sender) c.requires.profile in
    subst (λ n. n ≤ 10000000) (sym counts) few

pub bound_of-bound-requires-clause-step : goal.bound_of-bound-requires-clause-step
bound_of-bound-requires-clause-step c =
    let can = c.requires.fits in
    (may_begin c.args.profile.now can.world.sender (sym (c.in_default.ensures can.world can.stands))).goes_on

pub returns-in_err-turns-clause-memory : goal.returns-in_err-turns-clause-memory
returns-in_err-turns-clause-memory c =
    let p = c.args.profile.now in
    let exit = err_from_is_err_and c.from_residual-in_err-turns.result c.from_residual-in_err-turns.ensures.1 in
    at_memory (λ (why : TailFault). why ≡ fault.Memory → BreaksOff p c.args.draws.now c.args.last c.args.world.now c.turns_until.new.world)
    c.from_residual-in_err-turns.result exit.0 exit.1 exit.2
    (λ memory w mark st oldest.
    broken p c.args.draws.now c.args.last w mark c.in-Some-oldest_mark.mark c.bound_of-bound.result c.args.world.now c.turns_until.new.world c.requires.profile st
    (mark_is w.sender c.in-Some-oldest_mark.mark mark (c.in-Some-oldest_mark.ensures w st) oldest)
    (bound_is p c.args.world.now.p w c.symbols.result c.bound_of-bound.result c.requires.profile (c.symbols.ensures w st) c.bound_of-bound.ensures)
    (λ x t none last here.
    c.in_err-turns.ensures.stops x t none last
    (subst (λ (ss : List TailStep). At x t.course c.args.world.now ss c.args.draws.now) (sym c.new-steps.ensures.items) here)))

pub returns-clause-course : goal.returns-clause-course
returns-clause-course c w mark st oldest =
    let p = c.args.profile.now in
    made p c.args.draws.now c.turns_until.new.draws c.args.last w mark c.in-Some-oldest_mark.mark c.bound_of-bound.result c.in_ok-turns.turns c.args.world.now
    c.turns_until.new.world c.turns_until.new.steps.items c.requires.profile st
    (mark_is w.sender c.in-Some-oldest_mark.mark mark (c.in-Some-oldest_mark.ensures w st) oldest)
    (bound_is p c.args.world.now.p w c.symbols.result c.bound_of-bound.result c.requires.profile (c.symbols.ensures w st) c.bound_of-bound.ensures)
    (λ x t none last here.
    c.in_ok-turns.ensures.goes x t none last
    (subst (λ (ss : List TailStep). At x t.course c.args.world.now ss c.args.draws.now) (sym c.new-steps.ensures.items) here))

pub returns-clause-recovers : goal.returns-clause-recovers
returns-clause-recovers c =
    made_recovers c.args.profile.now c.args.draws.now c.turns_until.new.draws c.args.last c.args.world.now c.turns_until.new.world c.in_ok-turns.turns
    c.bound_of-bound.result c.turns_until.new.steps.items (λ w mark st oldest. returns-clause-course c w mark st oldest)
