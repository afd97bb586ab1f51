use Rattle.std.proofs.Common.{◌≡◌, ◌+◌, ◌∷◌, [], ap, sym, ◌∙◌, rules}
use Rattle.std.proofs.lemmas.Result.{err_from_is_err_and}
use Rattle.norm_session.specs.RunKept.{RunKept}
use Rattle.norm_turns.specs.declared.fault.SessionFault.TheVariants as fault
use Rattle.norm_turns.proofs.FaultLemmas.{at_fault}
use Rattle.norm_session.proofs.TurningLemmas.{turn_begins, turn_unnoted, no_turn, stepped}
use Rattle.norm_session.proofs.run.Run.begin_turn.Goals as goal

pub returns-in_default-clause-stops : goal.returns-in_default-clause-stops
returns-in_default-clause-stops g c = ([], λ x network written here more. no_turn x c.args.self.now _ network written here)

pub returns-in_err-push_turn-clause-stops : goal.returns-in_err-push_turn-clause-stops
returns-in_err-push_turn-clause-stops g c =
    let number : c.in-Some.turn ≡ c.self.inside.turn + 1 = search rules in
    let exit = err_from_is_err_and c.from_residual.result c.from_residual.ensures.1 in
    at_fault _ c.from_residual.result exit.0 fault.Memory exit.1 exit.2 (
      c.moment_of-moment.result ∷ [],
      λ x network written here more.
          turn_unnoted x _ c.args.self.now c.in-Some.turn c.moment_of-moment.result _ _ network written c.self.view_is number (stepped _ _ _ _ _ _ _ (c.step-step.ensures ∙ ap (λ (k : RunKept). k.p.step) (sym c.self.view_is)) c.moment_of-moment.ensures) here more,
    )

pub returns-clause-goes : goal.returns-clause-goes
returns-clause-goes g c x network written here more =
    let number : c.in-Some.turn ≡ c.self.inside.turn + 1 = search rules in
    turn_begins x _ c.args.self.now c.push_turn.new.self c.in-Some.turn c.moment_of-moment.result _ _ network written c.self.view_is number
    (stepped _ _ _ _ _ _ _ (c.step-step.ensures ∙ ap (λ (k : RunKept). k.p.step) (sym c.self.view_is)) c.moment_of-moment.ensures) c.in_ok-push_turn.ensures here more
