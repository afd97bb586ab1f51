use Rattle.std.proofs.Common.{◌∙◌}
use Rattle.std.proofs.lemmas.Result.{err_from_is_err_and}
use Rattle.norm_session.specs.Context.{with_posted}
use Rattle.norm_turns.proofs.FaultLemmas.{cause_exit, at_fault}
use Rattle.norm_session.proofs.run.Run.exchange.Goals as goal

pub returns-in_err-take_all-clause-cause : goal.returns-in_err-take_all-clause-cause
returns-in_err-take_all-clause-cause g c files =
    let exit = err_from_is_err_and c.from_residual-in_err-take_all.result c.from_residual-in_err-take_all.ensures.1 in
    cause_exit _ c.from_residual-in_err-take_all.result exit.0 c.in_err-take_all.field-0.0 _ _ _ exit.1 exit.2 (c.in_ok-send.ensures.cause files)
    (c.in_err-take_all.ensures.cause files)

pub returns-in_err-serve_all-clause-stops : goal.returns-in_err-serve_all-clause-stops
returns-in_err-serve_all-clause-stops g c =
    let exit = err_from_is_err_and c.from_residual-in_err-serve_all.result c.from_residual-in_err-serve_all.ensures.1 in
    at_fault _ c.from_residual-in_err-serve_all.result exit.0 c.in_err-serve_all.field-0.0 exit.1 exit.2
    (λ x here. c.in_err-serve_all.ensures.stops (with_posted x c.take_all.new.board) (c.in_ok-take_all.ensures.goes x (c.in_ok-send.ensures.goes x here)))

pub returns-in_err-serve_all-clause-cause : goal.returns-in_err-serve_all-clause-cause
returns-in_err-serve_all-clause-cause g c files =
    let exit = err_from_is_err_and c.from_residual-in_err-serve_all.result c.from_residual-in_err-serve_all.ensures.1 in
    cause_exit _ c.from_residual-in_err-serve_all.result exit.0 c.in_err-serve_all.field-0.0 _ _ _ exit.1 exit.2
    (c.in_ok-take_all.ensures.cause files ∙ c.in_ok-send.ensures.cause files) (c.in_err-serve_all.ensures.cause files)

pub returns-clause-cause : goal.returns-clause-cause
returns-clause-cause g c files = c.in_ok-serve_all.ensures.cause files ∙ c.in_ok-take_all.ensures.cause files ∙ c.in_ok-send.ensures.cause files
