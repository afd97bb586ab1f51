use Rattle.std.proofs.lemmas.Result.{err_from_is_err_and}
use Rattle.norm_turns.proofs.FaultLemmas.{at_fault}
use Rattle.norm_session.proofs.PausingLemmas.{keeps_all, pauses}
use Rattle.norm_session.proofs.pausing.run_until.Goals as goal

pub returns-in_err-run-clause-stops : goal.returns-in_err-run-clause-stops
returns-in_err-run-clause-stops g c =
    let exit = err_from_is_err_and c.from_residual.result c.from_residual.ensures.1 in
    at_fault _ c.from_residual.result exit.0 c.in_err-run.field-0.0 exit.1 exit.2 c.in_err-run.ensures.stops

pub pause-requires : goal.pause-requires
pause-requires g c =
    keeps_all c.args.script.now (g.D.Files.contents c.args.files.now) c.args.until c.in_ok-run.run' _ c.in_ok-run.ensures.goes

pub returns-clause-run : goal.returns-clause-run
returns-clause-run g c =
    pauses c.args.script.now c.args.until (g.D.Files.contents c.args.files.now) c.in_ok-run.run' _ c.pause.result c.in_ok-run.ensures.goes
    c.pause.ensures c.requires.script
