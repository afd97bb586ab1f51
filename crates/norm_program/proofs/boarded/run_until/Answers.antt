use Rattle.norm_session.specs.Pausing.{PausesSession}
use Rattle.norm_session.specs.Turning as turning
use Rattle.norm_program.proofs.BoardedLemmas.{no_board, ran_over_some}
use Rattle.norm_program.proofs.boarded.run_until.Goals as goal

pub returns-in-Err-clause-stops : goal.returns-in-Err-clause-stops
returns-in-Err-clause-stops g c =
    no_board c.args.part.script.now (g.D.Files.contents c.args.files.now) (g.F.Fabric.told c.args.fabric.now) (g.K.Sink.pieces c.args.output.now)
    (g.C.Clock.moments c.args.clock.now)

pub returns-clause-run : goal.returns-clause-run
returns-clause-run g c =
    ran_over_some
    (λ paused unposted posted. PausesSession c.args.part.script.now (g.D.Files.contents c.args.files.now) c.args.part.until paused
    (turning.span (g.F.Fabric.told c.args.fabric.now) (g.F.Fabric.told c.run_until.new.fabric) (g.K.Sink.pieces c.args.output.now)
    (g.K.Sink.pieces c.run_until.new.output) (g.C.Clock.moments c.args.clock.now) (g.C.Clock.moments c.run_until.new.clock) unposted posted))
    c.run_until.result _ c.run_until.new.board c.run_until.ensures.run
