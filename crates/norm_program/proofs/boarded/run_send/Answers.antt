use Rattle.norm_program.proofs.BoardedLemmas.{no_board_alone, ran_alone_over_some}
use Rattle.norm_program.proofs.boarded.run_send.Goals as goal

pub returns-in-Err-clause-stops : goal.returns-in-Err-clause-stops
returns-in-Err-clause-stops g c =
    no_board_alone c.args.script.now (g.D.Files.contents c.args.files.now) (g.F.Fabric.told c.args.fabric.now) (g.K.Sink.pieces c.args.output.now)
    (g.C.Clock.moments c.args.clock.now)

pub returns-clause-run : goal.returns-clause-run
returns-clause-run g c =
    ran_alone_over_some c.args.script.now (g.D.Files.contents c.args.files.now) (g.F.Fabric.told c.args.fabric.now) (g.F.Fabric.told c.run_send.new.fabric)
    (g.K.Sink.pieces c.args.output.now) (g.K.Sink.pieces c.run_send.new.output) (g.C.Clock.moments c.args.clock.now) (g.C.Clock.moments c.run_send.new.clock)
    c.run_send.result _ c.run_send.new.board c.run_send.ensures.run
