use Rattle.norm_turns.proofs.FaultLemmas.{on_ok, on_err}
use Rattle.norm_session.proofs.EndingLemmas.{ends, end_stops}
use Rattle.norm_session.proofs.run.Run.summarize.Goals as goal

pub returns-clause-goes : goal.returns-clause-goes
returns-clause-goes g c =
    on_ok c.write_end.result
    (λ out x network.
    ends x _ c.args.self.now c.push_end.new.self network (g.K.Sink.pieces c.args.output.now) (g.K.Sink.pieces c.write_end.new.output) c.self.view_is
    c.in_ok-push_end.ensures out)
    c.write_end.ensures.written

pub returns-clause-stops : goal.returns-clause-stops
returns-clause-stops g c =
    on_err _ _ c.write_end.result
    (λ failed un x network.
    end_stops x failed _ c.args.self.now network (g.K.Sink.pieces c.args.output.now) (g.K.Sink.pieces c.write_end.new.output) c.self.view_is un)
    c.write_end.ensures.stops
