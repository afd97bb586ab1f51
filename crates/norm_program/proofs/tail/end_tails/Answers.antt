use Rattle.std.proofs.Common.{ap}
use Rattle.norm_turns.specs.Causes.{Counted}
use Rattle.norm_program.proofs.TailEndLemmas.{tails_written, tails_broken}
use Rattle.norm_program.proofs.TailLemmas.{none_made}
use Rattle.norm_program.proofs.tail.end_tails.Goals as goal

pub returns-in-Ok : goal.returns-in-Ok
returns-in-Ok g c j is st =
    let here = none_made j c.args.paused c.of-tails.result (g.K.Sink.pieces c.args.output.now) c.of-tails.ensures is st in
    tails_written c.in-Ok.ending c.args.profile.now j (g.K.Sink.pieces c.args.output.now) (g.K.Sink.pieces c.run.new.output) (g.K.Sink.fault_count c.args.output.now)
    (g.K.Sink.fault_count c.run.new.output) (c.in-Ok.ensures.goes j (c.end_of_turns-turned.ensures j is) here) (ap (λ (k : Counted). k.output) (c.in-Ok.ensures.cause 0 0))

pub returns : goal.returns
returns g c j is st =
    let here = none_made j c.args.paused c.of-tails.result (g.K.Sink.pieces c.args.output.now) c.of-tails.ensures is st in
    tails_broken c.run.result c.in-Err.fault c.stop_session.result c.args.profile.now j (g.K.Sink.pieces c.args.output.now) (g.K.Sink.pieces c.run.new.output)
    (g.K.Sink.pieces c.stop_session.new.output) (g.K.Sink.fault_count c.args.output.now) (g.K.Sink.fault_count c.run.new.output)
    (g.K.Sink.fault_count c.stop_session.new.output) c.in-Err.is (c.in-Err.ensures.stops j (c.end_of_turns-turned.ensures j is) here) c.run.ensures.cause c.stop_session.ensures
