use Rattle.std.proofs.Common.{◌≡◌, get_or, subst, refl}
use Rattle.norm_script.specs.Commands.{Commands}
use Rattle.norm_session.proofs.CommandLemmas.{at_read, on_ok, on_fault}
use Rattle.norm_session.proofs.ReadingLemmas.{write_after}
use Rattle.norm_session.proofs.run.Run.offer_command.Goals as goal

pub returns-in-File-clause-goes : goal.returns-in-File-clause-goes
returns-in-File-clause-goes g c =
    on_ok c.give_file.result (λ went x network over here. went x network c.args.first over.files
    (at_read x c.args.script.now (g.D.Files.contents c.args.files.now) c.args.self.now c.args.place c.index-line.result.now c.args.first network (g.K.Sink.pieces c.args.output.now) over c.requires
    (subst (λ (v : Commands). c.index-line.result.now ≡ get_or v.lines c.args.place c.index-line.result.now) c.script.view_is c.index-line.ensures) here)) c.give_file.ensures.goes

pub returns-in-File-clause-stops : goal.returns-in-File-clause-stops
returns-in-File-clause-stops g c =
    on_fault c.give_file.result (λ stop stopped x network over here. stopped x network c.args.first over.files
    (at_read x c.args.script.now (g.D.Files.contents c.args.files.now) c.args.self.now c.args.place c.index-line.result.now c.args.first network (g.K.Sink.pieces c.args.output.now) over c.requires
    (subst (λ (v : Commands). c.index-line.result.now ≡ get_or v.lines c.args.place c.index-line.result.now) c.script.view_is c.index-line.ensures) here)) c.give_file.ensures.stops

pub returns-in-Some-clause-goes : goal.returns-in-Some-clause-goes
returns-in-Some-clause-goes g c =
    on_ok c.give_job.result (λ went x network over here. went x network
    (at_read x c.args.script.now (g.D.Files.contents c.args.files.now) c.args.self.now c.args.place c.index-line.result.now c.args.first network (g.K.Sink.pieces c.args.output.now) over c.requires
    (subst (λ (v : Commands). c.index-line.result.now ≡ get_or v.lines c.args.place c.index-line.result.now) c.script.view_is c.index-line.ensures) here)) c.give_job.ensures.goes

pub returns-in-Some-clause-stops : goal.returns-in-Some-clause-stops
returns-in-Some-clause-stops g c =
    on_fault c.give_job.result (λ stop stopped x network over here. stopped x network
    (at_read x c.args.script.now (g.D.Files.contents c.args.files.now) c.args.self.now c.args.place c.index-line.result.now c.args.first network (g.K.Sink.pieces c.args.output.now) over c.requires
    (subst (λ (v : Commands). c.index-line.result.now ≡ get_or v.lines c.args.place c.index-line.result.now) c.script.view_is c.index-line.ensures) here)) c.give_job.ensures.stops

pub returns-in-Some-clause-cause : goal.returns-in-Some-clause-cause
returns-in-Some-clause-cause g c =
    write_after c.give_job.result (g.K.Sink.fault_count c.args.output.now) (g.K.Sink.fault_count c.give_job.new.output) (g.D.Files.fault_count c.args.files.now)
    (g.D.Files.fault_count c.args.files.now) refl c.give_job.ensures.cause
