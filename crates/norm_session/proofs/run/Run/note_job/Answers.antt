use Rattle.std.proofs.Common.{ap, subst, sym, ◌∙◌}
use Rattle.std.specs.Option.{option_to_list}
use Rattle.norm_base.specs.Told.{gained}
use Rattle.norm_journal.specs.Lines.{gave_line}
use Rattle.norm_journal.specs.Pulling.{origin_of}
use Rattle.norm_journal.specs.declared.event.Event.TheVariants as event
use Rattle.norm_session.specs.Noting.{IsAtHand, noted}
use Rattle.norm_session.specs.RunKept.{RunKept}
use Rattle.norm_turns.specs.Printing.{IsUnwritten}
use Rattle.norm_session.proofs.CommandLemmas.{notes, notes_stop, job_quiet, on_ok, on_fault}
use Rattle.norm_session.proofs.run.Run.note_job.Goals as goal

pub returns-clause-goes : goal.returns-clause-goes
returns-clause-goes g c =
    let by = origin_of c.args.line.now in
    let text = gave_line by c.args.instance c.args.line.now.verb c.args.gave in
    on_ok c.write_line.result (λ out told at_hand x network there.
    notes x _ c.args.self.now (event.Job by told c.args.gave) c.push_job.new.self c.count.new.totals c.waits_at-self-inside.result c.args.place c.args.line.now
    c.args.gave text network (g.K.Sink.pieces c.args.output.now) (g.K.Sink.pieces c.write_line.new.output) (job_quiet by told c.args.gave) c.self.view_is
    (c.in_ok-push_job.ensures told (subst (λ (k : RunKept). IsAtHand k.journal c.args.job told) (sym c.self.view_is) at_hand)
    ∙ ap (λ b. noted c.self.inside.journal (event.Job b told c.args.gave)) c.origin_of-by.ensures)
    c.in_ok-count.ensures c.waits_at-self-inside.ensures
    (out ∙ ap (λ t. gained (g.K.Sink.pieces c.args.output.now) (option_to_list t))
    (c.in_ok-has.ensures ∙ ap (λ b. gave_line b c.args.instance c.args.line.now.verb c.args.gave) c.origin_of-by.ensures)) there)
    c.write_line.ensures.written

pub returns-clause-stops : goal.returns-clause-stops
returns-clause-stops g c =
    let by = origin_of c.args.line.now in
    let text = gave_line by c.args.instance c.args.line.now.verb c.args.gave in
    on_fault c.write_line.result (λ stop un told x network there.
    notes_stop x stop c.args.self.now (event.Job by told c.args.gave) c.args.place c.args.line.now c.args.gave text network
    (g.K.Sink.pieces c.args.output.now) (g.K.Sink.pieces c.write_line.new.output) (job_quiet by told c.args.gave)
    (subst (IsUnwritten stop (g.K.Sink.pieces c.args.output.now) (g.K.Sink.pieces c.write_line.new.output))
    (c.in_ok-has.ensures ∙ ap (λ b. gave_line b c.args.instance c.args.line.now.verb c.args.gave) c.origin_of-by.ensures) un) there)
    c.write_line.ensures.stops
