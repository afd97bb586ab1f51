use Rattle.std.proofs.Common.{Err, ap, subst, refl, ◌∙◌}
use Rattle.std.specs.Option.{option_map, option_to_list}
use Rattle.norm_base.specs.Told.{gained}
use Rattle.norm_journal.specs.Lines.{no_line, reason_of}
use Rattle.norm_journal.specs.declared.event.Event.TheVariants as event
use Rattle.norm_turns.specs.Printing.{IsUnwritten}
use Rattle.norm_session.proofs.CommandLemmas.{notes, notes_stop, on_ok, on_fault}
use Rattle.norm_session.proofs.ReadingLemmas.{length_quiet}
use Rattle.norm_session.proofs.run.Run.note_length.Goals as goal

pub returns-clause-goes : goal.returns-clause-goes
returns-clause-goes g c =
    let text = option_map (no_line c.args.by) (reason_of c.args.fault) in
    on_ok c.write_line.result (λ out line x network there.
    notes x _ c.args.self.now (event.Length c.args.by c.args.name c.args.len c.args.fault) c.push_length.new.self c.self.inside.totals
    c.waits_at-self-inside.result c.args.place line (Err c.args.fault) text network (g.K.Sink.pieces c.args.output.now) (g.K.Sink.pieces c.write_line.new.output)
    (length_quiet c.args.by c.args.name c.args.len c.args.fault) c.self.view_is c.in_ok-push_length.ensures refl c.waits_at-self-inside.ensures
    (out ∙ ap (λ t. gained (g.K.Sink.pieces c.args.output.now) (option_to_list t)) c.in_ok-has.ensures) there)
    c.write_line.ensures.written

pub returns-clause-stops : goal.returns-clause-stops
returns-clause-stops g c =
    let text = option_map (no_line c.args.by) (reason_of c.args.fault) in
    on_fault c.write_line.result (λ stop un line x network there.
    notes_stop x stop c.args.self.now (event.Length c.args.by c.args.name c.args.len c.args.fault) c.args.place line (Err c.args.fault) text network
    (g.K.Sink.pieces c.args.output.now) (g.K.Sink.pieces c.write_line.new.output) (length_quiet c.args.by c.args.name c.args.len c.args.fault)
    (subst (IsUnwritten stop (g.K.Sink.pieces c.args.output.now) (g.K.Sink.pieces c.write_line.new.output)) c.in_ok-has.ensures un) there)
    c.write_line.ensures.stops
