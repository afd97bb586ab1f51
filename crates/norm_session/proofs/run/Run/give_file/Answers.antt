use Rattle.std.proofs.Common.{Some, ap, subst, sym, ◌∙◌}
use Rattle.std.proofs.lemmas.Result.{err_from_is_err_and}
use Rattle.norm_journal.specs.Follows.{IsLength}
use Rattle.norm_send_rules.specs.declared.job.Job.TheVariants as job
use Rattle.norm_sender.specs.SenderKept.{Stands}
use Rattle.norm_turns.specs.Causes.{Counted}
use Rattle.norm_turns.proofs.FaultLemmas.{at_fault}
use Rattle.norm_session.proofs.CommandLemmas.{on_ok, on_fault}
use Rattle.norm_session.proofs.ReadingLemmas.{file_stops, of_turned, accepted_as, file_at_hand, gives_file_at, refuses_file_at, write_after, files_after}
use Rattle.norm_session.proofs.run.Run.give_file.Goals as goal

pub returns-in_err-len-clause-stops : goal.returns-in_err-len-clause-stops
returns-in_err-len-clause-stops g c =
    let exit = err_from_is_err_and c.from_residual-in_err-len.result c.from_residual-in_err-len.ensures.1 in
    let e = c.in_err-len.field-0.0 in
    at_fault _ c.from_residual-in_err-len.result exit.0 e exit.1 exit.2
    (λ x network first same due.
    file_stops x c.args.self.now e c.args.place c.args.line.now first c.args.name.now network (g.K.Sink.pieces c.args.output.now) c.requires
    (of_turned (g.D.Files.contents c.args.files.now) x.files c.args.name.now c.as_str.result.now e (c.as_str.ensures.value ∙ c.in_ok-name.ensures)
    same c.in_err-len.ensures.stops) due)

pub returns-in_err-job-clause-stops : goal.returns-in_err-job-clause-stops
returns-in_err-job-clause-stops g c =
    let exit = err_from_is_err_and c.from_residual-in_err-job.result c.from_residual-in_err-job.ensures.1 in
    let e = c.in_err-job.field-0.0 in
    at_fault _ c.from_residual-in_err-job.result exit.0 e exit.1 exit.2
    (λ x network first same due.
    file_stops x c.args.self.now e c.args.place c.args.line.now first c.args.name.now network (g.K.Sink.pieces c.args.output.now) c.requires
    (of_turned (g.D.Files.contents c.length_of.new.files) x.files c.args.name.now c.as_str-2.result.now e (c.as_str-2.ensures.value ∙ c.in_ok-name.ensures)
    (same ∙ sym c.length_of.ensures.same) c.in_err-job.ensures.stops) due)

pub returns-in_err-job-clause-cause : goal.returns-in_err-job-clause-cause
returns-in_err-job-clause-cause g c =
    let exit = err_from_is_err_and c.from_residual-in_err-job.result c.from_residual-in_err-job.ensures.1 in
    files_after c.from_residual-in_err-job.result exit.0 c.in_err-job.field-0.0 (g.K.Sink.fault_count c.args.output.now) (g.D.Files.fault_count c.args.files.now)
    (g.D.Files.fault_count c.length_of.new.files) (g.D.Files.fault_count c.offer_file.new.files) exit.1 exit.2
    (ap (λ (k : Counted). k.files) (c.in_ok-len.ensures.cause 0 0)) c.in_err-job.ensures.cause

pub returns-in-Accepted-clause-goes : goal.returns-in-Accepted-clause-goes
returns-in-Accepted-clause-goes g c =
    let t = accepted_as _ c.offer_file.new.world (g.D.Files.contents c.length_of.new.files) c.origin_of-by.result c.as_str-2.result.now c.in_ok-len.len _
    c.is_kept-keeps.result c.in-Accepted.job c.in-Accepted.receipt c.in_ok-job.field-0 c.in-Accepted.is c.in_ok-job.ensures.gave in
    on_ok c.note_job.result (λ noted x network first same due.
    noted (Some (job.File c.args.name.now t.octets))
    (file_at_hand _ c.is_kept-keeps.result c.args.name.now c.as_str-2.result.now t.octets c.in-Accepted.job (c.as_str-2.ensures.value ∙ c.in_ok-name.ensures)
    c.is_kept-keeps.ensures t.at_hand_is) x network
    (gives_file_at x _ c.args.self.now c.offer_file.new.world c.args.place c.args.line.now first c.args.name.now c.as_str-2.result.now c.is_kept-keeps.result
    c.in-Accepted.job c.in-Accepted.receipt (g.D.Files.contents c.length_of.new.files) c.origin_of-by.result c.instance-instance.result network
    (g.K.Sink.pieces c.args.output.now) c.self.view_is t c.requires (c.as_str-2.ensures.value ∙ c.in_ok-name.ensures) c.origin_of-by.ensures
    (same ∙ sym c.length_of.ensures.same) c.in_ok-job.ensures.profile
    (λ w st. c.instance-instance.ensures w.sender (subst (λ v. Stands v w.sender) (sym c.sender.ensures) st.sender)) due)) c.note_job.ensures.goes

pub returns-in-Accepted-clause-stops : goal.returns-in-Accepted-clause-stops
returns-in-Accepted-clause-stops g c =
    let t = accepted_as _ c.offer_file.new.world (g.D.Files.contents c.length_of.new.files) c.origin_of-by.result c.as_str-2.result.now c.in_ok-len.len _
    c.is_kept-keeps.result c.in-Accepted.job c.in-Accepted.receipt c.in_ok-job.field-0 c.in-Accepted.is c.in_ok-job.ensures.gave in
    on_fault c.note_job.result (λ stop stopped x network first same due. stopped (Some (job.File c.args.name.now t.octets)) x network
    (gives_file_at x _ c.args.self.now c.offer_file.new.world c.args.place c.args.line.now first c.args.name.now c.as_str-2.result.now c.is_kept-keeps.result
    c.in-Accepted.job c.in-Accepted.receipt (g.D.Files.contents c.length_of.new.files) c.origin_of-by.result c.instance-instance.result network
    (g.K.Sink.pieces c.args.output.now) c.self.view_is t c.requires (c.as_str-2.ensures.value ∙ c.in_ok-name.ensures) c.origin_of-by.ensures
    (same ∙ sym c.length_of.ensures.same) c.in_ok-job.ensures.profile
    (λ w st. c.instance-instance.ensures w.sender (subst (λ v. Stands v w.sender) (sym c.sender.ensures) st.sender)) due)) c.note_job.ensures.stops

pub returns-in-Accepted-clause-cause : goal.returns-in-Accepted-clause-cause
returns-in-Accepted-clause-cause g c =
    write_after c.note_job.result (g.K.Sink.fault_count c.args.output.now) (g.K.Sink.fault_count c.note_job.new.output) (g.D.Files.fault_count c.args.files.now)
    (g.D.Files.fault_count c.offer_file.new.files) (ap (λ (k : Counted). k.files) (c.in_ok-job.ensures.cause 0 0) ∙ ap (λ (k : Counted). k.files) (c.in_ok-len.ensures.cause 0 0)) c.note_job.ensures.cause

pub returns-clause-goes : goal.returns-clause-goes
returns-clause-goes g c =
    on_ok c.note_length.result (λ noted x network first same due. noted c.args.line.now x network
    (refuses_file_at x _ c.args.self.now c.offer_file.new.world c.args.place c.args.line.now first c.args.name.now c.as_str-2.result.now c.in-Refused.name
    c.in_ok-len.len c.in-Refused.fault c.is_kept-keeps.result c.in_ok-job.field-0 (g.D.Files.contents c.length_of.new.files) c.origin_of-by.result network
    (g.K.Sink.pieces c.args.output.now) c.self.view_is c.requires (c.as_str-2.ensures.value ∙ c.in_ok-name.ensures) c.origin_of-by.ensures
    (same ∙ sym c.length_of.ensures.same) c.in_ok-job.ensures.profile c.in-Refused.is
    (subst (λ n. IsLength (g.D.Files.contents c.length_of.new.files) n c.in_ok-len.len) (c.as_str.ensures.value ∙ sym c.as_str-2.ensures.value)
    (subst (λ fs. IsLength fs c.as_str.result.now c.in_ok-len.len) (sym c.length_of.ensures.same) c.in_ok-len.ensures.value))
    c.in_ok-job.ensures.gave due)) c.note_length.ensures.goes

pub returns-clause-stops : goal.returns-clause-stops
returns-clause-stops g c =
    on_fault c.note_length.result (λ stop stopped x network first same due. stopped c.args.line.now x network
    (refuses_file_at x _ c.args.self.now c.offer_file.new.world c.args.place c.args.line.now first c.args.name.now c.as_str-2.result.now c.in-Refused.name
    c.in_ok-len.len c.in-Refused.fault c.is_kept-keeps.result c.in_ok-job.field-0 (g.D.Files.contents c.length_of.new.files) c.origin_of-by.result network
    (g.K.Sink.pieces c.args.output.now) c.self.view_is c.requires (c.as_str-2.ensures.value ∙ c.in_ok-name.ensures) c.origin_of-by.ensures
    (same ∙ sym c.length_of.ensures.same) c.in_ok-job.ensures.profile c.in-Refused.is
    (subst (λ n. IsLength (g.D.Files.contents c.length_of.new.files) n c.in_ok-len.len) (c.as_str.ensures.value ∙ sym c.as_str-2.ensures.value)
    (subst (λ fs. IsLength fs c.as_str.result.now c.in_ok-len.len) (sym c.length_of.ensures.same) c.in_ok-len.ensures.value))
    c.in_ok-job.ensures.gave due)) c.note_length.ensures.stops

pub returns-clause-cause : goal.returns-clause-cause
returns-clause-cause g c =
    write_after c.note_length.result (g.K.Sink.fault_count c.args.output.now) (g.K.Sink.fault_count c.note_length.new.output) (g.D.Files.fault_count c.args.files.now)
    (g.D.Files.fault_count c.offer_file.new.files) (ap (λ (k : Counted). k.files) (c.in_ok-job.ensures.cause 0 0) ∙ ap (λ (k : Counted). k.files) (c.in_ok-len.ensures.cause 0 0)) c.note_length.ensures.cause
