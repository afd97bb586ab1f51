use Rattle.std.proofs.Common.{◌∙◌, sym, ap, subst, ◌-◌}
use Rattle.std.specs.Option.{option_to_list}
use Rattle.std.proofs.lemmas.Result.{err_from_is_err_and}
use Rattle.norm_base.specs.Told.{gained}
use Rattle.norm_journal.specs.Lines.{news_line}
use Rattle.norm_sender.specs.SenderKept.{SenderKept, Stands}
use Rattle.norm_session.specs.Context.{with_posted}
use Rattle.norm_session.specs.RunKept.{RunKept}
use Rattle.norm_turns.specs.Printing.{IsUnwritten}
use Rattle.norm_session.specs.Telling.{IsTellingOf}
use Rattle.norm_turns.specs.declared.fault.SessionFault.{SessionFault}
use Rattle.norm_turns.specs.declared.fault.SessionFault.TheVariants as fault
use Rattle.norm_turns.proofs.FaultLemmas.{at_fault}
use Rattle.norm_session.proofs.TellingLemmas.{SaysLeft, tells, tell_stops}
use Rattle.norm_session.proofs.run.Run.tell.Goals as goal

pub returns-in_err-write_line-clause-stops : goal.returns-in_err-write_line-clause-stops
returns-in_err-write_line-clause-stops g c =
    let exit = err_from_is_err_and c.from_residual-in_err-write_line.result c.from_residual-in_err-write_line.ensures.1 in
    let n = c.in-Some.news in
    let seen = c.self-2.view_is ∙ c.in_ok-note_news.ensures.noted in
    let says : SaysLeft c.news.new.self n c.instance-instance.result c.in_ok-left.left.items = record {
      instance_is = λ s st.
          c.instance-instance.ensures s
          (subst (λ (k : SenderKept). Stands k s) (sym (c.sender-2.ensures ∙ ap (λ (r : RunKept). r.world.sender) seen)) st);
      left_is = λ s st. c.in_ok-left.ensures s (subst (λ (k : SenderKept). Stands k s) (sym c.sender.ensures) st);
    } in
    let line = c.in_ok-has.ensures ∙ ap (λ ms. news_line c.instance-instance.result ms n) c.deref.ensures.value in
    let why = c.in_err-write_line.ensures.why in
    at_fault _ c.from_residual-in_err-write_line.result exit.0 fault.Write exit.1 (exit.2 ∙ why)
    (λ x place network many here.
    tell_stops (with_posted x c.args.board.now) c.publish.new.board _ c.args.self.now c.news.new.self n place network (g.K.Sink.pieces c.args.output.now)
    (g.K.Sink.pieces c.write_line.new.output) c.instance-instance.result c.in_ok-left.left.items many c.in_ok-publish.ensures.posted c.self.view_is
    c.in-Some.ensures.event says
    (subst (λ (f : SessionFault). IsUnwritten f (g.K.Sink.pieces c.args.output.now) (g.K.Sink.pieces c.write_line.new.output) (news_line c.instance-instance.result c.in_ok-left.left.items n)) why
    (subst (λ l. IsUnwritten c.in_err-write_line.field-0.0 (g.K.Sink.pieces c.args.output.now) (g.K.Sink.pieces c.write_line.new.output) l) line
    c.in_err-write_line.ensures.stops)) here)

pub returns-clause-goes : goal.returns-clause-goes
returns-clause-goes g c x place network many here =
    let n = c.in-Some.news in
    let seen = c.self-2.view_is ∙ c.in_ok-note_news.ensures.noted in
    let says : SaysLeft c.news.new.self n c.instance-instance.result c.in_ok-left.left.items = record {
      instance_is = λ s st.
          c.instance-instance.ensures s
          (subst (λ (k : SenderKept). Stands k s) (sym (c.sender-2.ensures ∙ ap (λ (r : RunKept). r.world.sender) seen)) st);
      left_is = λ s st. c.in_ok-left.ensures s (subst (λ (k : SenderKept). Stands k s) (sym c.sender.ensures) st);
    } in
    let line = c.in_ok-has.ensures ∙ ap (λ ms. news_line c.instance-instance.result ms n) c.deref.ensures.value in
    subst (λ (u : RunKept). IsTellingOf (with_posted x c.publish.new.board) u place network (g.K.Sink.pieces c.write_line.new.output) (many - 1)) (sym seen)
    (tells (with_posted x c.args.board.now) c.publish.new.board _ c.args.self.now c.news.new.self n place network (g.K.Sink.pieces c.args.output.now)
    (g.K.Sink.pieces c.write_line.new.output) c.instance-instance.result c.in_ok-left.left.items many c.in_ok-publish.ensures.posted c.self.view_is
    c.in-Some.ensures.profile c.in-Some.ensures.event says
    (c.in_ok-write_line.ensures.written ∙ ap (λ l. gained (g.K.Sink.pieces c.args.output.now) (option_to_list l)) line) here)
