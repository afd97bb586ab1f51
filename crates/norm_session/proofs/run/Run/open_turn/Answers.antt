use Rattle.std.proofs.Common.{◌∷◌, [], ◌∙◌}
use Rattle.std.proofs.lemmas.Result.{err_from_is_err_and}
use Rattle.norm_journal.specs.Places.{Sending}
use Rattle.norm_session.specs.Context.{with_moments, with_posted}
use Rattle.norm_turns.proofs.FaultLemmas.{cause_exit, at_fault}
use Rattle.norm_session.proofs.run.Run.open_turn.Goals as goal

pub returns-in_err-begin_turn-clause-stops : goal.returns-in_err-begin_turn-clause-stops
returns-in_err-begin_turn-clause-stops g c =
    let exit = err_from_is_err_and c.from_residual.result c.from_residual.ensures.1 in
    let s = c.in_err-begin_turn.ensures.stops in
    at_fault _ c.from_residual.result exit.0 c.in_err-begin_turn.field-0.0 exit.1 exit.2
    (s.0, λ x network over here more. s.1 (with_posted x c.args.board.now) network (g.K.Sink.pieces c.args.output.now) here more)

pub returns-in_err-command-clause-stops : goal.returns-in_err-command-clause-stops
returns-in_err-command-clause-stops g c =
    let exit = err_from_is_err_and c.from_residual-in_err-command.result c.from_residual-in_err-command.ensures.1 in
    let now = c.begin_turn.new.self.now in
    at_fault _ c.from_residual-in_err-command.result exit.0 c.in_err-command.field-0.0 exit.1 exit.2 (
      now ∷ [],
      λ x network over here more.
          let b = c.in_ok-begin_turn.ensures.goes (with_posted x c.args.board.now) network (g.K.Sink.pieces c.args.output.now) here more in
          (b.0, c.in_err-command.ensures.stops (with_moments (with_posted x c.args.board.now) (now ∷ [])) network (record { script = over.script; files = over.files }) b.1),
    )

pub returns-in_err-tell_all-clause-stops : goal.returns-in_err-tell_all-clause-stops
returns-in_err-tell_all-clause-stops g c =
    let exit = err_from_is_err_and c.from_residual-in_err-tell_all.result c.from_residual-in_err-tell_all.ensures.1 in
    let now = c.begin_turn.new.self.now in
    at_fault _ c.from_residual-in_err-tell_all.result exit.0 c.in_err-tell_all.field-0.0 exit.1 exit.2 (
      now ∷ [],
      λ x network over here more.
          let y = with_moments x (now ∷ []) in
          let b = c.in_ok-begin_turn.ensures.goes (with_posted x c.args.board.now) network (g.K.Sink.pieces c.args.output.now) here more in
          (b.0, c.in_err-tell_all.ensures.stops y Sending network (c.in_ok-command.ensures.goes (with_posted y c.args.board.now) network (record { script = over.script; files = over.files }) b.1)),
    )

pub returns-in_err-tell_all-clause-cause : goal.returns-in_err-tell_all-clause-cause
returns-in_err-tell_all-clause-cause g c network =
    let exit = err_from_is_err_and c.from_residual-in_err-tell_all.result c.from_residual-in_err-tell_all.ensures.1 in
    cause_exit _ c.from_residual-in_err-tell_all.result exit.0 c.in_err-tell_all.field-0.0 _ _ _ exit.1 exit.2 (c.in_ok-command.ensures.cause network)
    (c.in_err-tell_all.ensures.cause network (g.D.Files.fault_count c.command.new.files))

pub returns-clause-goes : goal.returns-clause-goes
returns-clause-goes g c =
    let now = c.begin_turn.new.self.now in (
      now,
      λ x network over here more.
          let y = with_moments x (now ∷ []) in
          let b = c.in_ok-begin_turn.ensures.goes (with_posted x c.args.board.now) network (g.K.Sink.pieces c.args.output.now) here more in
          (b.0, c.in_ok-tell_all.ensures.goes y Sending network (c.in_ok-command.ensures.goes (with_posted y c.args.board.now) network (record { script = over.script; files = over.files }) b.1)),
    )

pub returns-clause-cause : goal.returns-clause-cause
returns-clause-cause g c network =
    c.in_ok-tell_all.ensures.cause network (g.D.Files.fault_count c.command.new.files) ∙ c.in_ok-command.ensures.cause network
