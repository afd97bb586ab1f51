use Rattle.std.proofs.Common.{◌∙◌, sym, ap, subst, ◌∷◌, [], Some}
use Rattle.std.proofs.lemmas.Result.{err_from_is_err_and}
use Rattle.norm_base.specs.Told.{gained}
use Rattle.norm_turns.specs.Printing.{IsUnwritten}
use Rattle.norm_turns.proofs.FaultLemmas.{at_fault}
use Rattle.norm_session.proofs.HandingLemmas.{hands_on, hand_stops}
use Rattle.norm_session.proofs.run.Run.hand_up.Goals as goal

pub returns-in_err-write_line-clause-stops : goal.returns-in_err-write_line-clause-stops
returns-in_err-write_line-clause-stops g c =
    let exit = err_from_is_err_and c.from_residual-in_err-write_line.result c.from_residual-in_err-write_line.ensures.1 in
    let failed = c.in_err-write_line.field-0.0 in
    at_fault _ c.from_residual-in_err-write_line.result exit.0 failed exit.1 exit.2
    (λ x nodes network here.
    hand_stops x failed _ c.args.self.now c.take_up.new.self c.args.node c.in-Some-within.instance nodes c.in-Some.up network
    (g.K.Sink.pieces c.args.output.now) (g.K.Sink.pieces c.write_line.new.output) c.self.view_is
    (record {
      nodes = c.in-Some.ensures.profile;
      event = c.in-Some.ensures.event;
      within = λ w st. sym c.in-Some-within.is ∙ c.instance_at-within.ensures w st;
    })
    (subst (λ l. IsUnwritten failed (g.K.Sink.pieces c.args.output.now) (g.K.Sink.pieces c.write_line.new.output) (Some l)) c.in_ok-up_line.ensures
    c.in_err-write_line.ensures.stops) here)

pub returns-clause-goes : goal.returns-clause-goes
returns-clause-goes g c x nodes network here =
    hands_on x _ c.args.self.now c.take_up.new.self c.note_up.new.journal c.note_up.new.totals c.args.node c.in-Some-within.instance nodes c.in-Some.up network
    (g.K.Sink.pieces c.args.output.now) (g.K.Sink.pieces c.write_line.new.output) c.self.view_is
    (record {
      nodes = c.in-Some.ensures.profile;
      event = c.in-Some.ensures.event;
      within = λ w st. sym c.in-Some-within.is ∙ c.instance_at-within.ensures w st;
    })
    c.in_ok-note_up.ensures.noted c.in_ok-note_up.ensures.counted
    (c.in_ok-write_line.ensures.written ∙ ap (λ l. gained (g.K.Sink.pieces c.args.output.now) (l ∷ [])) c.in_ok-up_line.ensures) here
