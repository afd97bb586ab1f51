use Rattle.std.proofs.Common.{◌∙◌}
use Rattle.std.proofs.lemmas.Result.{err_from_is_err_and}
use Rattle.norm_turns.proofs.FaultLemmas.{at_fault, cause_exit}
use Rattle.norm_program.proofs.TailLemmas.{whole_breaks, whole_ends, tail_breaks, end_breaks, last_breaks, tail_ends}
use Rattle.norm_program.proofs.tail.Tails.run.Goals as goal

-- of a session that is whole
pub returns-in_err-write_end-clause-stops : goal.returns-in_err-write_end-clause-stops
returns-in_err-write_end-clause-stops g c =
    let exit = err_from_is_err_and c.from_residual.result c.from_residual.ensures.1 in
    at_fault _ c.from_residual.result exit.0 c.in_err-write_end.field-0.0 exit.1 exit.2
    (λ j is here.
    whole_breaks c.in_err-write_end.field-0.0 c.args.profile.now j c.args.turned c.args.self.now (g.K.Sink.pieces c.args.output.now)
    (g.K.Sink.pieces c.write_end.new.output) is c.if-turned.true here c.in_err-write_end.ensures.stops)

pub returns-then-turned-clause-goes : goal.returns-then-turned-clause-goes
returns-then-turned-clause-goes g c j is here =
    whole_ends c.args.profile.now j c.args.turned c.args.self.now (g.K.Sink.pieces c.args.output.now) (g.K.Sink.pieces c.write_end.new.output) is c.if-turned.true
    here c.in_ok-write_end.ensures.written

-- of one that is not
pub returns-in_err-why-clause-stops : goal.returns-in_err-why-clause-stops
returns-in_err-why-clause-stops g c =
    let exit = err_from_is_err_and c.from_residual-in_err-why.result c.from_residual-in_err-why.ensures.1 in
    at_fault _ c.from_residual-in_err-why.result exit.0 c.in_err-why.field-0.0 exit.1 exit.2
    (λ j is here.
    tail_breaks c.in_err-why.field-0.0 c.args.profile.now j c.args.turned (g.K.Sink.pieces c.args.output.now) (g.K.Sink.pieces c.go_on.new.output) is
    c.if-turned.false (c.in_err-why.ensures.stops j (g.K.Sink.pieces c.args.output.now) is here))

pub returns-in_err-write_end-2-clause-stops : goal.returns-in_err-write_end-2-clause-stops
returns-in_err-write_end-2-clause-stops g c =
    let exit = err_from_is_err_and c.from_residual-in_err-write_end-2.result c.from_residual-in_err-write_end-2.ensures.1 in
    at_fault _ c.from_residual-in_err-write_end-2.result exit.0 c.in_err-write_end-2.field-0.0 exit.1 exit.2
    (λ j is here.
    let went = c.in_ok-why.ensures.leads j (g.K.Sink.pieces c.args.output.now) is here in
    end_breaks c.in_err-write_end-2.field-0.0 c.args.profile.now j c.args.turned c.go_on.new.self (g.K.Sink.pieces c.args.output.now)
    (g.K.Sink.pieces c.go_on.new.output) (g.K.Sink.pieces c.write_end-2.new.output) is c.if-turned.false went.0 c.in_err-write_end-2.ensures.stops)

pub returns-in_err-write_last-clause-stops : goal.returns-in_err-write_last-clause-stops
returns-in_err-write_last-clause-stops g c =
    let exit = err_from_is_err_and c.from_residual-in_err-write_last.result c.from_residual-in_err-write_last.ensures.1 in
    at_fault _ c.from_residual-in_err-write_last.result exit.0 c.in_err-write_last.field-0.0 exit.1 exit.2
    (λ j is here.
    let went = c.in_ok-why.ensures.leads j (g.K.Sink.pieces c.args.output.now) is here in
    last_breaks c.in_err-write_last.field-0.0 c.args.profile.now j c.args.turned c.go_on.new.self c.in_ok-why.why (g.K.Sink.pieces c.args.output.now)
    (g.K.Sink.pieces c.go_on.new.output) (g.K.Sink.pieces c.write_end-2.new.output) (g.K.Sink.pieces c.write_last.new.output) is c.if-turned.false went.0 went.1
    c.in_ok-write_end-2.ensures.written c.in_err-write_last.ensures.stops)

pub returns-clause-goes : goal.returns-clause-goes
returns-clause-goes g c j is here =
    let went = c.in_ok-why.ensures.leads j (g.K.Sink.pieces c.args.output.now) is here in
    let ends =
    tail_ends c.args.profile.now j c.args.turned c.go_on.new.self c.in_ok-why.why (g.K.Sink.pieces c.args.output.now)
    (g.K.Sink.pieces c.go_on.new.output) (g.K.Sink.pieces c.write_end-2.new.output) (g.K.Sink.pieces c.write_last.new.output) is c.if-turned.false went.0 went.1
    c.in_ok-write_end-2.ensures.written c.in_ok-write_last.ensures.written in
    (c.ending_of.ensures ∙ ends.0, ends.1)

-- its writes
pub returns-in_err-write_end-2-clause-cause : goal.returns-in_err-write_end-2-clause-cause
returns-in_err-write_end-2-clause-cause g c network files =
    let exit = err_from_is_err_and c.from_residual-in_err-write_end-2.result c.from_residual-in_err-write_end-2.ensures.1 in
    cause_exit _ c.from_residual-in_err-write_end-2.result exit.0 c.in_err-write_end-2.field-0.0 _ _ _ exit.1 exit.2
    (c.in_ok-why.ensures.cause network files) (c.in_err-write_end-2.ensures.cause network files)

pub returns-in_err-write_last-clause-cause : goal.returns-in_err-write_last-clause-cause
returns-in_err-write_last-clause-cause g c network files =
    let exit = err_from_is_err_and c.from_residual-in_err-write_last.result c.from_residual-in_err-write_last.ensures.1 in
    cause_exit _ c.from_residual-in_err-write_last.result exit.0 c.in_err-write_last.field-0.0 _ _ _ exit.1 exit.2
    (c.in_ok-write_end-2.ensures.cause network files ∙ c.in_ok-why.ensures.cause network files) (c.in_err-write_last.ensures.cause network files)

pub returns-clause-cause : goal.returns-clause-cause
returns-clause-cause g c network files =
    c.in_ok-write_last.ensures.cause network files ∙ c.in_ok-write_end-2.ensures.cause network files ∙ c.in_ok-why.ensures.cause network files
