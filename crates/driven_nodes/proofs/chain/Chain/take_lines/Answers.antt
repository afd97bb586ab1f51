use Rattle.std.proofs.Common.{◌∙◌, ◌+◌, sym, ap, refl}
use Rattle.std.proofs.lemmas.Result.{err_from_is_err_and}
use Rattle.norm_turns.specs.Causes.{Counted, counted}
use Rattle.norm_turns.proofs.FaultLemmas.{at_fault, cause_exit}
use Rattle.norm_turns.specs.declared.fault.SessionFault.TheVariants as fault
use Rattle.driven_nodes.specs.Relayed.{takes_line}
use Rattle.driven_nodes.proofs.ChainLemmas.{lines_begin, lines_on, lines_halt, lines_break, lines_lack, lines_end, lines_end_break, does_none, halts_some, no_line}
use Rattle.driven_nodes.proofs.chain.Chain.take_lines.Goals as goal

pub lines-init : goal.lines-init
lines-init g c = record {
  going = lines_begin c.args.self.now c.args.text.now (g.K.Sink.pieces c.args.output.now);
  writes = refl;
}

-- a fault at a line
pub returns-in_err-end-clause-stops : goal.returns-in_err-end-clause-stops
returns-in_err-end-clause-stops g c =
    let exit = err_from_is_err_and c.from_residual.result c.from_residual.ensures.1 in
    let f = c.in_err-end.field-0.0 in
    at_fault _ c.from_residual.result exit.0 f exit.1 exit.2
    (lines_break f c.args.self.now c.args.text.now c.lines.number c.lines.rest.now c.first_line.result.0.now c.first_line.result.1.now c.lines.self
    (g.K.Sink.pieces c.args.output.now) (g.K.Sink.pieces c.lines.output) (g.K.Sink.pieces c.take_line.new.output) c.lines.invariant.going c.first_line.ensures.lines
    c.in_err-end.ensures.stops)

-- a line that ends them
pub returns-in-Some-clause-goes : goal.returns-in-Some-clause-goes
returns-in-Some-clause-goes g c =
    lines_halt c.in-Some.end c.args.self.now c.args.text.now c.lines.number c.lines.rest.now c.first_line.result.0.now c.first_line.result.1.now c.lines.self
    (g.K.Sink.pieces c.args.output.now) (g.K.Sink.pieces c.lines.output) (g.K.Sink.pieces c.take_line.new.output) c.lines.invariant.going c.first_line.ensures.lines
    (halts_some (takes_line c.lines.number c.first_line.result.0.now) _ c.in-Some.end c.lines.self c.take_line.new.self (g.K.Sink.pieces c.lines.output)
    (g.K.Sink.pieces c.take_line.new.output) c.in_ok-end.ensures.goes c.in-Some.is)

-- a number that does not fit
pub returns-in_err-number-clause-stops : goal.returns-in_err-number-clause-stops
returns-in_err-number-clause-stops g c =
    let exit = err_from_is_err_and c.from_residual-in_err-number.result c.from_residual-in_err-number.ensures.1 in
    at_fault _ c.from_residual-in_err-number.result exit.0 fault.Memory exit.1 (exit.2 ∙ c.in_err-number.ensures.cause)
    (lines_lack c.args.self.now c.args.text.now (c.lines.number + 1) c.first_line.result.1.now c.take_line.new.self (g.K.Sink.pieces c.args.output.now)
    (g.K.Sink.pieces c.take_line.new.output)
    (lines_on c.args.self.now c.args.text.now c.lines.number (c.lines.number + 1) c.lines.rest.now c.first_line.result.0.now c.first_line.result.1.now c.lines.self
    c.take_line.new.self (g.K.Sink.pieces c.args.output.now) (g.K.Sink.pieces c.lines.output) (g.K.Sink.pieces c.take_line.new.output) c.lines.invariant.going
    c.first_line.ensures.lines refl
    (does_none (takes_line c.lines.number c.first_line.result.0.now) _ c.lines.self c.take_line.new.self (g.K.Sink.pieces c.lines.output)
    (g.K.Sink.pieces c.take_line.new.output) c.in_ok-end.ensures.goes c.in_default.is)))

pub lines-preserved : goal.lines-preserved
lines-preserved g c = record {
  going = lines_on c.args.self.now c.args.text.now c.lines.number c.in_ok-number.number c.lines.rest.now c.first_line.result.0.now c.first_line.result.1.now
      c.lines.self c.take_line.new.self (g.K.Sink.pieces c.args.output.now) (g.K.Sink.pieces c.lines.output) (g.K.Sink.pieces c.take_line.new.output)
      c.lines.invariant.going c.first_line.ensures.lines c.in_ok-number.ensures.next
      (does_none (takes_line c.lines.number c.first_line.result.0.now) _ c.lines.self c.take_line.new.self (g.K.Sink.pieces c.lines.output)
      (g.K.Sink.pieces c.take_line.new.output) c.in_ok-end.ensures.goes c.in_default.is);
  writes = ap (λ (k : Counted). k.output) (c.in_ok-end.ensures.cause 0 0) ∙ c.lines.invariant.writes;
}

-- the last line
pub returns-in_err-write_last-clause-stops : goal.returns-in_err-write_last-clause-stops
returns-in_err-write_last-clause-stops g c =
    let exit = err_from_is_err_and c.from_residual-in_err-write_last.result c.from_residual-in_err-write_last.ensures.1 in
    let f = c.in_err-write_last.field-0.0 in
    at_fault _ c.from_residual-in_err-write_last.result exit.0 f exit.1 exit.2
    (lines_end_break f c.args.self.now c.args.text.now c.lines.number c.lines.rest.now c.lines.self (g.K.Sink.pieces c.args.output.now)
    (g.K.Sink.pieces c.lines.output) (g.K.Sink.pieces c.write_last.new.output) c.lines.invariant.going
    (no_line c.lines.rest.now (sym c.is_empty.ensures ∙ c.lines-test.false)) c.in_err-write_last.ensures.stops)

pub returns-clause-goes : goal.returns-clause-goes
returns-clause-goes g c =
    lines_end c.args.self.now c.args.text.now c.lines.number c.lines.rest.now c.lines.self (g.K.Sink.pieces c.args.output.now)
    (g.K.Sink.pieces c.lines.output) (g.K.Sink.pieces c.write_last.new.output) c.lines.invariant.going
    (no_line c.lines.rest.now (sym c.is_empty.ensures ∙ c.lines-test.false)) c.in_ok-write_last.ensures.written

-- its writes
pub returns-in-Some-clause-cause : goal.returns-in-Some-clause-cause
returns-in-Some-clause-cause g c network files =
    c.in_ok-end.ensures.cause network files ∙ ap (λ n. counted n network files) c.lines.invariant.writes

pub returns-in_err-number-clause-cause : goal.returns-in_err-number-clause-cause
returns-in_err-number-clause-cause g c network files =
    let exit = err_from_is_err_and c.from_residual-in_err-number.result c.from_residual-in_err-number.ensures.1 in
    cause_exit _ c.from_residual-in_err-number.result exit.0 fault.Memory _ _ _ exit.1 (exit.2 ∙ c.in_err-number.ensures.cause)
    (c.in_ok-end.ensures.cause network files ∙ ap (λ n. counted n network files) c.lines.invariant.writes) refl

pub returns-clause-cause : goal.returns-clause-cause
returns-clause-cause g c network files =
    c.in_ok-write_last.ensures.cause network files ∙ ap (λ n. counted n network files) c.lines.invariant.writes
