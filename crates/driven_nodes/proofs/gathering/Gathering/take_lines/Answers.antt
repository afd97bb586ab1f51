use Rattle.std.proofs.Common.{◌∙◌, ◌+◌, sym, ap, refl, subst}
use Rattle.std.proofs.lemmas.Result.{err_from_is_err_and}
use Rattle.norm_turns.specs.Causes.{Counted, counted}
use Rattle.norm_turns.proofs.FaultLemmas.{at_fault, cause_exit}
use Rattle.norm_turns.specs.declared.fault.SessionFault.TheVariants as fault
use Rattle.driven_nodes.specs.Hearing.{TakesLine}
use Rattle.driven_nodes.proofs.GatherLemmas.{from_line, leads_begin, leads_on, leads_stop, leads_break, leads_lack, leads_end, leads_end_break, no_line}
use Rattle.driven_nodes.proofs.gathering.Gathering.take_lines.Goals as goal

pub lines-init : goal.lines-init
lines-init g c = record {
  ready = c.requires;
  going = λ x stands. leads_begin c.args.members.now 1 c.args.text.now x c.args.self.now (g.K.Sink.pieces c.args.output.now) stands;
  writes = refl;
}

-- a fault at a line
pub returns-in_err-why-clause-stops : goal.returns-in_err-why-clause-stops
returns-in_err-why-clause-stops g c =
    let exit = err_from_is_err_and c.from_residual.result c.from_residual.ensures.1 in
    let f = c.in_err-why.field-0.0 in
    let more = c.first_line.result.1.now in
    at_fault _ c.from_residual.result exit.0 f exit.1 exit.2
    (λ x stands.
    let so = c.lines.invariant.going x stands in
    leads_break f c.args.members.now (from_line 1 c.args.text.now x) c.lines.number c.lines.rest.now c.first_line.result.0.now more c.lines.self
    (g.K.Sink.pieces c.args.output.now) (g.K.Sink.pieces c.lines.output) (g.K.Sink.pieces c.take_line.new.output) so c.first_line.ensures.lines
    (c.in_err-why.ensures.stops so.state (from_line (c.lines.number + 1) more) so.stands))

-- a line that spells no datagram
pub returns-in-Some-clause-goes : goal.returns-in-Some-clause-goes
returns-in-Some-clause-goes g c x stands =
    let so = c.lines.invariant.going x stands in
    leads_stop c.args.members.now (from_line 1 c.args.text.now x) c.lines.number c.in-Some.why c.lines.rest.now c.first_line.result.0.now c.first_line.result.1.now
    c.lines.self c.take_line.new.self (g.K.Sink.pieces c.args.output.now) (g.K.Sink.pieces c.lines.output) (g.K.Sink.pieces c.take_line.new.output) so
    c.first_line.ensures.lines
    (subst (λ o. TakesLine c.args.members.now c.lines.number c.first_line.result.0.now so.state c.take_line.new.self (g.K.Sink.pieces c.lines.output)
    (g.K.Sink.pieces c.take_line.new.output) o) c.in-Some.is (c.in_ok-why.ensures.goes so.state so.stands))

-- a number that does not fit
pub returns-in_err-number-clause-stops : goal.returns-in_err-number-clause-stops
returns-in_err-number-clause-stops g c =
    let exit = err_from_is_err_and c.from_residual-in_err-number.result c.from_residual-in_err-number.ensures.1 in
    let more = c.first_line.result.1.now in
    at_fault _ c.from_residual-in_err-number.result exit.0 fault.Memory exit.1 (exit.2 ∙ c.in_err-number.ensures.cause)
    (λ x stands.
    let so = c.lines.invariant.going x stands in
    leads_lack c.args.members.now (from_line 1 c.args.text.now x) (from_line (c.lines.number + 1) more) c.take_line.new.self (g.K.Sink.pieces c.args.output.now)
    (g.K.Sink.pieces c.take_line.new.output)
    (leads_on c.args.members.now (from_line 1 c.args.text.now x) c.lines.number (c.lines.number + 1) c.lines.rest.now c.first_line.result.0.now more c.lines.self
    c.take_line.new.self (g.K.Sink.pieces c.args.output.now) (g.K.Sink.pieces c.lines.output) (g.K.Sink.pieces c.take_line.new.output) so c.first_line.ensures.lines refl
    (subst (λ o. TakesLine c.args.members.now c.lines.number c.first_line.result.0.now so.state c.take_line.new.self (g.K.Sink.pieces c.lines.output)
    (g.K.Sink.pieces c.take_line.new.output) o) c.in_default.is (c.in_ok-why.ensures.goes so.state so.stands))))

pub lines-preserved : goal.lines-preserved
lines-preserved g c = record {
  ready = c.in_ok-why.ensures.ready;
  going = λ x stands.
      let so = c.lines.invariant.going x stands in
      leads_on c.args.members.now (from_line 1 c.args.text.now x) c.lines.number c.in_ok-number.number c.lines.rest.now c.first_line.result.0.now
      c.first_line.result.1.now c.lines.self c.take_line.new.self (g.K.Sink.pieces c.args.output.now) (g.K.Sink.pieces c.lines.output)
      (g.K.Sink.pieces c.take_line.new.output) so c.first_line.ensures.lines c.in_ok-number.ensures.next
      (subst (λ o. TakesLine c.args.members.now c.lines.number c.first_line.result.0.now so.state c.take_line.new.self (g.K.Sink.pieces c.lines.output)
      (g.K.Sink.pieces c.take_line.new.output) o) c.in_default.is (c.in_ok-why.ensures.goes so.state so.stands));
  writes = ap (λ (k : Counted). k.output) (c.in_ok-why.ensures.cause 0 0) ∙ c.lines.invariant.writes;
}

-- the last line
pub returns-in_err-write_last-clause-stops : goal.returns-in_err-write_last-clause-stops
returns-in_err-write_last-clause-stops g c =
    let exit = err_from_is_err_and c.from_residual-in_err-write_last.result c.from_residual-in_err-write_last.ensures.1 in
    let f = c.in_err-write_last.field-0.0 in
    at_fault _ c.from_residual-in_err-write_last.result exit.0 f exit.1 exit.2
    (λ x stands.
    leads_end_break f c.args.members.now (from_line 1 c.args.text.now x) c.lines.number c.lines.rest.now c.lines.self (g.K.Sink.pieces c.args.output.now)
    (g.K.Sink.pieces c.lines.output) (g.K.Sink.pieces c.write_last.new.output) (c.lines.invariant.going x stands)
    (no_line c.lines.rest.now (sym c.is_empty.ensures ∙ c.lines-test.false)) c.in_err-write_last.ensures.stops)

pub returns-clause-goes : goal.returns-clause-goes
returns-clause-goes g c x stands =
    leads_end c.args.members.now (from_line 1 c.args.text.now x) c.lines.number c.lines.rest.now c.lines.self (g.K.Sink.pieces c.args.output.now)
    (g.K.Sink.pieces c.lines.output) (g.K.Sink.pieces c.write_last.new.output) (c.lines.invariant.going x stands)
    (no_line c.lines.rest.now (sym c.is_empty.ensures ∙ c.lines-test.false)) c.in_ok-write_last.ensures.written

-- its writes
pub returns-in-Some-clause-cause : goal.returns-in-Some-clause-cause
returns-in-Some-clause-cause g c network files =
    c.in_ok-why.ensures.cause network files ∙ ap (λ n. counted n network files) c.lines.invariant.writes

pub returns-in_err-number-clause-cause : goal.returns-in_err-number-clause-cause
returns-in_err-number-clause-cause g c network files =
    let exit = err_from_is_err_and c.from_residual-in_err-number.result c.from_residual-in_err-number.ensures.1 in
    cause_exit _ c.from_residual-in_err-number.result exit.0 fault.Memory _ _ _ exit.1 (exit.2 ∙ c.in_err-number.ensures.cause)
    (c.in_ok-why.ensures.cause network files ∙ ap (λ n. counted n network files) c.lines.invariant.writes) refl

pub returns-clause-cause : goal.returns-clause-cause
returns-clause-cause g c network files =
    c.in_ok-write_last.ensures.cause network files ∙ ap (λ n. counted n network files) c.lines.invariant.writes
