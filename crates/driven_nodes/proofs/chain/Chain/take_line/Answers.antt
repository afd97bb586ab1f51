use Rattle.std.proofs.Common.{◌∙◌, refl, sym, subst}
use Rattle.std.proofs.lemmas.Result.{err_from_is_err_and}
use Rattle.norm_turns.proofs.FaultLemmas.{at_fault}
use Rattle.norm_turns.specs.declared.fault.SessionFault.TheVariants as fault
use Rattle.driven_nodes.specs.Chaining.{DoesUnless}
use Rattle.driven_nodes.specs.Relayed.{takes_line, takes_one}
use Rattle.driven_nodes.proofs.ChainLemmas.{line_does, line_breaks, line_halts, lacks}
use Rattle.driven_nodes.proofs.chain.Chain.take_line.Goals as goal

pub returns-in_err-found-clause-stops : goal.returns-in_err-found-clause-stops
returns-in_err-found-clause-stops g c =
    let exit = err_from_is_err_and c.from_residual.result c.from_residual.ensures.1 in
    at_fault _ c.from_residual.result exit.0 fault.Memory exit.1 exit.2
    (lacks (takes_line c.args.number c.args.line.now) c.args.self.now (g.K.Sink.pieces c.args.output.now) (g.K.Sink.pieces c.args.output.now) refl)

pub returns-in_err-refused-clause-stops : goal.returns-in_err-refused-clause-stops
returns-in_err-refused-clause-stops g c =
    let exit = err_from_is_err_and c.from_residual-in_err-refused.result c.from_residual-in_err-refused.ensures.1 in
    let f = c.in_err-refused.field-0.0 in
    at_fault _ c.from_residual-in_err-refused.result exit.0 f exit.1 exit.2
    (line_breaks f c.args.number c.args.line.now c.in-Some.event c.args.self.now (g.K.Sink.pieces c.args.output.now) (g.K.Sink.pieces c.count_event.new.output)
    (sym c.in_ok-found.ensures ∙ c.in-Some.is) c.in_err-refused.ensures.stops)

pub returns-clause-goes : goal.returns-clause-goes
returns-clause-goes g c =
    line_does c.args.number c.args.line.now c.in-Some.event c.end_of.result c.args.self.now c.count_event.new.self (g.K.Sink.pieces c.args.output.now)
    (g.K.Sink.pieces c.count_event.new.output) (sym c.in_ok-found.ensures ∙ c.in-Some.is)
    (subst (λ how. DoesUnless (takes_one c.in-Some.event c.args.number) how c.args.self.now c.count_event.new.self (g.K.Sink.pieces c.args.output.now)
    (g.K.Sink.pieces c.count_event.new.output)) (sym c.end_of.ensures) c.in_ok-refused.ensures.goes)

pub returns-in_default-clause-goes : goal.returns-in_default-clause-goes
returns-in_default-clause-goes g c =
    line_halts c.args.number c.args.line.now c.why_no_event-why.result c.args.self.now (g.K.Sink.pieces c.args.output.now) (sym c.in_ok-found.ensures ∙ c.in_default.is)
    c.why_no_event-why.ensures
