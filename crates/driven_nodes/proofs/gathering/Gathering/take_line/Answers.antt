use Rattle.std.proofs.Common.{◌∙◌, sym, refl}
use Rattle.std.proofs.lemmas.Result.{err_from_is_err_and}
use Rattle.norm_turns.proofs.FaultLemmas.{at_fault}
use Rattle.norm_turns.specs.declared.fault.SessionFault.TheVariants as fault
use Rattle.driven_nodes.proofs.GatherLemmas.{takes_empty, takes_datagram, takes_none, line_breaks, ready_heard, lacks_memory, no_line, some_line, heard_at, breaks_at}
use Rattle.driven_nodes.proofs.gathering.Gathering.take_line.Goals as goal

-- an empty line
pub returns-then-is_empty-clause-goes : goal.returns-then-is_empty-clause-goes
returns-then-is_empty-clause-goes g c x stands =
    takes_empty c.args.members.now c.args.number c.args.line.now x c.args.self.now (g.K.Sink.pieces c.args.output.now)
    (no_line c.args.line.now (sym c.is_empty.ensures ∙ c.if-is_empty.true)) stands

-- no memory for the datagram
pub returns-in_err-datagram-clause-stops : goal.returns-in_err-datagram-clause-stops
returns-in_err-datagram-clause-stops g c =
    let exit = err_from_is_err_and c.from_residual.result c.from_residual.ensures.1 in
    at_fault _ c.from_residual.result exit.0 fault.Memory exit.1 exit.2
    (λ x rest stands. lacks_memory (g.K.Sink.pieces c.args.output.now) (g.K.Sink.pieces c.args.output.now) _ refl)

-- a line that spells no datagram
pub returns-in_default-clause-goes : goal.returns-in_default-clause-goes
returns-in_default-clause-goes g c x stands =
    takes_none c.args.members.now c.args.number c.args.line.now c.why_none.result x c.args.self.now (g.K.Sink.pieces c.args.output.now)
    (some_line c.args.line.now (sym c.is_empty.ensures ∙ c.if-is_empty.false)) (sym c.in_ok-datagram.ensures ∙ c.in_default.is) c.why_none.ensures

-- a datagram
pub returns-in_err-hear-clause-stops : goal.returns-in_err-hear-clause-stops
returns-in_err-hear-clause-stops g c =
    let exit = err_from_is_err_and c.from_residual-in_err-hear.result c.from_residual-in_err-hear.ensures.1 in
    let f = c.in_err-hear.field-0.0 in
    at_fault _ c.from_residual-in_err-hear.result exit.0 f exit.1 exit.2
    (λ x rest stands.
    line_breaks f c.args.number c.args.line.now c.in-Some.datagram x rest (g.K.Sink.pieces c.args.output.now) (g.K.Sink.pieces c.hear.new.output)
    (some_line c.args.line.now (sym c.is_empty.ensures ∙ c.if-is_empty.false)) (sym c.in_ok-datagram.ensures ∙ c.in-Some.is)
    (breaks_at f c.args.number c.moment_of.result c.in-Some.datagram _ x (g.K.Sink.pieces c.args.output.now) (g.K.Sink.pieces c.hear.new.output)
    c.moment_of.ensures c.bytes.ensures (c.in_err-hear.ensures.stops x stands)))

pub returns-clause-goes : goal.returns-clause-goes
returns-clause-goes g c x stands =
    takes_datagram c.args.members.now c.args.number c.args.line.now c.in-Some.datagram x c.hear.new.self (g.K.Sink.pieces c.args.output.now)
    (g.K.Sink.pieces c.hear.new.output) (some_line c.args.line.now (sym c.is_empty.ensures ∙ c.if-is_empty.false)) (sym c.in_ok-datagram.ensures ∙ c.in-Some.is)
    (heard_at c.args.members.now c.args.number c.moment_of.result c.in-Some.datagram _ x c.hear.new.self (g.K.Sink.pieces c.args.output.now)
    (g.K.Sink.pieces c.hear.new.output) c.moment_of.ensures c.bytes.ensures (c.in_ok-hear.ensures.goes x stands))

pub returns-clause-ready : goal.returns-clause-ready
returns-clause-ready g c =
    ready_heard c.args.members.now _ _ c.requires.state c.hear.new.self _ _ (c.in_ok-hear.ensures.goes c.requires.state c.requires.stands)
