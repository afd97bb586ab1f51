use Rattle.std.proofs.Common.{◌∙◌, refl}
use Rattle.std.specs.Option.{option_map}
use Rattle.std.proofs.lemmas.Result.{err_from_is_err_and}
use Rattle.norm_turns.proofs.FaultLemmas.{at_fault, on_err}
use Rattle.norm_turns.specs.declared.fault.SessionFault.TheVariants as fault
use Rattle.relay_words.specs.declared.ends.RelayEnd.TheVariants as stop
use Rattle.driven_nodes.specs.Gathered.{moment_of_line}
use Rattle.driven_nodes.specs.Relayed.{counts, takes_event, takes_one}
use Rattle.driven_nodes.proofs.ChainLemmas.{counted_one, unless_on, breaks_on, if_ok, lacks, does_at, breaks_at}
use Rattle.driven_nodes.proofs.chain.Chain.count_event.Goals as goal

pub returns-in_err-lines-clause-stops : goal.returns-in_err-lines-clause-stops
returns-in_err-lines-clause-stops g c =
    let exit = err_from_is_err_and c.from_residual.result c.from_residual.ensures.1 in
    at_fault _ c.from_residual.result exit.0 fault.Memory exit.1 (exit.2 ∙ c.in_err-lines.ensures.cause)
    (lacks (takes_one c.args.event c.args.number) c.args.self.now (g.K.Sink.pieces c.args.output.now) (g.K.Sink.pieces c.args.output.now) refl)

pub returns-clause-goes : goal.returns-clause-goes
returns-clause-goes g c =
    let u = g.K.Sink.pieces c.args.output.now in
    if_ok c.take_event.result
    (λ refused goes.
    unless_on (option_map stop.Refused refused) counts (takes_event c.args.event (moment_of_line c.args.number)) c.args.self.now (record (c.args.self.now) { lines = c.in_ok-lines.lines }) c.take_event.new.self u u (g.K.Sink.pieces c.take_event.new.output)
    (counted_one c.args.self.now c.in_ok-lines.lines u c.in_ok-lines.ensures.sum)
    (does_at c.args.event (option_map stop.Refused refused) c.args.number c.moment_of.result _ c.take_event.new.self u (g.K.Sink.pieces c.take_event.new.output)
    c.moment_of.ensures goes))
    c.take_event.ensures.goes

pub returns-clause-stops : goal.returns-clause-stops
returns-clause-stops g c =
    let u = g.K.Sink.pieces c.args.output.now in
    on_err _ _ c.take_event.result
    (λ failed stops.
    breaks_on failed counts (takes_event c.args.event (moment_of_line c.args.number)) c.args.self.now (record (c.args.self.now) { lines = c.in_ok-lines.lines }) u u (g.K.Sink.pieces c.take_event.new.output)
    (counted_one c.args.self.now c.in_ok-lines.lines u c.in_ok-lines.ensures.sum)
    (breaks_at failed c.args.event c.args.number c.moment_of.result _ u (g.K.Sink.pieces c.take_event.new.output) c.moment_of.ensures stops))
    c.take_event.ensures.stops
