use Rattle.std.proofs.Common.{◌∙◌, refl, ap}
use Rattle.std.specs.Option.{option_map}
use Rattle.std.proofs.lemmas.Result.{err_from_is_err_and}
use Rattle.norm_turns.proofs.FaultLemmas.{at_fault}
use Rattle.norm_turns.specs.declared.fault.SessionFault.TheVariants as fault
use Rattle.relay_words.specs.declared.ends.RelayEnd.TheVariants as stop
use Rattle.driven_nodes.specs.Relayed.{answers_below, pumps, ticks_down}
use Rattle.driven_nodes.proofs.ChainLemmas.{goes_on, breaks_on, halts_first, lacks, does_none, halts_some}
use Rattle.driven_nodes.proofs.chain.Chain.answer_below.Goals as goal

pub returns-in_err-fault-clause-stops : goal.returns-in_err-fault-clause-stops
returns-in_err-fault-clause-stops g c =
    let exit = err_from_is_err_and c.from_residual.result c.from_residual.ensures.1 in
    at_fault _ c.from_residual.result exit.0 fault.Memory exit.1 (exit.2 ∙ c.in_err-fault.ensures.cause)
    (lacks (answers_below c.args.now) c.args.self.now (g.K.Sink.pieces c.args.output.now) (g.K.Sink.pieces c.args.output.now) refl)

pub returns-in-Some-clause-goes : goal.returns-in-Some-clause-goes
returns-in-Some-clause-goes g c =
    let u = g.K.Sink.pieces c.args.output.now in
    halts_first (stop.Refused c.in-Some.fault) (pumps c.args.now) (ticks_down c.args.now) c.args.self.now u u
    (halts_some (pumps c.args.now) _ (stop.Refused c.in-Some.fault) c.args.self.now c.pump.new.self u u (c.in_ok-fault.ensures.goes u) (ap (option_map stop.Refused) c.in-Some.is))

pub returns-in_err-tick_down-clause-stops : goal.returns-in_err-tick_down-clause-stops
returns-in_err-tick_down-clause-stops g c =
    let exit = err_from_is_err_and c.from_residual-in_err-tick_down.result c.from_residual-in_err-tick_down.ensures.1 in
    let f = c.in_err-tick_down.field-0.0 in
    let u = g.K.Sink.pieces c.args.output.now in
    at_fault _ c.from_residual-in_err-tick_down.result exit.0 f exit.1 exit.2
    (breaks_on f (pumps c.args.now) (ticks_down c.args.now) c.args.self.now c.pump.new.self u u (g.K.Sink.pieces c.tick_down.new.output)
    (does_none (pumps c.args.now) _ c.args.self.now c.pump.new.self u u (c.in_ok-fault.ensures.goes u) (ap (option_map stop.Refused) c.in_default.is))
    c.in_err-tick_down.ensures.stops)

pub returns-clause-goes : goal.returns-clause-goes
returns-clause-goes g c =
    let u = g.K.Sink.pieces c.args.output.now in
    goes_on (pumps c.args.now) (ticks_down c.args.now) c.args.self.now c.pump.new.self c.tick_down.new.self u u (g.K.Sink.pieces c.tick_down.new.output)
    (does_none (pumps c.args.now) _ c.args.self.now c.pump.new.self u u (c.in_ok-fault.ensures.goes u) (ap (option_map stop.Refused) c.in_default.is))
    c.in_ok-tick_down.ensures.goes
