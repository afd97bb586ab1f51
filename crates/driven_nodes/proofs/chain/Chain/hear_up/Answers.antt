use Rattle.std.proofs.Common.{◌∙◌, refl}
use Rattle.std.proofs.lemmas.Result.{err_from_is_err_and}
use Rattle.norm_turns.proofs.FaultLemmas.{at_fault, on_ok, on_err}
use Rattle.norm_turns.specs.declared.fault.SessionFault.TheVariants as fault
use Rattle.driven_nodes.specs.Relayed.{hears_up}
use Rattle.driven_nodes.proofs.ChainLemmas.{hears_taken, hears_busy, hears_less, lacks}
use Rattle.driven_nodes.proofs.chain.Chain.hear_up.Goals as goal

pub returns-in_err-taken-clause-stops : goal.returns-in_err-taken-clause-stops
returns-in_err-taken-clause-stops g c =
    let exit = err_from_is_err_and c.from_residual.result c.from_residual.ensures.1 in
    at_fault _ c.from_residual.result exit.0 fault.Memory exit.1 (exit.2 ∙ c.in_err-taken.ensures.cause)
    (lacks (hears_up c.args.octets.now c.args.now) c.args.self.now (g.K.Sink.pieces c.args.output.now) (g.K.Sink.pieces c.args.output.now) refl)

pub returns-then-taken-clause-goes : goal.returns-then-taken-clause-goes
returns-then-taken-clause-goes g c =
    hears_taken c.args.octets.now c.args.now c.in_ok-taken.taken c.args.self.now c.deliver_up.new.self (g.K.Sink.pieces c.args.output.now) c.in_ok-taken.ensures.goes
    c.if-taken.true

pub returns-clause-goes : goal.returns-clause-goes
returns-clause-goes g c =
    on_ok c.write_busy.result
    (hears_busy c.args.octets.now c.args.now c.in_ok-taken.taken c.args.self.now c.deliver_up.new.self c.write_busy.new.line (g.K.Sink.pieces c.args.output.now)
    (g.K.Sink.pieces c.write_busy.new.output) c.in_ok-taken.ensures.goes c.if-taken.false)
    c.write_busy.ensures.written

pub returns-clause-stops : goal.returns-clause-stops
returns-clause-stops g c =
    on_err _ _ c.write_busy.result
    (λ failed.
    hears_less failed c.args.octets.now c.args.now c.in_ok-taken.taken c.args.self.now c.deliver_up.new.self (g.K.Sink.pieces c.args.output.now)
    (g.K.Sink.pieces c.write_busy.new.output) c.in_ok-taken.ensures.goes c.if-taken.false)
    c.write_busy.ensures.stops
