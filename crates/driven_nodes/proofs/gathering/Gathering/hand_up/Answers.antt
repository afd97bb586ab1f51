use Rattle.std.proofs.Common.{◌∙◌, refl, Some}
use Rattle.std.proofs.lemmas.Result.{err_from_is_err_and}
use Rattle.norm_turns.proofs.FaultLemmas.{at_fault, on_ok, on_err}
use Rattle.norm_turns.specs.declared.fault.SessionFault.TheVariants as fault
use Rattle.driven_nodes.proofs.GatherLemmas.{gave_this, hands_one, hands_broken, hands_none, keeps_none, keeps_taken, lacks_memory}
use Rattle.driven_nodes.proofs.gathering.Gathering.hand_up.Goals as goal

-- nothing is left
pub returns-in_default-clause-goes : goal.returns-in_default-clause-goes
returns-in_default-clause-goes g c =
    let old = c.args.self.now in
    hands_none old (record old { multi = c.take_up.new.self }) c.args.sender c.args.node (g.K.Sink.pieces c.args.output.now) c.in_default.ensures.none.1 refl

pub returns-in_default-clause-keeps : goal.returns-in_default-clause-keeps
returns-in_default-clause-keeps g c =
    let old = c.args.self.now in
    keeps_none old (record old { multi = c.take_up.new.self }) c.args.sender c.in_default.ensures.none.1 refl refl refl

-- no instance, or no room for the count
pub returns-in_default-within-clause-stops : goal.returns-in_default-within-clause-stops
returns-in_default-within-clause-stops g c h at = lacks_memory (g.K.Sink.pieces c.args.output.now) (g.K.Sink.pieces c.args.output.now) _ refl

pub returns-in_err-count_up-clause-stops : goal.returns-in_err-count_up-clause-stops
returns-in_err-count_up-clause-stops g c =
    let exit = err_from_is_err_and c.from_residual.result c.from_residual.ensures.1 in
    at_fault _ c.from_residual.result exit.0 fault.Memory exit.1 (exit.2 ∙ c.in_err-count_up.ensures.cause)
    (λ h at. lacks_memory (g.K.Sink.pieces c.args.output.now) (g.K.Sink.pieces c.args.output.now) _ refl)

-- its line
pub returns-clause-goes : goal.returns-clause-goes
returns-clause-goes g c =
    let old = c.args.self.now in
    on_ok c.write_of.result
    (λ written.
    hands_one old (record old { multi = c.take_up.new.self; counts = c.count_up.new.counts; line = c.write_of.new.line }) c.args.sender c.args.node c.in-Some-within.instance
    c.instance-within.result c.receiver.result.now c.in-Some.up (g.K.Sink.pieces c.args.output.now) (g.K.Sink.pieces c.write_of.new.output)
    c.take_up.ensures.call (gave_this c.args.self.now.multi c.args.sender c.take_up.result (Some c.in-Some.up) c.in-Some.is c.take_up.ensures.answer) c.receiver.ensures c.instance-within.ensures c.in-Some-within.is c.in_ok-count_up.ensures.counted written)
    c.write_of.ensures.written

pub returns-clause-keeps : goal.returns-clause-keeps
returns-clause-keeps g c =
    let old = c.args.self.now in
    on_ok c.write_of.result
    (λ written.
    keeps_taken old (record old { multi = c.take_up.new.self; counts = c.count_up.new.counts; line = c.write_of.new.line }) c.args.sender c.take_up.ensures.call refl refl refl)
    c.write_of.ensures.written

pub returns-clause-stops : goal.returns-clause-stops
returns-clause-stops g c =
    on_err _ _ c.write_of.result
    (λ failed un h at.
    hands_broken failed c.args.self.now.multi c.args.sender c.args.node c.in-Some-within.instance c.instance-within.result c.receiver.result.now c.in-Some.up
    (g.K.Sink.pieces c.args.output.now) (g.K.Sink.pieces c.write_of.new.output) h at (gave_this c.args.self.now.multi c.args.sender c.take_up.result (Some c.in-Some.up) c.in-Some.is c.take_up.ensures.answer) c.receiver.ensures c.instance-within.ensures
    c.in-Some-within.is un)
    c.write_of.ensures.stops
