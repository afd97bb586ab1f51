use Rattle.std.proofs.Common.{◌∙◌, refl}
use Rattle.std.proofs.lemmas.Result.{err_from_is_err_and}
use Rattle.norm_turns.proofs.FaultLemmas.{at_fault, on_ok, on_err}
use Rattle.norm_turns.specs.declared.fault.SessionFault.TheVariants as fault
use Rattle.driven_nodes.proofs.GatherLemmas.{heard_all, heard_counted, lacks_memory}
use Rattle.driven_nodes.proofs.gathering.Gathering.hear.Goals as goal

pub returns-in_err-deliver-clause-stops : goal.returns-in_err-deliver-clause-stops
returns-in_err-deliver-clause-stops g c =
    let exit = err_from_is_err_and c.from_residual.result c.from_residual.ensures.1 in
    at_fault _ c.from_residual.result exit.0 fault.Memory exit.1 (exit.2 ∙ c.in_err-deliver.ensures.cause)
    (λ state stands. lacks_memory (g.K.Sink.pieces c.args.output.now) (g.K.Sink.pieces c.args.output.now) _ refl)

pub returns-in_err-count_line-clause-stops : goal.returns-in_err-count_line-clause-stops
returns-in_err-count_line-clause-stops g c =
    let exit = err_from_is_err_and c.from_residual-in_err-count_line.result c.from_residual-in_err-count_line.ensures.1 in
    at_fault _ c.from_residual-in_err-count_line.result exit.0 fault.Memory exit.1 (exit.2 ∙ c.in_err-count_line.ensures.cause)
    (λ state stands. lacks_memory (g.K.Sink.pieces c.args.output.now) (g.K.Sink.pieces c.args.output.now) _ refl)

pub answer_all-requires : goal.answer_all-requires
answer_all-requires g c =
    let x = c.requires.state in
    record {
      hearers = _;
      heard = heard_counted c.args.members.now c.args.now c.args.octets.now x c.args.self.now c.deliver.new.self c.count_line.new.self
          (c.in_ok-deliver.ensures.goes c.args.members.now x c.requires.stands) c.in_ok-count_line.ensures.counted;
    }

pub returns-clause-goes : goal.returns-clause-goes
returns-clause-goes g c =
    on_ok c.answer_all.result
    (λ goes x stands.
    let delivered = c.in_ok-deliver.ensures.goes c.args.members.now x stands in
    let counted = c.in_ok-count_line.ensures.counted in
    heard_all c.args.members.now c.args.now c.args.octets.now x c.args.self.now c.deliver.new.self c.count_line.new.self c.answer_all.new.self
    (g.K.Sink.pieces c.args.output.now) (g.K.Sink.pieces c.answer_all.new.output) stands delivered counted
    (goes _ (heard_counted c.args.members.now c.args.now c.args.octets.now x c.args.self.now c.deliver.new.self c.count_line.new.self delivered counted)))
    c.answer_all.ensures.goes

pub returns-clause-stops : goal.returns-clause-stops
returns-clause-stops g c =
    on_err _ _ c.answer_all.result
    (λ failed stops x stands.
    stops _ (heard_counted c.args.members.now c.args.now c.args.octets.now x c.args.self.now c.deliver.new.self c.count_line.new.self
    (c.in_ok-deliver.ensures.goes c.args.members.now x stands) c.in_ok-count_line.ensures.counted))
    c.answer_all.ensures.stops
