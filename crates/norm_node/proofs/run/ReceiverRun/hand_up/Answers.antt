use Rattle.std.proofs.Common.{◌∙◌, sym, ap, ◌∷◌, []}
use Rattle.std.proofs.lemmas.Result.{err_from_is_err_and}
use Rattle.norm_base.specs.Told.{gained}
use Rattle.norm_turns.specs.Causes.{counted}
use Rattle.norm_turns.specs.declared.fault.SessionFault.TheVariants as fault
use Rattle.norm_turns.proofs.FaultLemmas.{at_fault, cause_exit}
use Rattle.norm_node.proofs.GoesLemmas.{hands_on, put_stops}
use Rattle.norm_node.proofs.run.ReceiverRun.hand_up.Goals as goal

pub returns-in_err-put_file-clause-stops : goal.returns-in_err-put_file-clause-stops
returns-in_err-put_file-clause-stops g c =
    let exit = err_from_is_err_and c.from_residual-in_err-put_file.result c.from_residual-in_err-put_file.ensures.1 in
    let why = c.in_err-put_file.field-0.0 in
    at_fault _ c.from_residual-in_err-put_file.result exit.0 why exit.1 exit.2
    (λ x o here.
    put_stops x why _ c.args.self.now c.take_up.new.self c.in-Some-within.instance c.in-Some.up o (g.K.Sink.pieces c.args.output.now)
    (g.D.Files.contents c.args.files.now) (g.D.Files.contents c.put_file.new.files) c.self.view_is
    (record {
      profile = c.in-Some.ensures.profile;
      stands = c.in-Some.ensures.stands;
      within = λ s st. sym c.in-Some-within.is ∙ c.instance-within.ensures s st;
    }) c.in_err-put_file.ensures.stops here)

pub returns-in_err-write-clause-cause : goal.returns-in_err-write-clause-cause
returns-in_err-write-clause-cause g c network =
    let exit = err_from_is_err_and c.from_residual-in_err-write.result c.from_residual-in_err-write.ensures.1 in
    cause_exit _ c.from_residual-in_err-write.result exit.0 fault.Write _
    (counted (g.K.Sink.fault_count c.args.output.now) network (g.D.Files.fault_count c.put_file.new.files)) _ exit.1 exit.2
    (c.in_ok-put_file.ensures.cause (g.K.Sink.fault_count c.args.output.now) network)
    (ap (λ n. counted n network (g.D.Files.fault_count c.put_file.new.files)) c.in_err-write.ensures.cause.exact)

pub returns-clause-goes : goal.returns-clause-goes
returns-clause-goes g c x o here =
    hands_on x _ c.args.self.now c.take_up.new.self c.in-Some-within.instance c.in-Some.up o (g.K.Sink.pieces c.args.output.now)
    (g.K.Sink.pieces c.note.new.self) (g.D.Files.contents c.args.files.now) (g.D.Files.contents c.put_file.new.files) c.self.view_is
    (record {
      profile = c.in-Some.ensures.profile;
      stands = c.in-Some.ensures.stands;
      within = λ s st. sym c.in-Some-within.is ∙ c.instance-within.ensures s st;
    }) c.in_ok-put_file.ensures.put
    (c.note.ensures.same ∙ c.in_ok-write.ensures.ok
    ∙ ap (λ l. gained (g.K.Sink.pieces c.args.output.now) (l ∷ [])) (c.bytes.ensures ∙ c.in_ok-up_line.ensures)) here

pub returns-clause-cause : goal.returns-clause-cause
returns-clause-cause g c network =
    ap (λ n. counted n network (g.D.Files.fault_count c.put_file.new.files)) (c.note.ensures.cause ∙ c.in_ok-write.ensures.cause.exact)
    ∙ c.in_ok-put_file.ensures.cause (g.K.Sink.fault_count c.args.output.now) network
