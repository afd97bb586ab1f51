use Rattle.std.proofs.Common.{◌∙◌}
use Rattle.std.proofs.lemmas.Result.{err_from_is_err_and}
use Rattle.norm_turns.specs.Causes.{counted}
use Rattle.norm_node.specs.Shown.{outside}
use Rattle.norm_turns.proofs.FaultLemmas.{at_fault, cause_exit}
use Rattle.norm_node.proofs.run.ReceiverRun.turn.Goals as goal

pub returns-in_err-take_all-clause-stops : goal.returns-in_err-take_all-clause-stops
returns-in_err-take_all-clause-stops g c =
    let exit = err_from_is_err_and c.from_residual.result c.from_residual.ensures.1 in
    let o = outside (g.F.Fabric.told c.args.fabric.now) (g.K.Sink.pieces c.args.output.now) (g.D.Files.contents c.args.files.now) in
    at_fault _ c.from_residual.result exit.0 c.in_err-take_all.field-0.0 exit.1 exit.2
    (λ x here.
    c.in_err-take_all.ensures.stops x (o (g.C.Clock.moments c.begin_turn.new.clock)) (c.begin_turn.ensures.goes x (o (g.C.Clock.moments c.args.clock.now)) here))

pub returns-in_err-hand_all-clause-stops : goal.returns-in_err-hand_all-clause-stops
returns-in_err-hand_all-clause-stops g c =
    let exit = err_from_is_err_and c.from_residual-in_err-hand_all.result c.from_residual-in_err-hand_all.ensures.1 in
    let o = outside (g.F.Fabric.told c.args.fabric.now) (g.K.Sink.pieces c.args.output.now) (g.D.Files.contents c.args.files.now) in
    let later = g.C.Clock.moments c.begin_turn.new.clock in
    at_fault _ c.from_residual-in_err-hand_all.result exit.0 c.in_err-hand_all.field-0.0 exit.1 exit.2
    (λ x here.
    c.in_err-hand_all.ensures.stops x
    (outside (g.F.Fabric.told c.take_all.new.fabric) (g.K.Sink.pieces c.args.output.now) (g.D.Files.contents c.args.files.now) later)
    (c.in_ok-take_all.ensures.goes x (o later) (c.begin_turn.ensures.goes x (o (g.C.Clock.moments c.args.clock.now)) here)))

pub returns-in_err-hand_all-clause-cause : goal.returns-in_err-hand_all-clause-cause
returns-in_err-hand_all-clause-cause g c =
    let exit = err_from_is_err_and c.from_residual-in_err-hand_all.result c.from_residual-in_err-hand_all.ensures.1 in
    cause_exit _ c.from_residual-in_err-hand_all.result exit.0 c.in_err-hand_all.field-0.0 _ _ _ exit.1 exit.2
    (c.in_ok-take_all.ensures.cause (g.K.Sink.fault_count c.args.output.now) (g.D.Files.fault_count c.args.files.now))
    (c.in_err-hand_all.ensures.cause (g.F.Fabric.fault_count c.take_all.new.fabric))

pub returns-in_err-answer-clause-stops : goal.returns-in_err-answer-clause-stops
returns-in_err-answer-clause-stops g c =
    let exit = err_from_is_err_and c.from_residual-in_err-answer.result c.from_residual-in_err-answer.ensures.1 in
    let o = outside (g.F.Fabric.told c.args.fabric.now) (g.K.Sink.pieces c.args.output.now) (g.D.Files.contents c.args.files.now) in
    let later = g.C.Clock.moments c.begin_turn.new.clock in
    at_fault _ c.from_residual-in_err-answer.result exit.0 c.in_err-answer.field-0.0 exit.1 exit.2
    (λ x here.
    c.in_err-answer.ensures.stops x
    (outside (g.F.Fabric.told c.take_all.new.fabric) (g.K.Sink.pieces c.hand_all.new.output) (g.D.Files.contents c.hand_all.new.files) later)
    (c.in_ok-hand_all.ensures.goes x
    (outside (g.F.Fabric.told c.take_all.new.fabric) (g.K.Sink.pieces c.args.output.now) (g.D.Files.contents c.args.files.now) later)
    (c.in_ok-take_all.ensures.goes x (o later) (c.begin_turn.ensures.goes x (o (g.C.Clock.moments c.args.clock.now)) here))))

pub returns-in_err-answer-clause-cause : goal.returns-in_err-answer-clause-cause
returns-in_err-answer-clause-cause g c =
    let exit = err_from_is_err_and c.from_residual-in_err-answer.result c.from_residual-in_err-answer.ensures.1 in
    cause_exit _ c.from_residual-in_err-answer.result exit.0 c.in_err-answer.field-0.0 _ _ _ exit.1 exit.2
    (c.in_ok-hand_all.ensures.cause (g.F.Fabric.fault_count c.take_all.new.fabric)
    ∙ c.in_ok-take_all.ensures.cause (g.K.Sink.fault_count c.args.output.now) (g.D.Files.fault_count c.args.files.now))
    (c.in_err-answer.ensures.cause (g.K.Sink.fault_count c.hand_all.new.output) (g.D.Files.fault_count c.hand_all.new.files))

pub returns-clause-goes : goal.returns-clause-goes
returns-clause-goes g c x here =
    let o = outside (g.F.Fabric.told c.args.fabric.now) (g.K.Sink.pieces c.args.output.now) (g.D.Files.contents c.args.files.now) in
    let later = g.C.Clock.moments c.begin_turn.new.clock in
    c.in_ok-answer.ensures.goes x
    (outside (g.F.Fabric.told c.take_all.new.fabric) (g.K.Sink.pieces c.hand_all.new.output) (g.D.Files.contents c.hand_all.new.files) later)
    (c.in_ok-hand_all.ensures.goes x
    (outside (g.F.Fabric.told c.take_all.new.fabric) (g.K.Sink.pieces c.args.output.now) (g.D.Files.contents c.args.files.now) later)
    (c.in_ok-take_all.ensures.goes x (o later) (c.begin_turn.ensures.goes x (o (g.C.Clock.moments c.args.clock.now)) here)))

pub returns-clause-cause : goal.returns-clause-cause
returns-clause-cause g c =
    c.in_ok-answer.ensures.cause (g.K.Sink.fault_count c.hand_all.new.output) (g.D.Files.fault_count c.hand_all.new.files)
    ∙ c.in_ok-hand_all.ensures.cause (g.F.Fabric.fault_count c.take_all.new.fabric)
    ∙ c.in_ok-take_all.ensures.cause (g.K.Sink.fault_count c.args.output.now) (g.D.Files.fault_count c.args.files.now)
