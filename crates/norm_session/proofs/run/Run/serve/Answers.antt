use Rattle.std.proofs.lemmas.Result.{err_from_is_err_and}
use Rattle.norm_journal.specs.Places.{handing}
use Rattle.norm_turns.proofs.FaultLemmas.{at_fault}
use Rattle.norm_session.proofs.ServingLemmas.{cause_memory, cause_of_last, last_goes, last_stops, sent_none, sent_one}
use Rattle.norm_session.proofs.run.Run.serve.Goals as goal

pub returns-in_err-hand_all-clause-stops : goal.returns-in_err-hand_all-clause-stops
returns-in_err-hand_all-clause-stops g c =
    let exit = err_from_is_err_and c.from_residual.result c.from_residual.ensures.1 in
    at_fault _ c.from_residual.result exit.0 c.in_err-hand_all.field-0.0 exit.1 exit.2
    (λ x nodes here. c.in_err-hand_all.ensures.stops x nodes (g.F.Fabric.told c.args.fabric.now) here)

pub returns-in_err-sent-clause-stops : goal.returns-in_err-sent-clause-stops
returns-in_err-sent-clause-stops g c =
    let exit = err_from_is_err_and c.from_residual-in_err-sent.result c.from_residual-in_err-sent.ensures.1 in
    at_fault _ c.from_residual-in_err-sent.result exit.0 c.in_err-sent.field-0.0 exit.1 exit.2
    (λ x nodes here.
    c.in_err-sent.ensures.stops x nodes (g.F.Fabric.told c.args.fabric.now) (g.K.Sink.pieces c.hand_all.new.output)
    (c.in_ok-hand_all.ensures.goes x nodes (g.F.Fabric.told c.args.fabric.now) here))

pub returns-in_err-sent-clause-cause : goal.returns-in_err-sent-clause-cause
returns-in_err-sent-clause-cause g c files =
    let exit = err_from_is_err_and c.from_residual-in_err-sent.result c.from_residual-in_err-sent.ensures.1 in
    cause_memory c.from_residual-in_err-sent.result exit.0 c.in_err-sent.field-0.0 _ _ exit.1 exit.2 c.in_err-sent.ensures.cause
    (c.in_ok-hand_all.ensures.cause (g.F.Fabric.fault_count c.args.fabric.now) files)

pub returns-in-Nothing-clause-goes : goal.returns-in-Nothing-clause-goes
returns-in-Nothing-clause-goes g c x nodes receiver here =
    sent_none x c.tick_receiver.new.self c.args.node c.in_ok-sent.sent c.tick_receiver.new.out (handing nodes) (g.F.Fabric.told c.args.fabric.now)
    (g.K.Sink.pieces c.hand_all.new.output) c.in-Nothing.is
    (c.in_ok-sent.ensures.goes x nodes (g.F.Fabric.told c.args.fabric.now) (g.K.Sink.pieces c.hand_all.new.output)
    (c.in_ok-hand_all.ensures.goes x nodes (g.F.Fabric.told c.args.fabric.now) here))

pub returns-in-Nothing-clause-cause : goal.returns-in-Nothing-clause-cause
returns-in-Nothing-clause-cause g c files = c.in_ok-hand_all.ensures.cause (g.F.Fabric.fault_count c.args.fabric.now) files

pub returns-in-Datagram-clause-goes : goal.returns-in-Datagram-clause-goes
returns-in-Datagram-clause-goes g c =
    last_goes c.offer.result c.offer.ensures.goes
    (λ h x nodes receiver here.
    h x (g.K.Sink.pieces c.hand_all.new.output) (handing nodes)
    (sent_one x c.tick_receiver.new.self c.args.node c.in_ok-sent.sent c.tick_receiver.new.out c.bytes.result.now (handing nodes)
    (g.F.Fabric.told c.args.fabric.now) (g.K.Sink.pieces c.hand_all.new.output) c.in-Datagram.is c.bytes.ensures.octets
    (c.in_ok-sent.ensures.goes x nodes (g.F.Fabric.told c.args.fabric.now) (g.K.Sink.pieces c.hand_all.new.output)
    (c.in_ok-hand_all.ensures.goes x nodes (g.F.Fabric.told c.args.fabric.now) here))))

pub returns-in-Datagram-clause-stops : goal.returns-in-Datagram-clause-stops
returns-in-Datagram-clause-stops g c =
    last_stops c.offer.result c.offer.ensures.stops
    (λ failed h x nodes here.
    h x (g.K.Sink.pieces c.hand_all.new.output) (handing nodes)
    (sent_one x c.tick_receiver.new.self c.args.node c.in_ok-sent.sent c.tick_receiver.new.out c.bytes.result.now (handing nodes)
    (g.F.Fabric.told c.args.fabric.now) (g.K.Sink.pieces c.hand_all.new.output) c.in-Datagram.is c.bytes.ensures.octets
    (c.in_ok-sent.ensures.goes x nodes (g.F.Fabric.told c.args.fabric.now) (g.K.Sink.pieces c.hand_all.new.output)
    (c.in_ok-hand_all.ensures.goes x nodes (g.F.Fabric.told c.args.fabric.now) here))))

pub returns-in-Datagram-clause-cause : goal.returns-in-Datagram-clause-cause
returns-in-Datagram-clause-cause g c files =
    cause_of_last c.offer.result _ _ _ (c.in_ok-hand_all.ensures.cause (g.F.Fabric.fault_count c.args.fabric.now) files)
    (c.offer.ensures.cause (g.K.Sink.fault_count c.hand_all.new.output) files)
