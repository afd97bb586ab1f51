use Rattle.std.proofs.Common.{◌∙◌, ap}
use Rattle.std.proofs.lemmas.Result.{err_from_is_err_and}
use Rattle.norm_journal.specs.Places.{Taking}
use Rattle.norm_session.specs.Context.{with_posted}
use Rattle.norm_session.specs.RunKept.{RunKept}
use Rattle.norm_turns.proofs.FaultLemmas.{cause_exit, at_fault}
use Rattle.norm_session.proofs.SendingLemmas.{sent_by}
use Rattle.norm_session.proofs.run.Run.send.Goals as goal

pub returns-in_err-tell_all-clause-stops : goal.returns-in_err-tell_all-clause-stops
returns-in_err-tell_all-clause-stops g c =
    let exit = err_from_is_err_and c.from_residual-in_err-tell_all.result c.from_residual-in_err-tell_all.ensures.1 in
    at_fault _ c.from_residual-in_err-tell_all.result exit.0 c.in_err-tell_all.field-0.0 exit.1 exit.2
    (λ x here.
    c.in_err-tell_all.ensures.stops x _ (g.F.Fabric.told c.args.fabric.now)
    (c.in_ok-sent.ensures.goes (with_posted x c.args.board.now) (g.F.Fabric.told c.args.fabric.now) (g.K.Sink.pieces c.args.output.now) here))

pub returns-in_err-offer_sent-clause-stops : goal.returns-in_err-offer_sent-clause-stops
returns-in_err-offer_sent-clause-stops g c =
    let exit = err_from_is_err_and c.from_residual-in_err-offer_sent.result c.from_residual-in_err-offer_sent.ensures.1 in
    at_fault _ c.from_residual-in_err-offer_sent.result exit.0 c.in_err-offer_sent.field-0.0 exit.1 exit.2
    (λ x here.
    c.in_err-offer_sent.ensures.stops (with_posted x c.tell_all.new.board) (g.K.Sink.pieces c.tell_all.new.output) (Taking 0)
    (sent_by (with_posted x c.tell_all.new.board) c.tell_all.new.self _ _ c.in_ok-sent.sent c.tick_sender.new.out (Taking 0) (g.F.Fabric.told c.args.fabric.now)
    (g.K.Sink.pieces c.tell_all.new.output) (c.sender_node-node.ensures ∙ ap (λ (k : RunKept). k.p.sender) c.self.view_is)
    (c.in_ok-tell_all.ensures.goes x _ (g.F.Fabric.told c.args.fabric.now)
    (c.in_ok-sent.ensures.goes (with_posted x c.args.board.now) (g.F.Fabric.told c.args.fabric.now) (g.K.Sink.pieces c.args.output.now) here))))

pub returns-in_err-offer_sent-clause-cause : goal.returns-in_err-offer_sent-clause-cause
returns-in_err-offer_sent-clause-cause g c files =
    let exit = err_from_is_err_and c.from_residual-in_err-offer_sent.result c.from_residual-in_err-offer_sent.ensures.1 in
    cause_exit _ c.from_residual-in_err-offer_sent.result exit.0 c.in_err-offer_sent.field-0.0 _ _ _ exit.1 exit.2
    (c.in_ok-tell_all.ensures.cause (g.F.Fabric.fault_count c.args.fabric.now) files)
    (c.in_err-offer_sent.ensures.cause (g.K.Sink.fault_count c.tell_all.new.output) files)

pub returns-clause-cause : goal.returns-clause-cause
returns-clause-cause g c files =
    c.in_ok-offer_sent.ensures.cause (g.K.Sink.fault_count c.tell_all.new.output) files
    ∙ c.in_ok-tell_all.ensures.cause (g.F.Fabric.fault_count c.args.fabric.now) files
