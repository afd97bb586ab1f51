use Rattle.norm_session.proofs.SendingLemmas.{offering_one}
use Rattle.norm_turns.proofs.FaultLemmas.{on_err}
use Rattle.norm_session.proofs.run.Run.offer_sent.Goals as goal

pub returns-in-Datagram-clause-stops : goal.returns-in-Datagram-clause-stops
returns-in-Datagram-clause-stops g c =
    on_err _ _ c.offer.result
    (λ failed h x written after here.
    h x written after
    (offering_one x c.args.self.now c.args.node c.args.sent c.args.datagram.now c.bytes.result.now after (g.F.Fabric.told c.args.fabric.now) written
    c.in-Datagram.is c.bytes.ensures.octets here))
    c.offer.ensures.stops
