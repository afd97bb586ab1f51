use Rattle.std.proofs.Common.{sym, subst}
use Rattle.norm_base.specs.declared.kinds.Sent.TheVariants.{Datagram}
use Rattle.norm_send_rules.specs.Flushing.{flushes_for}
use Rattle.norm_sender.specs.declared.parts.Parts.{Parts}
use Rattle.norm_sender.specs.Inside.{kept_of}
use Rattle.norm_sender.specs.SenderMoves.{IsSent}
use Rattle.norm_sender.proofs.FlushingLemmas.{flush_sent}
use Rattle.norm_sender.proofs.parts.Parts.flush_for.Goals as goal

pub returns-clause-stands : goal.returns-clause-stands
returns-clause-stands c s w h same few =
    let k = kept_of c.args.self.now in
    subst (λ (q : Parts). IsSent (kept_of q) c.write_flush.new.out Datagram (flushes_for k.p c.args.now w s)) (sym c.spend.ensures)
    (flush_sent k c.flushed-self.result c.args.now c.args.at c.write_flush.new.out w s h same few c.flushed-self.ensures (c.write_flush.ensures s h))
