use Rattle.std.proofs.Common.{sym, subst}
use Rattle.norm_base.specs.declared.kinds.Sent.TheVariants.{Datagram}
use Rattle.norm_send_rules.specs.Ticking.{sends_first}
use Rattle.norm_sender.specs.declared.parts.Parts.{Parts}
use Rattle.norm_sender.specs.declared.pace.Pace.{Pace}
use Rattle.norm_sender.specs.Wanted.{spent}
use Rattle.norm_sender.specs.Inside.{kept_of}
use Rattle.norm_sender.specs.SenderMoves.{IsSent}
use Rattle.norm_sender.proofs.TickingLemmas.{squelch_sent}
use Rattle.norm_sender.proofs.parts.Parts.squelch.Goals as goal

pub returns-clause-stands : goal.returns-clause-stands
returns-clause-stands c s h due =
    let k = kept_of c.args.self.now in
    let first = c.first-index.ensures.exact s h.window in
    subst (λ (q : Parts). IsSent (kept_of q) c.write_squelch.new.out Datagram (sends_first k.p c.args.now s)) (sym c.spend.ensures)
    (subst (λ (q : Pace). IsSent (record k { pace = spent k.p c.args.now q }) c.write_squelch.new.out Datagram (sends_first k.p c.args.now s)) (sym c.squelched-self.ensures)
    (squelch_sent k c.write_squelch.new.out c.args.now s _ _ h due first.0 first.1 c.write_squelch.ensures))
