use Rattle.std.proofs.Common.{◌≡◌, true, sym, subst}
use Rattle.norm_base.specs.declared.kinds.Sent.TheVariants.{Datagram}
use Rattle.norm_order.specs.Entries.{Whole}
use Rattle.std.proofs.Common.{Some}
use Rattle.norm_send_rules.specs.Sending.{sends_want}
use Rattle.norm_send_rules.specs.declared.want.Want.TheVariants.{Info}
use Rattle.norm_sender.specs.declared.parts.Parts.{Parts}
use Rattle.norm_sender.specs.Inside.{kept_of}
use Rattle.norm_sender.specs.SenderMoves.{IsSent}
use Rattle.norm_sender.proofs.SendingLemmas.{info_there, info_in_window, info_sent, want_sent}
use Rattle.norm_sender.proofs.parts.Parts.send_info.Goals as goal

pub returns-then-not-write_info-clause-stands : goal.returns-then-not-write_info-clause-stands
returns-then-not-write_info-clause-stands c s h v few =
    let t = info_there c.args.self.now.profile s c.args.index v in
    let yes : c.write_info.result ≡ true = (c.write_info.ensures s t.sort t.info t.octets h t.kept few).0 in
    absurd (cc)

pub note_info-requires : goal.note_info-requires
note_info-requires c =
    let r = c.requires in
    info_in_window c.args.self.now.window r.state c.args.index c.args.self.now.profile r.stands.window r.valid

pub returns-clause-stands : goal.returns-clause-stands
returns-clause-stands c s h v few =
    let p = c.args.self.now.profile in
    let t = info_there p s c.args.index v in
    subst (λ (q : Parts). IsSent (kept_of q) c.write_info.new.out Datagram (sends_want p c.args.now (λ object. c.args.repair) (Info c.args.index) s)) (sym c.spend.ensures)
    (want_sent (kept_of c.note_info.new.self) p c.args.now c.args.repair (Info c.args.index) c.write_info.new.out s c.note_info.ensures.profile
    (c.note_info.ensures.stands s h)
    (info_sent p s c.args.index (Whole t.sort (Some t.info) t.octets) c.args.repair c.write_info.new.out t.of (c.write_info.ensures s t.sort t.info t.octets h t.kept few).1))
