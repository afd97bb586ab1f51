use Rattle.std.proofs.Common.{◌≡◌, true, sym, subst}
use Rattle.norm_base.specs.Settings.{Settings}
use Rattle.norm_base.specs.declared.kinds.Sent.TheVariants.{Datagram}
use Rattle.norm_order.specs.Shapes.{is_encoded}
use Rattle.norm_send_rules.specs.InWindow.{current_shapes}
use Rattle.norm_send_rules.specs.Sending.{sends_want}
use Rattle.norm_send_rules.specs.declared.want.Want.TheVariants.{Symbol}
use Rattle.tx_window.proofs.LawLemmas.{may_be_noted as may_note}
use Rattle.nack_union.proofs.Heard.{may_be_noted}
use Rattle.norm_sender.specs.declared.parts.Parts.{Parts}
use Rattle.norm_sender.specs.Inside.{kept_of}
use Rattle.norm_sender.specs.SenderMoves.{IsSent}
use Rattle.norm_sender.proofs.SendingLemmas.{symbol_there, symbol_sent, want_sent}
use Rattle.norm_sender.proofs.parts.Parts.send_symbol.Goals as goal

pub returns-then-not-write_symbol-clause-stands : goal.returns-then-not-write_symbol-clause-stands
returns-then-not-write_symbol-clause-stands c s h v few =
    let t = symbol_there c.args.self.now.profile s c.args.at v in
    let yes : c.write_symbol.result ≡ true = (c.write_symbol.ensures s t.object h t.kept t.encoded t.first few).0 in
    absurd (cc)

pub note_symbol-requires-clause-window : goal.note_symbol-requires-clause-window
note_symbol-requires-clause-window c =
    let r = c.requires in
    may_note c.args.self.now.window r.state c.args.at r.stands.window
    (subst (λ (q : Settings). is_encoded (current_shapes q r.state) c.args.at ≡ true) (sym r.stands.window_profile) r.valid.of_order) r.valid.behind

pub note_symbol-requires-clause-union : goal.note_symbol-requires-clause-union
note_symbol-requires-clause-union c =
    let r = c.requires in
    may_be_noted c.args.self.now.union r.state c.args.at r.stands.union
    (subst (λ (q : Settings). is_encoded (current_shapes q r.state) c.args.at ≡ true) (sym r.stands.union_profile) r.valid.of_order) r.valid.behind

pub returns-clause-stands : goal.returns-clause-stands
returns-clause-stands c s h v few =
    let p = c.args.self.now.profile in
    let t = symbol_there p s c.args.at v in
    subst (λ (q : Parts). IsSent (kept_of q) c.write_symbol.new.out Datagram (sends_want p c.args.now (λ object. c.args.repair) (Symbol c.args.at) s)) (sym c.spend.ensures)
    (want_sent (kept_of c.note_symbol.new.self) p c.args.now c.args.repair (Symbol c.args.at) c.write_symbol.new.out s c.note_symbol.ensures.profile
    (c.note_symbol.ensures.stands s h)
    (symbol_sent p s c.args.at t.object c.args.repair c.write_symbol.new.out t.of (c.write_symbol.ensures s t.object h t.kept t.encoded t.first few).1))
