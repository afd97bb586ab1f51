use Rattle.std.proofs.Common.{sym, subst}
use Rattle.norm_send_rules.specs.SenderState.{SenderState}
use Rattle.norm_sender.specs.Inside.{kept_of}
use Rattle.norm_sender.specs.SenderKept.{Agrees}
use Rattle.norm_sender.proofs.HearingLemmas.{credited_book, credited_behind, credited_follows}
use Rattle.norm_sender.proofs.parts.Parts.credit.Goals as goal

pub returns-clause-stands : goal.returns-clause-stands
returns-clause-stands c s h =
    let k = kept_of c.args.self.now in
    let node = c.args.node in
    let at = c.args.at in
    subst (λ (t : SenderState). Agrees (kept_of c.follow.new.self) t) (sym (credited_follows node at s))
    (c.follow.ensures.stands s (credited_book node at s) (credited_behind k c.ack.new.self node at s h (c.ack.ensures k.p s h.book))
    (c.oldest-before.ensures k.p s h.book))
