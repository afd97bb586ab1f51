use Rattle.std.proofs.Common.{◌∙◌, sym}
use Rattle.norm_sender.specs.Inside.{kept_of}
use Rattle.norm_sender.specs.Feedback.{ack_message}
use Rattle.norm_sender.proofs.HearingLemmas.{ack_of_other, ack_to_other, ack_to_me}
use Rattle.norm_sender.proofs.parts.Parts.hear_ack.Goals as goal

pub returns-then-not-lists-clause-stands : goal.returns-then-not-lists-clause-stands
returns-then-not-lists-clause-stands c s h =
    let k = kept_of c.args.self.now in
    ack_of_other k (ack_message c.args.msg.now) s c.lists.result h (c.lists.ensures k.p s h.book) c.if-not-lists.true

pub returns-then-not-is_for-clause-stands : goal.returns-then-not-is_for-clause-stands
returns-then-not-is_for-clause-stands c s h =
    let k = kept_of c.args.self.now in
    ack_to_other k (ack_message c.args.msg.now) s c.lists.result h (c.lists.ensures k.p s h.book) c.if-not-lists.false
    (sym c.is_for.ensures ∙ c.if-not-is_for.true)

pub returns-clause-stands : goal.returns-clause-stands
returns-clause-stands c s h =
    let k = kept_of c.args.self.now in
    ack_to_me k (kept_of c.hear_body.new.self) (ack_message c.args.msg.now) s c.lists.result h (c.lists.ensures k.p s h.book) c.if-not-lists.false
    (sym c.is_for.ensures ∙ c.if-not-is_for.false) (c.hear_body.ensures.stands s h)
