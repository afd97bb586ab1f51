use Rattle.std.proofs.Common.{◌∙◌, sym, subst, true, false}
use Rattle.norm_send_rules.specs.Flushing.{expired}
use Rattle.norm_sender.specs.declared.pace.Pace.{Pace}
use Rattle.norm_sender.specs.Inside.{kept_of}
use Rattle.norm_sender.specs.SenderKept.{Agrees}
use Rattle.norm_sender.proofs.FlushingLemmas.{expired_stands}
use Rattle.norm_sender.proofs.parts.Parts.expire.Goals as goal

pub returns-then-keeps_oldest-clause-stands : goal.returns-then-keeps_oldest-clause-stands
returns-then-keeps_oldest-clause-stands c s h =
    let k = kept_of c.args.self.now in
    let t = expired c.args.mark s in
    let listed = c.expire.ensures k.p s h.book in
    expired_stands k c.expire.new.self true c.args.mark s h listed
    (sym c.if-keeps_oldest.true ∙ c.keeps_oldest.ensures s t (c.oldest-before.ensures k.p s h.book) (c.oldest.ensures k.p t listed))

pub returns-clause-stands : goal.returns-clause-stands
returns-clause-stands c s h =
    let k = kept_of c.args.self.now in
    let t = expired c.args.mark s in
    let listed = c.expire.ensures k.p s h.book in
    subst (λ (q : Pace). Agrees (record k { book = c.expire.new.self; pace = q }) t) (sym c.counted_anew-self.ensures)
    (expired_stands k c.expire.new.self false c.args.mark s h listed
    (sym c.if-keeps_oldest.false ∙ c.keeps_oldest.ensures s t (c.oldest-before.ensures k.p s h.book) (c.oldest.ensures k.p t listed)))
