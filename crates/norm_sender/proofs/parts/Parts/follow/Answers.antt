use Rattle.std.proofs.Common.{◌∙◌, sym, ap, subst, true, false}
use Rattle.norm_send_rules.specs.Watermarks.{counted_anew}
use Rattle.tx_window.specs.WindowState.{WindowState}
use Rattle.norm_sender.specs.declared.pace.Pace.{Pace}
use Rattle.norm_sender.specs.Inside.{kept_of}
use Rattle.norm_sender.specs.SenderKept.{Agrees}
use Rattle.norm_sender.specs.SenderMoves.{with_book}
use Rattle.norm_sender.proofs.FollowingLemmas.{followed_past, followed_book, followed_stands}
use Rattle.norm_sender.proofs.parts.Parts.follow.Goals as goal

pub returns-then-keeps_oldest-clause-stands : goal.returns-then-keeps_oldest-clause-stands
returns-then-keeps_oldest-clause-stands c s t h was =
    let k = kept_of c.args.self.now in
    let u = with_book t s in
    followed_stands k c.note_past.new.self true s t h (ap (λ (w : WindowState). w.p) c.note_past.ensures.exact) (ap (λ (w : WindowState). w.filling) c.note_past.ensures.exact)
    (c.note_past.ensures.stands s (counted_anew s u) h.window (followed_past s t) (λ at. c.least.ensures k.p (counted_anew s u) at (followed_book k.p k.book s u h.book)))
    (sym c.if-keeps_oldest.true ∙ c.keeps_oldest.ensures s u was (c.oldest.ensures k.p u h.book))

pub returns-clause-stands : goal.returns-clause-stands
returns-clause-stands c s t h was =
    let k = kept_of c.args.self.now in
    let u = with_book t s in
    subst (λ (q : Pace). Agrees (record k { window = c.note_past.new.self; pace = q }) (counted_anew s u)) (sym c.counted_anew-self.ensures)
    (followed_stands k c.note_past.new.self false s t h (ap (λ (w : WindowState). w.p) c.note_past.ensures.exact) (ap (λ (w : WindowState). w.filling) c.note_past.ensures.exact)
    (c.note_past.ensures.stands s (counted_anew s u) h.window (followed_past s t) (λ at. c.least.ensures k.p (counted_anew s u) at (followed_book k.p k.book s u h.book)))
    (sym c.if-keeps_oldest.false ∙ c.keeps_oldest.ensures s u was (c.oldest.ensures k.p u h.book)))
