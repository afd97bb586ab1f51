use Rattle.std.proofs.Common.{◌≡◌, length, sym, ap, subst, ◌∙◌, Err, Option}
use Rattle.mark_book.specs.BookState.{BookState, Kept, Stands}
use Rattle.std.specs.Prelude.{is_none, filter}
use Rattle.fec_plan.specs.declared.position.Position.{Position}
use Rattle.norm_send_rules.specs.Marking.{watermark_at}
use Rattle.norm_send_rules.specs.declared.fault.MarkFault.TheVariants.{TooMany}
use Rattle.mark_book.specs.Answers.{numbered}
use Rattle.mark_book.proofs.Standing.{stands_refused, stands_made}
use Rattle.mark_book.proofs.book.Book.place.Goals as goal

pub returns-then-count-ge-MOST_OPEN-clause-stands : goal.returns-then-count-ge-MOST_OPEN-clause-stands
returns-then-count-ge-MOST_OPEN-clause-stands c = λ p s by stands other.
    let n = c.count_open-count.ensures ∙ ap (λ (b : BookState). length (filter (λ (k : Kept). is_none k.ended) b.watermarks)) c.self.view_is in
    subst (λ (o : Option Position). Stands p c.args.self.now (watermark_at s by c.args.quorum o).0 × (Err (TooMany c.count_open-count.result) ≡ numbered (watermark_at s by c.args.quorum o).1)) (sym c.in-Some.is)
    (stands_refused by c.args.quorum c.in-Some.at p c.args.self.now s c.count_open-count.result stands n c.if-count-ge-MOST_OPEN.true)

pub returns-clause-stands : goal.returns-clause-stands
returns-clause-stands c = λ p s by stands other.
    let n = c.count_open-count.ensures ∙ ap (λ (b : BookState). length (filter (λ (k : Kept). is_none k.ended) b.watermarks)) c.self.view_is in
    subst (λ (o : Option Position). Stands p c.join.new.self (watermark_at s by c.args.quorum o).0 × (c.join.result ≡ numbered (watermark_at s by c.args.quorum o).1)) (sym c.in-Some.is)
    (stands_made by c.args.quorum c.in-Some.at p c.args.self.now c.join.new.self s c.count_open-count.result c.join.result stands n c.if-count-ge-MOST_OPEN.false
    (c.join.ensures.stands p s by stands other))
