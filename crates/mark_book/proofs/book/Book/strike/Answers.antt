use Rattle.std.proofs.Common.{length, sym, ap, ◌∙◌}
use Rattle.mark_book.specs.BookState.{BookState}
use Rattle.std.specs.Prelude.{◌==◌}
use Rattle.std.specs.List.{list_any}
use Rattle.norm_send_rules.specs.SenderState.{Listing}
use Rattle.mark_book.proofs.Standing.{struck_stranger, struck_last, struck_one}
use Rattle.mark_book.proofs.book.Book.strike.Goals as goal

pub returns-then-not-lists : goal.returns-then-not-lists
returns-then-not-lists c = λ p s stands.
    struck_stranger c.args.node p c.args.self.now s stands
    (ap (λ (b : BookState). list_any (λ (l : Listing). l.node == c.args.node) b.listings) (sym c.self.view_is) ∙ sym c.lists.ensures ∙ c.if-not-lists.true)

pub returns-then-len-eq1 : goal.returns-then-len-eq1
returns-then-len-eq1 c = λ p s stands.
    struck_last c.args.node p c.args.self.now s stands
    (ap (λ (b : BookState). list_any (λ (l : Listing). l.node == c.args.node) b.listings) (sym c.self.view_is) ∙ sym c.lists.ensures ∙ c.if-not-lists.false)
    (ap (λ (b : BookState). length b.listings) (sym c.self.view_is) ∙ sym c.len.ensures ∙ c.if-len-eq1.true)

pub returns : goal.returns
returns c = λ p s stands.
    struck_one c.args.node p c.args.self.now c.strike_off.new.self s stands
    (ap (λ (b : BookState). list_any (λ (l : Listing). l.node == c.args.node) b.listings) (sym c.self.view_is) ∙ sym c.lists.ensures ∙ c.if-not-lists.false)
    (λ alone. c.if-len-eq1.false (c.len.ensures ∙ ap (λ (b : BookState). length b.listings) c.self.view_is ∙ alone))
    (c.strike_off.ensures p s stands)
