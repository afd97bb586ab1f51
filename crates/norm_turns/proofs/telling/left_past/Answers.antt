use Rattle.std.proofs.Common.{◌≤◌, sym, subst, ◌∙◌, rules}
use Rattle.mark_book.specs.BookState.{BookState, Stands as BookStands}
use Rattle.norm_turns.proofs.TellingLemmas.{left_more, left_ends, left_all}
use Rattle.norm_turns.proofs.telling.left_past.Goals as goal

pub returns-in_default : goal.returns-in_default
returns-in_default c s stands =
    let p = c.args.sender.now.p in
    left_ends s c.args.mark c.loop-i.i c.loop-i.left.items (c.loop-i.invariant s stands)
    (sym c.in_default.is ∙ c.pending.ensures p s (subst (λ (b : BookState). BookStands p b s) (sym c.book.ensures) stands.agrees.book))

pub loop-i-preserved : goal.loop-i-preserved
loop-i-preserved c s stands =
    let p = c.args.sender.now.p in
    left_more s c.args.mark c.loop-i.i c.in-Some.node c.loop-i.left.items c.push.new.self.items (c.loop-i.invariant s stands)
    (sym c.in-Some.is ∙ c.pending.ensures p s (subst (λ (b : BookState). BookStands p b s) (sym c.book.ensures) stands.agrees.book)) c.in_ok-push.ensures.items

pub returns : goal.returns
returns c s stands =
    let past : 16 ≤ c.loop-i.i = search rules in
    left_all c.args.sender.now s c.args.mark c.loop-i.i c.loop-i.left.items stands past (c.loop-i.invariant s stands)
