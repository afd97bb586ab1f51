use Rattle.std.proofs.Common.{◌≡◌, ◌-◌, length, sym, ap, ◌∙◌, arith}
use Rattle.std.specs.Prelude.{◌==◌, find, Some}
use Rattle.mark_book.specs.BookState.{Kept}
use Rattle.mark_book.proofs.Lookups.{number_below, number_above, number_at}
use Rattle.mark_book.proofs.watermarks.Watermarks.find.Goals as goal

pub returns-then-mark-len : goal.returns-then-mark-len
returns-then-mark-len c =
    let many : c.self.inside.all.len ≡ length c.self.inside.all.items = c.self.inside.all.ok.0 in
    sym (number_above c.args.mark 1 c.self.inside.all.items c.self.invariant.numbered (omega (arith, many)))
    ∙ ap (find (λ (k : Kept). k.mark == c.args.mark)) c.self.view_is

pub returns-then-mark-eq0 : goal.returns-then-mark-eq0
returns-then-mark-eq0 c =
    sym (number_below c.args.mark 1 c.self.inside.all.items c.self.invariant.numbered (omega arith))
    ∙ ap (find (λ (k : Kept). k.mark == c.args.mark)) c.self.view_is

pub returns : goal.returns
returns c =
    let many : c.self.inside.all.len ≡ length c.self.inside.all.items = c.self.inside.all.ok.0 in
    ap Some c.index.ensures
    ∙ sym (number_at (c.args.mark - 1) 1 c.args.mark c.self.inside.all.items c.index.result.now c.self.invariant.numbered (omega (arith, many)) (omega arith))
    ∙ ap (find (λ (k : Kept). k.mark == c.args.mark)) c.self.view_is
