use Rattle.std.proofs.Common.{sym, ◌∙◌, rules, tests}
use Rattle.std.specs.Prelude.{is_none}
use Rattle.std.proofs.lemmas.Iterator.{YieldsList-from_slice}
use Rattle.std.proofs.lemmas.Iterator.Search.{find_from_yields_List}
use Rattle.mark_book.specs.BookState.{Kept}
use Rattle.mark_book.proofs.Lists.{nothing_found, thing_found}
use Rattle.mark_book.proofs.watermarks.first_open.Goals as goal

pub returns-in_err-watermark : goal.returns-in_err-watermark
returns-in_err-watermark c =
    let e = find_from_yields_List (λ (k : Kept). is_none k.ended) _ _ c.find.result c.find.ensures.ran (YieldsList-from_slice c.args.watermarks.now (search rules)) (λ x b q k. search (rules, tests)) in
    c.from_residual.ensures ∙ sym (nothing_found _ _ _ e c.in_err-watermark.was)

pub returns : goal.returns
returns c =
    let e = find_from_yields_List (λ (k : Kept). is_none k.ended) _ _ c.find.result c.find.ensures.ran (YieldsList-from_slice c.args.watermarks.now (search rules)) (λ x b q k. search (rules, tests)) in
    sym (thing_found _ _ _ _ e c.in_ok-watermark.was)
