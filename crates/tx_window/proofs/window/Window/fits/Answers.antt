use Rattle.std.proofs.Common.{◌≡◌, ◌<◌, ◌≤◌, subst, arith, length}
use Rattle.tx_object.proofs.ListLemmas.{get_there}
use Rattle.tx_window.specs.WindowState.{WindowState, first_block}
use Rattle.tx_window.proofs.KeptLemmas.{block_empty, block_first}
use Rattle.tx_window.proofs.window.Window.fits.Goals as goal

pub returns-then-is_empty : goal.returns-then-is_empty
returns-then-is_empty c =
    subst (λ (v : WindowState). first_block v.entries ≤ 16777216) c.self.view_is
    (let none : length c.self.inside.held.items ≡ 0 = grind (arith, c.is_empty.ensures, c.if-is_empty.true) in
    omega (arith, block_empty c.self.inside.held.items none))

pub returns : goal.returns
returns c =
    let es = c.self.inside.held.items in
    let some : 0 < length es = grind (arith, c.is_empty.ensures, c.if-is_empty.false) in
    subst (λ (v : WindowState). first_block v.entries ≤ 16777216) c.self.view_is
    (omega (arith, block_first es c.index-entry.result.now (get_there es 0 c.index-entry.result.now some c.index-entry.ensures), c.fits.ensures.first))
