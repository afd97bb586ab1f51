use Rattle.std.proofs.Common.{◌≡◌, ◌<◌, ap, sym, ◌∙◌, arith, length}
use Rattle.fec_plan.specs.Points.{Point}
use Rattle.tx_object.proofs.ListLemmas.{get_there}
use Rattle.tx_window.specs.WindowState.{WindowState, first_block}
use Rattle.tx_window.proofs.KeptLemmas.{block_empty, block_first}
use Rattle.tx_window.proofs.window.Window.first.Goals as goal

pub returns-then-is_empty-clause-number : goal.returns-then-is_empty-clause-number
returns-then-is_empty-clause-number c = (
  ap (λ (v : WindowState). v.dropped) c.self.view_is,
  sym (block_empty c.self.inside.held.items (let none : length c.self.inside.held.items ≡ 0 = grind (arith, c.is_empty.ensures, c.if-is_empty.true) in none)) ∙ ap (λ (v : WindowState). first_block v.entries) c.self.view_is,
)

pub returns-then-is_empty-clause-exact : goal.returns-then-is_empty-clause-exact
returns-then-is_empty-clause-exact c = λ s stands. (
  ap (λ (v : WindowState). v.dropped) c.self.view_is ∙ sym (ap (λ (d : Point). d.index) stands.dropped),
  sym (block_empty c.self.inside.held.items (let none : length c.self.inside.held.items ≡ 0 = grind (arith, c.is_empty.ensures, c.if-is_empty.true) in none)) ∙ ap (λ (v : WindowState). first_block v.entries) c.self.view_is
      ∙ sym (ap (λ (d : Point). d.block) stands.dropped),
)

pub returns-clause-number : goal.returns-clause-number
returns-clause-number c =
    let es = c.self.inside.held.items in
    let some : 0 < length es = grind (arith, c.is_empty.ensures, c.if-is_empty.false) in (
      ap (λ (v : WindowState). v.dropped) c.self.view_is,
      c.first_block.ensures ∙ sym (block_first es c.index-entry.result.now (get_there es 0 c.index-entry.result.now some c.index-entry.ensures)) ∙ ap (λ (v : WindowState). first_block v.entries) c.self.view_is,
    )

pub returns-clause-exact : goal.returns-clause-exact
returns-clause-exact c = λ s stands.
    let es = c.self.inside.held.items in
    let some : 0 < length es = grind (arith, c.is_empty.ensures, c.if-is_empty.false) in (
      ap (λ (v : WindowState). v.dropped) c.self.view_is ∙ sym (ap (λ (d : Point). d.index) stands.dropped),
      c.first_block.ensures ∙ sym (block_first es c.index-entry.result.now (get_there es 0 c.index-entry.result.now some c.index-entry.ensures)) ∙ ap (λ (v : WindowState). first_block v.entries) c.self.view_is
          ∙ sym (ap (λ (d : Point). d.block) stands.dropped),
    )
