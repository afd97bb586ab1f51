use Rattle.std.proofs.Common.{◌∙◌, sym, arith}
use Rattle.norm_script.specs.Text.{text_lines}
use Rattle.norm_script.proofs.FolderHeadLemmas.{folder_head-ends, folder_head-goes_on, number_in_folder_head}
use Rattle.norm_script.proofs.folder.read_folder_head.Goals as goal

pub returns-then-not-branch-clause-head : goal.returns-then-not-branch-clause-head
returns-then-not-branch-clause-head c =
    c.lines.invariant.0
    ∙ folder_head-ends c.lines.head c.take_head_line.new.head c.lines.n c.first_line.result.0.now (text_lines c.first_line.result.1.now)
    (text_lines c.lines.rest.now) c.first_line.ensures.lines (sym c.in_ok-take_head_line.ensures.0 ∙ c.if-not-branch.true) c.in_ok-take_head_line.ensures.1

pub lines-preserved : goal.lines-preserved
lines-preserved c =
    let line = c.first_line.result.0.now in
    let on = sym c.in_ok-take_head_line.ensures.0 ∙ c.if-not-branch.false in (
      c.lines.invariant.0
          ∙ folder_head-goes_on c.lines.head c.take_head_line.new.head c.lines.n line (text_lines c.first_line.result.1.now)
          (text_lines c.lines.rest.now) c.first_line.ensures.lines on c.in_ok-take_head_line.ensures.1,
      omega (arith, number_in_folder_head c.lines.head c.lines.n line on),
    )
