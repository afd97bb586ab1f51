use Rattle.std.proofs.Common.{◌∙◌, sym, arith}
use Rattle.norm_script.specs.Text.{text_lines}
use Rattle.norm_script.proofs.ReadingLemmas.{head-ends, head-goes_on, number_in_head}
use Rattle.norm_script.proofs.head.read_head.Goals as goal

pub returns-then-not-branch-clause-head : goal.returns-then-not-branch-clause-head
returns-then-not-branch-clause-head c =
    c.lines.invariant.0
    ∙ head-ends c.lines.head c.take_line.new.self c.lines.n c.first_line.result.0.now (text_lines c.first_line.result.1.now)
    (text_lines c.lines.rest.now) c.first_line.ensures.lines (sym c.in_ok-take_line.ensures.0 ∙ c.if-not-branch.true) c.in_ok-take_line.ensures.1

pub lines-preserved : goal.lines-preserved
lines-preserved c =
    let line = c.first_line.result.0.now in
    let on = sym c.in_ok-take_line.ensures.0 ∙ c.if-not-branch.false in (
      c.lines.invariant.0
          ∙ head-goes_on c.lines.head c.take_line.new.self c.lines.n line (text_lines c.first_line.result.1.now)
          (text_lines c.lines.rest.now) c.first_line.ensures.lines on c.in_ok-take_line.ensures.1,
      omega (arith, number_in_head c.lines.head c.lines.n line on),
    )
