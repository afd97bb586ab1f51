use Rattle.std.proofs.Common.{sym}
use Rattle.std.proofs.Math.Seq.{take-length, drop-length}
use Rattle.norm_script.proofs.LineLemmas.{text_lines-some, text_whole, split_shorter}
use Rattle.driven_nodes.proofs.lines.first_line.Goals as goal

pub returns-in-Some-clause-lines : goal.returns-in-Some-clause-lines
returns-in-Some-clause-lines c = text_lines-some c.args.text.now (c.in-Some.parts.0.now, c.in-Some.parts.1.now) (sym c.in-Some.ensures)

pub returns-in-Some-clause-less : goal.returns-in-Some-clause-less
returns-in-Some-clause-less c = split_shorter c.args.text.now (c.in-Some.parts.0.now, c.in-Some.parts.1.now) (sym c.in-Some.ensures)

pub returns-in-None-clause-lines : goal.returns-in-None-clause-lines
returns-in-None-clause-lines c =
    rw (c.split_at.ensures.front, c.split_at.ensures.back) (rw (take-length c.args.text.now, drop-length c.args.text.now)
    (text_whole c.args.text.now c.requires (sym c.in-None.ensures)))
