use Rattle.std.proofs.Common.{◌≢◌, All, take}
use Rattle.norm_script.specs.declared.script.Line.{Line}
use Rattle.norm_session.specs.Left.{lines_at}
use Rattle.norm_session.proofs.left.Left.first_of.Given as goal

abbrev pub invariant-loop-at : goal.invariant-loop-at
invariant-loop-at l = All (λ (line : Line). line.producer ≢ l.producer) (lines_at l.lines (take l.at l.self))
