use Rattle.std.proofs.Common.{◌≡◌, [], take}
use Rattle.norm_session.specs.Left.{lines_at}
use Rattle.norm_session.proofs.left.Left.is_empty.Given as goal

abbrev pub invariant-loop-at : goal.invariant-loop-at
invariant-loop-at l = lines_at l.lines (take l.at l.self) ≡ []
