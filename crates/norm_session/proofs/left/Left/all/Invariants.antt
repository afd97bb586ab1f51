use Rattle.std.proofs.Common.{◌≡◌, take}
use Rattle.norm_session.specs.Left.{lines_at}
use Rattle.norm_session.proofs.left.Left.all.Given as goal

abbrev pub invariant-loop-place : goal.invariant-loop-place
invariant-loop-place l = lines_at l.lines l.places.items ≡ take l.place l.lines
