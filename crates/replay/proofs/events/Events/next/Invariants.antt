use Rattle.std.proofs.Common.{◌≤◌}
use Rattle.replay.specs.Left.{left}
use Rattle.replay.proofs.events.Events.next.Given as goal

abbrev pub invariant-lines : goal.invariant-lines
invariant-lines l = left l.self ≤ left l.initial.self

abbrev pub decreases-lines : goal.decreases-lines
decreases-lines l = left l.self
