use Rattle.std.proofs.Common.{◌≤◌}
use Rattle.replay.specs.Left.{left}
use Rattle.replay.proofs.node.drive.Given as goal

abbrev pub invariant-calls : goal.invariant-calls
invariant-calls g l = left l.events ≤ left l.initial.events

abbrev pub decreases-calls : goal.decreases-calls
decreases-calls g l = left l.events
