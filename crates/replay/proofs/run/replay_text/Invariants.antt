use Rattle.replay.specs.Left.{to_come}
use Rattle.replay.proofs.run.replay_text.Given as goal

abbrev pub decreases-events : goal.decreases-events
decreases-events g l = to_come l.next l.events
