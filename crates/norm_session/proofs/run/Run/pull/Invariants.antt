use Rattle.std.proofs.Common.{◌≡◌}
use Rattle.norm_session.proofs.run.Run.pull.Given as goal

abbrev pub invariant-tries : goal.invariant-tries
invariant-tries g l = l.self ≡ l.initial.self
