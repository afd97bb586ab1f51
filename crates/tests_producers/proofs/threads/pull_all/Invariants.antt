use Rattle.std.proofs.Common.{◌≡◌}
use Rattle.tests_producers.proofs.threads.pull_all.Given as goal

abbrev pub invariant-pulls : goal.invariant-pulls
invariant-pulls g l = l.seat.gate ≡ l.initial.seat.gate
