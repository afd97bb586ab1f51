use Rattle.std.proofs.Common.{◌≡◌}
use Rattle.tests_producers.proofs.threads.insist.Given as goal

abbrev pub invariant-tries : goal.invariant-tries
invariant-tries g l = l.seat.gate ≡ l.initial.seat.gate
