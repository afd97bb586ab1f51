use Rattle.std.proofs.Common.{◌≡◌}
use Rattle.tests_producers.proofs.threads.produce.Given as goal

abbrev pub invariant-items : goal.invariant-items
invariant-items g l = l.seat.gate ≡ l.initial.seat.gate
