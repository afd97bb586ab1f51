use Rattle.std.proofs.Common.{◌≡◌}
use Rattle.norm_session.proofs.producing.insist.Given as goal

abbrev pub invariant-tries : goal.invariant-tries
invariant-tries g l = l.seat.gate ≡ l.initial.seat.gate
