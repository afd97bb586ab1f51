use Rattle.std.proofs.Common.{◌≡◌}
use Rattle.norm_session.proofs.producing.produce.Given as goal

abbrev pub invariant-lines : goal.invariant-lines
invariant-lines g l = l.seat.gate ≡ l.initial.seat.gate
