use Rattle.std.proofs.Common.{◌≡◌, ◌≤◌, ◌+◌, nat_lt, length}
use Rattle.std.specs.Prelude.{not, filter}
use Rattle.norm_order.specs.Sets.{Rises}
use Rattle.symbol_mask.proofs.mask.Mask.take_below.Given as goal

abbrev pub invariant-places : goal.invariant-places
invariant-places l = record {
  members : filter (λ place. not (nat_lt place l.limit)) l.self.members ≡ filter (λ place. not (nat_lt place l.limit)) l.initial.self.members;
  taken : length l.initial.self.members ≡ length l.self.members + l.taken;
  few : length l.initial.self.members ≤ l.initial.self.size;
  rises : Rises l.self.members;
  size : l.self.size ≡ l.initial.self.size;
}

abbrev pub decreases-places : goal.decreases-places
decreases-places l = length l.self.members
