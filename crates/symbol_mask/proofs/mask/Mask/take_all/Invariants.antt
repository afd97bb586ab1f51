use Rattle.std.proofs.Common.{◌≡◌, ◌≤◌, ◌+◌, nat_lt, length}
use Rattle.norm_order.specs.Sets.{with_members}
use Rattle.symbol_mask.proofs.mask.Mask.take_all.Given as goal

abbrev pub invariant-places : goal.invariant-places
invariant-places l = record {
  members : with_members nat_lt l.other.members l.self.members ≡ with_members nat_lt l.initial.other.members l.initial.self.members;
  new : length l.self.members ≡ length l.initial.self.members + l.new;
  few : length l.self.members ≤ l.initial.self.size;
  size : l.self.size ≡ l.initial.self.size;
  other : l.other.size ≡ l.initial.other.size;
}

abbrev pub decreases-places : goal.decreases-places
decreases-places l = length l.other.members
