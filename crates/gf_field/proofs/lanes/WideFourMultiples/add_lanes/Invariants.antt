use Rattle.std.proofs.Common.{◌-◌, ◌≤◌, ℕ, List, length}
use Rattle.gf_field.specs.Product.{four_products}
use Rattle.gf_field.specs.Lanes.{HasFour, IsAdded}
use Rattle.gf_field.proofs.lanes.WideFourMultiples.add_lanes.Given as goal

abbrev pub invariant-loop-dst : goal.invariant-loop-dst
invariant-loop-dst l = record {
  begun : 0 ≤ l.next;
  within : l.next ≤ length l.dst;
  added : (f : List ℕ) → HasFour 64 f l.self.first.low l.self.first.high l.self.second.low l.self.second.high l.self.third.low l.self.third.high l.self.fourth.low l.self.fourth.high
      → IsAdded (four_products f l.a l.b l.c l.d) 0 l.next l.fn.dst l.dst;
}

abbrev pub decreases-loop-dst : goal.decreases-loop-dst
decreases-loop-dst l = length l.dst - l.next
