use Rattle.std.proofs.Common.{◌-◌, ◌≤◌, ℕ, length}
use Rattle.gf_field.specs.Product.{scaled}
use Rattle.gf_field.specs.Lanes.{HasProducts, IsAdded}
use Rattle.gf_field.proofs.lanes.Multiples.add_lanes.Given as goal

abbrev pub invariant-loop-dst : goal.invariant-loop-dst
invariant-loop-dst l = record {
  begun : l.from ≤ l.at;
  within : l.at ≤ length l.dst;
  added : (k : ℕ) → HasProducts 16 k l.self.low l.self.high → IsAdded (scaled k l.src) l.from l.at l.fn.dst l.dst;
}

abbrev pub decreases-loop-dst : goal.decreases-loop-dst
decreases-loop-dst l = length l.dst - l.at
