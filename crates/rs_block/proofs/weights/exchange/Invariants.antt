use Rattle.std.proofs.Common.{ℕ, ◌<◌, ◌≤◌, ◌≡◌, get_or}
use Rattle.std.specs.Prelude.{bit_xor}
use Rattle.gf_field.specs.Product.{product}
use Rattle.gf_field.specs.Power.{power}
use Rattle.rs_block.proofs.weights.exchange.Given as goal

abbrev pub invariant-loop-i : goal.invariant-loop-i
invariant-loop-i l = record {
  done : (k : ℕ) → k < l.i → get_or l.ids k 0 ≡ k
      → product (power (get_or l.weights k 0)) (bit_xor (get_or l.places k 0) l.new) ≡ product (power (get_or l.fn.weights k 0)) (bit_xor (get_or l.places k 0) l.old);
  rest : (k : ℕ) → l.i ≤ k → get_or l.weights k 0 ≡ get_or l.fn.weights k 0;
}
