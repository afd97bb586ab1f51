-- The moments of a tail have 64 bits.
use Rattle.std.proofs.Common.{ℕ, ◌+◌, ◌*◌, ◌≤◌, arith}
use Rattle.std.specs.Int.{div_ceil}
use Rattle.std.proofs.lemmas.Nat.{mul-le}
use Rattle.norm_send_rules.specs.Repairable.{repairable}
use Rattle.norm_tail.specs.Beginning.{TailsFit}
use Rattle.norm_safety.specs.Tail.{tail_time}
use Rattle.norm_tail.proofs.BeginLemmas.{may_begin, few_symbols}

-- rounding up adds less than a step
round_up : (n d : ℕ) → 1 ≤ d → div_ceil n d * d ≤ n + d
round_up n d some = grind arith

-- how long a tail lasts at most
most_time : (m k grtt : ℕ) → m ≤ 10000000 → k ≤ 15 → grtt ≤ 10000000 → (m + 1) * (4 * k + 10) * grtt ≤ 7000000700000000
most_time m k grtt few least short =
    let one = mul-le (m + 1) (4 * k + 10) 10000001 70 (omega (arith, few)) (omega (arith, least)) in
    let all = mul-le ((m + 1) * (4 * k + 10)) grtt 700000070 10000000 (omega (arith, one)) short in
    omega (arith, all)

pub tails_fit : TailsFit
tails_fit p k w last range stands early = record {
  world = w;
  stands = stands;
  fits = λ none.
      let may = may_begin p w.sender none in
      let time = most_time (repairable p w.sender) p.k p.grtt (few_symbols p w.sender range may) range.k.1 range.grtt.1 in
      let up = round_up (tail_time p w.sender) p.step may.goes_on in
      let step = range.step.1 in
      omega (arith, early, time, up, step);
}
