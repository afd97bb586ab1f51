use Rattle.std.proofs.Common.{◌≡◌, ◌+◌, ℕ, suc, List, Some, None, refl, inl, inr, arith, min, ltb, true, false, lt-ltb, le-ltb}
use Rattle.std.proofs.lemmas.Bool.{cases_lt}
use Rattle.norm_memory.specs.Timing.{moment_at, given_moments, told_moments}
use Rattle.norm_base.specs.Told.{GainsWhereTold}

told_below : (moments : List ℕ) (asked : ℕ) → ltb asked 18446744073709551615 ≡ true
    → told_moments (record { moments = moments; asked = asked }) ≡ Some (given_moments moments asked)
told_below moments asked e = rw e refl

told_past : (moments : List ℕ) (asked : ℕ) → ltb asked 18446744073709551615 ≡ false
    → told_moments (record { moments = moments; asked = asked }) ≡ None
told_past moments asked e = rw e refl

-- one more question: what is still told gained its answer
pub told_next : (moments : List ℕ) (asked next : ℕ) → next ≡ min (asked + 1) 18446744073709551615
    → GainsWhereTold (told_moments (record { moments = moments; asked = asked })) (told_moments (record { moments = moments; asked = next })) (moment_at moments asked)
told_next moments asked next is = elim (cases_lt next 18446744073709551615) [
  | inl lt ↦
      let before : ltb asked 18446744073709551615 ≡ true = lt-ltb asked 18446744073709551615 (omega arith) in
      let now : ltb next 18446744073709551615 ≡ true = lt-ltb next 18446744073709551615 lt in
      let up : next ≡ suc asked = omega arith in
      rw (told_below moments asked before, told_below moments next now) (rw up refl)
  | inr ge ↦
      let now : ltb next 18446744073709551615 ≡ false = le-ltb next 18446744073709551615 ge in
      rw (told_past moments next now) tt
]
