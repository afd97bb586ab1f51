-- Octets that lie in two pieces.
use Rattle.std.proofs.Common.{◌≡◌, ℕ, ◌+◌, ◌-◌, ◌*◌, ◌/◌, ◌%◌, ◌<◌, ◌≤◌, ◌⊎◌, inl, inr, sym, ap, ◌∙◌, arith, List, ◌++◌, length, take, drop, append-nil}
use Rattle.std.specs.Prelude.{min}
use Rattle.std.proofs.Math.Seq.{drop-append-add, take-append-add}
use Rattle.std.proofs.Math.Nat.{mul-le-mul_right, mul-mod_left}
use Rattle.std.proofs.lemmas.Nat.{div-add-mod'}
use Rattle.std.proofs.lemmas.Bool.{cases_lt}
use Rattle.std.proofs.lemmas.List.{drop-append-le, take-append-le, take_all, length-drop}
use Rattle.fec_plan.specs.Partition.{Cut, all_symbols}
use Rattle.obj_buffer.specs.declared.buffer.ObjectBuf.TheInside.{Inside}
use Rattle.obj_buffer.specs.BufferState.{BufferSound}

-- a range of two pieces is one of the front and one of the back
pub range_is : (front back : List ℕ) (start len a n d : ℕ) → a ≡ min start (length front) → n ≡ min len (length front - a) → d ≡ start - length front
    → take n (drop a front) ++ take (len - n) (drop d back) ≡ take len (drop start (front ++ back))
range_is front back start len a n d a-is n-is d-is = go (cases_lt start (length front))
  where
    joined : (rest : List ℕ) → n ≡ min len (length rest) → (length rest < len) ⊎ (len ≤ length rest)
        → take n rest ++ take (len - n) back ≡ take len (rest ++ back)
    joined rest is (inl less) =
        let whole : n ≡ length rest = omega arith in
        let sum : length rest + (len - length rest) ≡ len = omega arith in
        ap (λ k. take k rest ++ take (len - k) back) whole
        ∙ ap (λ xs. xs ++ take (len - length rest) back) (take_all (length rest) rest (omega arith))
        ∙ sym (take-append-add rest back (len - length rest))
        ∙ ap (λ k. take k (rest ++ back)) sum
    joined rest is (inr more) =
        let whole : n ≡ len = omega arith in
        let none : len - len ≡ 0 = omega arith in
        ap (λ k. take k rest ++ take (len - k) back) whole
        ∙ ap (λ k. take len rest ++ take k back) none
        ∙ append-nil (take len rest)
        ∙ sym (take-append-le len rest back more)

    go : (start < length front) ⊎ (length front ≤ start) → take n (drop a front) ++ take (len - n) (drop d back) ≡ take len (drop start (front ++ back))
    go (inr past) =
        let zero-is : n ≡ 0 = omega arith in
        let all : len - 0 ≡ len = omega arith in
        let at : length front + d ≡ start = omega arith in
        ap (λ k. take k (drop a front) ++ take (len - k) (drop d back)) zero-is
        ∙ ap (λ k. take k (drop d back)) all
        ∙ ap (take len) (sym (drop-append-add front back d))
        ∙ ap (λ k. take len (drop k (front ++ back))) at
    go (inl before) =
        let start-is : a ≡ start = omega arith in
        let here : d ≡ 0 = omega arith in
        let le : start ≤ length front = omega arith in
        let long = length-drop start front in
        ap (λ k. take n (drop k front) ++ take (len - n) (drop d back)) start-is
        ∙ ap (λ k. take n (drop start front) ++ take (len - n) (drop k back)) here
        ∙ joined (drop start front) (omega (arith, long)) (cases_lt (length (drop start front)) len)
        ∙ ap (take len) (sym (drop-append-le start front back le))

-- a front of whole symbols, cut at a symbol, has whole symbols behind the cut and before any later one
pub whole_part : (e count m front : ℕ) → 0 < e → front % e ≡ 0 → min (count * e) (front - m * e) % e ≡ 0
whole_part e count m front some whole = go (cases_lt (count * e) (front - m * e))
  where
    rest_is : front - m * e ≡ (front / e - m) * e
    rest_is = rest_by (front / e) (omega (arith, div-add-mod' front e)) (cases_lt m (front / e))
      where
        rest_by : (n : ℕ) → front ≡ n * e → (m < n) ⊎ (n ≤ m) → front - m * e ≡ (n - m) * e
        rest_by n is (inl less) = left (n - m) (omega arith)
          where
            left : (r : ℕ) → n ≡ m + r → front - m * e ≡ r * e
            left r n-is = let all : front ≡ (m + r) * e = is ∙ ap (λ k. k * e) n-is in omega (arith, all)
        rest_by n is (inr more) =
            let le : n * e ≤ m * e = mul-le-mul_right e more in
            let none : n - m ≡ 0 = omega arith in
            let zero-is : (n - m) * e ≡ 0 * e = ap (λ k. k * e) none in
            omega (arith, le, zero-is)

    go : (count * e < front - m * e) ⊎ (front - m * e ≤ count * e) → min (count * e) (front - m * e) % e ≡ 0
    go (inl less) = ap (λ k. k % e) (let is : min (count * e) (front - m * e) ≡ count * e = omega arith in is) ∙ mul-mod_left count e
    go (inr le) = ap (λ k. k % e) ((let is : min (count * e) (front - m * e) ≡ front - m * e = omega arith in is) ∙ rest_is) ∙ mul-mod_left (front / e - m) e

-- a buffer keeps whole symbols
pub buffer_long : (b : Inside) → BufferSound b → length b.symbols.items ≡ all_symbols b.plan * b.plan.e
buffer_long b is = is.whole ∙ sym (ap (λ (c : Cut). all_symbols c * c.e) is.plan)

pub buffer_whole : (b : Inside) → BufferSound b → length b.symbols.items % b.plan.e ≡ 0
buffer_whole b is = ap (λ n. n % b.plan.e) (buffer_long b is) ∙ mul-mod_left (all_symbols b.plan) b.plan.e
