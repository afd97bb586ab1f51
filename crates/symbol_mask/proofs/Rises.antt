-- What a set of places lists rises.
use Rattle.std.proofs.Common.{ℕ, zero, suc, ◌+◌, ◌<◌, List, ◌∷◌, Bool, true, false, arith, cond}
use Rattle.std.specs.Prelude.{filter}
use Rattle.std.specs.List.{range_with_len, AllByRecursion}
use Rattle.norm_order.specs.Sets.{Rises}
use Rattle.symbol_mask.specs.Words.{has_bit, places_of}

above : (p : ℕ → Bool) (x a n : ℕ) → x < a → AllByRecursion (λ y. x < y) (filter p (range_with_len a n))
above p x a zero lt = tt
above p x a (suc n) lt = go (p a) (above p x (a + 1) n (omega arith))
  where
    go : (b : Bool) → AllByRecursion (λ y. x < y) (filter p (range_with_len (a + 1) n))
        → AllByRecursion (λ y. x < y) (cond b (a ∷ filter p (range_with_len (a + 1) n)) (filter p (range_with_len (a + 1) n)))
    go true rest = (lt, rest)
    go false rest = rest

pub rises_filter : (p : ℕ → Bool) (a n : ℕ) → Rises (filter p (range_with_len a n))
rises_filter p a zero = tt
rises_filter p a (suc n) = go (p a) (rises_filter p (a + 1) n) (above p a (a + 1) n (omega arith))
  where
    go : (b : Bool) → Rises (filter p (range_with_len (a + 1) n)) → AllByRecursion (λ y. a < y) (filter p (range_with_len (a + 1) n))
        → Rises (cond b (a ∷ filter p (range_with_len (a + 1) n)) (filter p (range_with_len (a + 1) n)))
    go true rest all = (all, rest)
    go false rest all = rest

pub set_rises : (words : List ℕ) (n : ℕ) → Rises (places_of n words).members
set_rises words n = rises_filter (has_bit words) 0 n
