-- How many marks are set in a row from the first on, as marks are set, given up and added.
use Rattle.std.proofs.Common.{◌≡◌, ℕ, zero, suc, ◌+◌, ◌-◌, ◌<◌, ◌≤◌, ◌⊎◌, inl, inr, Bool, true, false, refl, ap, ◌∙◌, arith, List, [], ◌∷◌, ◌++◌, length, take, drop, get_or}
use Rattle.std.proofs.Math.ListN.{set}
use Rattle.std.specs.Prelude.{◌==◌, min, replicate}
use Rattle.std.specs.List.{list_all}
use Rattle.std.proofs.lemmas.Bool.{cases_lt}
use Rattle.std.proofs.lemmas.List.Sums.{prefix_len-le-length, prefix_len_passes, prefix_len_stops}
use Rattle.stream_buffer.specs.HeldState.{run_of}

-- the marks of a run
pub run_set : (xs : List Bool) (from n : ℕ) → from + n ≤ run_of xs → list_all (λ b. b) (take n (drop from xs)) ≡ true
run_set xs from zero le = refl
run_set [] zero (suc n) le = refl
run_set (true ∷ xs) zero (suc n) le = run_set xs zero n (omega (arith, le))
run_set (false ∷ xs) zero (suc n) le = absurd (omega (arith, le))
run_set [] (suc from) (suc n) le = refl
run_set (true ∷ xs) (suc from) (suc n) le = run_set xs from (suc n) (omega (arith, le))
run_set (false ∷ xs) (suc from) (suc n) le = absurd (omega (arith, le))

-- so many marks that are set are in the run
pub run_covers : (xs : List Bool) (n : ℕ) → n ≤ length xs → list_all (λ b. b) (take n xs) ≡ true → n ≤ run_of xs
run_covers xs zero le all = omega arith
run_covers [] (suc n) le all = absurd (omega (arith, le))
run_covers (true ∷ xs) (suc n) le all = let more : n ≤ run_of xs = run_covers xs n (omega (arith, le)) all in omega (arith, more)
run_covers (false ∷ xs) (suc n) le all = absurd (cc)

-- all are set where the run ends at the end
pub run_whole : (xs : List Bool) → (run_of xs == length xs) ≡ list_all (λ b. b) xs
run_whole [] = refl
run_whole (true ∷ xs) = (let e : (1 + run_of xs == suc (length xs)) ≡ (run_of xs == length xs) = grind (arith) in e) ∙ run_whole xs
run_whole (false ∷ xs) = let e : (0 == suc (length xs)) ≡ false = grind (arith) in e

-- no mark is set
run_none : (n : ℕ) → run_of (replicate n false) ≡ 0
run_none zero = refl
run_none (suc n) = refl

-- the run where some go from the front of it
run_dropped : (xs : List Bool) (n : ℕ) → n ≤ run_of xs → run_of (drop n xs) ≡ run_of xs - n
run_dropped xs zero le = omega arith
run_dropped [] (suc n) le = omega arith
run_dropped (true ∷ xs) (suc n) le = let more : run_of (drop n xs) ≡ run_of xs - n = run_dropped xs n (omega (arith, le)) in omega (arith, more)
run_dropped (false ∷ xs) (suc n) le = absurd (omega (arith, le))

-- and where so many stay, with some behind them that are not set
run_taken : (xs : List Bool) (k n : ℕ) → run_of (take k xs ++ replicate n false) ≡ min k (run_of xs)
run_taken xs zero n = run_none n ∙ (let e : 0 ≡ min 0 (run_of xs) = omega arith in e)
run_taken [] (suc k) n = run_none n ∙ (let e : 0 ≡ min (suc k) 0 = omega arith in e)
run_taken (true ∷ xs) (suc k) n = let more : run_of (take k xs ++ replicate n false) ≡ min k (run_of xs) = run_taken xs k n in omega (arith, more)
run_taken (false ∷ xs) (suc k) n = let e : 0 ≡ min (suc k) 0 = omega arith in e

pub run_follows : (xs : List Bool) (gone kept n : ℕ) → gone ≤ run_of xs → run_of (take kept (drop gone xs) ++ replicate n false) ≡ min kept (run_of xs - gone)
run_follows xs gone kept n le = run_taken (drop gone xs) kept n ∙ ap (min kept) (run_dropped xs gone le)

-- a mark that is set shortens no run, and where it is not the one behind the run, the run stays
pub run_stays : (xs : List Bool) (place : ℕ) → (place ≡ run_of xs → ⊥) → run_of (set xs place true) ≡ run_of xs
run_stays [] place apart = refl
run_stays (true ∷ xs) zero apart = refl
run_stays (false ∷ xs) zero apart = absurd (apart refl)
run_stays (true ∷ xs) (suc place) apart = ap (λ n. 1 + n) (run_stays xs place (λ e. apart (omega (arith, e))))
run_stays (false ∷ xs) (suc place) apart = refl

pub run_reaches : (xs : List Bool) (place : ℕ) → place ≡ run_of xs → place ≤ run_of (set xs place true)
run_reaches [] place e = omega (arith, e)
run_reaches (true ∷ xs) zero e = omega arith
run_reaches (false ∷ xs) zero e = omega arith
run_reaches (true ∷ xs) (suc place) e = let more : place ≤ run_of (set xs place true) = run_reaches xs place (omega (arith, e)) in omega (arith, more)
run_reaches (false ∷ xs) (suc place) e = absurd (omega (arith, e))

-- a mark that is not set ends the run, where those before it are set
pub run_ends : (xs : List Bool) (place : ℕ) (d : Bool) → d ≡ get_or xs place d → d ≡ false → place ≤ run_of xs → place ≡ run_of xs
run_ends xs place d there is le = go (cases_lt place (run_of xs))
  where
    go : (place < run_of xs) ⊎ (run_of xs ≤ place) → place ≡ run_of xs
    go (inl lt) = absurd (let passes : get_or xs place d ≡ true = prefix_len_passes (λ b. b) xs place d lt in cc)
    go (inr ge) = omega (arith, le, ge)

-- and one that is set goes on with it
pub run_goes_on : (xs : List Bool) (place : ℕ) (d : Bool) → place < length xs → d ≡ get_or xs place d → d ≡ true → place ≤ run_of xs → place + 1 ≤ run_of xs
run_goes_on xs place d lt there is le = go (cases_lt place (run_of xs))
  where
    go : (place < run_of xs) ⊎ (run_of xs ≤ place) → place + 1 ≤ run_of xs
    go (inl less) = omega (arith, less)
    go (inr ge) = absurd (
        let same : run_of xs ≡ place = omega (arith, le, ge) in
        let stops : get_or xs (run_of xs) d ≡ false = prefix_len_stops (λ b. b) xs d (omega (arith, same, lt)) in
        let here : get_or xs (run_of xs) d ≡ get_or xs place d = ap (λ k. get_or xs k d) same in
        cc)

pub run_at_end : (xs : List Bool) (place : ℕ) → length xs ≤ place → place ≤ run_of xs → length xs ≡ run_of xs
run_at_end xs place past le = omega (arith, past, le, prefix_len-le-length (λ b. b) xs)
