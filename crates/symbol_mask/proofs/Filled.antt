-- Runs of bits in words.
use Rattle.std.proofs.Common.{◌≡◌, ℕ, zero, suc, cond, ◌+◌, ◌-◌, ◌*◌, ◌/◌, ◌%◌, ◌^◌, ◌<◌, ◌≤◌, ◌⊎◌, inl, inr, List, ◌∷◌, length, set, get_or, true, false, sym, ap, ◌∙◌, arith, take}
use Rattle.std.specs.Prelude.{◌==◌, ◌&&◌, ◌||◌, bit_or, nat_lt, filter, max, min, Bool}
use Rattle.std.specs.Int.{bit_at}
use Rattle.std.specs.List.{range_with_len, AllByRecursion}
use Rattle.std.proofs.Math.Nat.{div-add-mod}
use Rattle.std.proofs.lemmas.Bool.{cases_eq, cases_lt}
use Rattle.std.proofs.lemmas.Bool.Decides.{nat_tests}
use Rattle.std.proofs.lemmas.List.{get_or-set_same, get_or-set_other}
use Rattle.std.proofs.lemmas.Nat.Bits.{bit_at_or, bit_at-lt, bit_at_mask_below, bit_at_mask_above, bit_at_mask_inside}
use Rattle.norm_order.specs.Sets.{is_member}
use Rattle.symbol_mask.specs.Words.{has_bit, places_of}
use Rattle.symbol_mask.specs.Words.{in_run}
use Rattle.symbol_mask.proofs.Bits.{zero_front, front_of_zeros}
use Rattle.symbol_mask.proofs.Ranges.{filter_member, no_member}
use Rattle.symbol_mask.proofs.Puts.{or_false, is_more}

-- the bit of a word that another was put into
either_bit : (a m : ℕ) → a < 2 → m < 2 → (max a m == 1) ≡ (a == 1 || m == 1)
either_bit a m low few = grind (arith, nat_tests)

or_bit : (a m i : ℕ) → (bit_at (bit_or a m) i == 1) ≡ (bit_at a i == 1 || bit_at m i == 1)
or_bit a m i = ap (λ n. n == 1) (bit_at_or a m i) ∙ either_bit (bit_at a i) (bit_at m i) (bit_at-lt a i) (bit_at-lt m i)

-- the bits of a run
run_bit : (low high i : ℕ) → (bit_at (2 ^ high - 2 ^ low) i == 1) ≡ in_run low high i
run_bit low high i = go (cases_lt i low) (cases_lt i high)
  where
    none : (n : ℕ) → n ≡ 0 → in_run low high i ≡ false → (n == 1) ≡ in_run low high i
    none n e f = ap (λ k. k == 1) e ∙ sym f

    one : (n : ℕ) → n ≡ 1 → in_run low high i ≡ true → (n == 1) ≡ in_run low high i
    one n e f = ap (λ k. k == 1) e ∙ sym f

    go : (i < low) ⊎ (low ≤ i) → (i < high) ⊎ (high ≤ i) → (bit_at (2 ^ high - 2 ^ low) i == 1) ≡ in_run low high i
    go (inl below) side = none _ (bit_at_mask_below low high i below) (grind (arith, nat_tests))
    go (inr from) (inl under) = one _ (bit_at_mask_inside low high i from under) (grind (arith, nat_tests))
    go (inr from) (inr past) = none _ (bit_at_mask_above low high i past) (grind (arith, nat_tests))

run_here : (from to place w low high : ℕ) → place / 64 ≡ w → low ≡ from - 64 * w → high ≡ min (to - 64 * w) 64
    → in_run low high (place % 64) ≡ (in_run from to place && nat_lt (place / 64) (w + 1))
run_here from to place w low high at first last = grind (arith, nat_tests, div-add-mod place 64)

none_yet : (b : Bool) (m w : ℕ) → m ≡ w → (b && nat_lt m w) ≡ false
none_yet b m w e = grind (arith, nat_tests)

still : (b : Bool) (m w : ℕ) → (m ≡ w → ⊥) → (b && nat_lt m w) ≡ (b && nat_lt m (w + 1))
still b m w ne = grind (arith, nat_tests)

-- one word of a run more
pub run_word : (old words new : List ℕ) (from to w low high read : ℕ) → w < length words → read ≡ get_or words w 0
    → new ≡ set words w (bit_or read (2 ^ high - 2 ^ low)) → low ≡ from - 64 * w → high ≡ min (to - 64 * w) 64
    → ((place : ℕ) → has_bit words place ≡ (has_bit old place || (in_run from to place && nat_lt (place / 64) w)))
    → (place : ℕ) → has_bit new place ≡ (has_bit old place || (in_run from to place && nat_lt (place / 64) (w + 1)))
run_word old words new from to w low high read lt is now first last so_far place = ap (λ (ws : List ℕ). has_bit ws place) now ∙ go (cases_eq (place / 64) w)
  where
    go : (place / 64 ≡ w) ⊎ (place / 64 ≡ w → ⊥)
        → has_bit (set words w (bit_or read (2 ^ high - 2 ^ low))) place ≡ (has_bit old place || (in_run from to place && nat_lt (place / 64) (w + 1)))
    go (inl e) =
        ap (λ v. bit_at v (place % 64) == 1) (ap (λ n. get_or (set words w (bit_or read (2 ^ high - 2 ^ low))) n 0) e ∙ get_or-set_same words w _ 0 lt)
        ∙ or_bit read (2 ^ high - 2 ^ low) (place % 64)
        ∙ ap (λ b. b || bit_at (2 ^ high - 2 ^ low) (place % 64) == 1)
        (ap (λ v. bit_at v (place % 64) == 1) (is ∙ ap (λ n. get_or words n 0) (sym e)) ∙ so_far place ∙ or_false (has_bit old place) _ (none_yet _ (place / 64) w e))
        ∙ ap (λ b. has_bit old place || b) (run_bit low high (place % 64) ∙ run_here from to place w low high e first last)
    go (inr ne) =
        ap (λ v. bit_at v (place % 64) == 1) (get_or-set_other words w (place / 64) _ 0 ne)
        ∙ so_far place ∙ ap (λ b. has_bit old place || b) (still (in_run from to place) (place / 64) w ne)

-- a run that is empty has no place
pub no_run : (from to place : ℕ) → to ≤ from → in_run from to place ≡ false
no_run from to place le = grind (arith, nat_tests)

-- no word yet, and all words
pub no_word : (from to place : ℕ) → (in_run from to place && nat_lt (place / 64) (from / 64)) ≡ false
no_word from to place = grind (arith, nat_tests, div-add-mod place 64, div-add-mod from 64)

pub all_words : (from to w place : ℕ) → to ≤ 64 * w → (in_run from to place && nat_lt (place / 64) w) ≡ in_run from to place
all_words from to w place cover = grind (arith, nat_tests, div-add-mod place 64)

-- no member lies behind the range
pub none_past : (p : ℕ → Bool) (x a n : ℕ) → a + n ≤ x → is_member nat_lt x (filter p (range_with_len a n)) ≡ false
none_past p x a zero past = no_member x
none_past p x a (suc n) past = go (p a) (none_past p x (a + 1) n (omega arith))
  where
    go : (b : Bool) → is_member nat_lt x (filter p (range_with_len (a + 1) n)) ≡ false
        → is_member nat_lt x (cond b (a ∷ filter p (range_with_len (a + 1) n)) (filter p (range_with_len (a + 1) n))) ≡ false
    go true rest = is_more x a _ (omega arith) ∙ rest
    go false rest = rest

-- the places of words that were written so
pub run_members : (old new : List ℕ) (n from to : ℕ) → to ≤ n → ((place : ℕ) → has_bit new place ≡ (has_bit old place || in_run from to place))
    → (place : ℕ) → is_member nat_lt place (places_of n new).members ≡ (is_member nat_lt place (places_of n old).members || in_run from to place)
run_members old new n from to most bits place = go (cases_lt place n)
  where
    outside : n ≤ place → in_run from to place ≡ false
    outside past = grind (arith, nat_tests)

    go : (place < n) ⊎ (n ≤ place) → is_member nat_lt place (places_of n new).members ≡ (is_member nat_lt place (places_of n old).members || in_run from to place)
    go (inl lt) =
        filter_member (has_bit new) place 0 n (omega arith) (omega arith) ∙ bits place
        ∙ ap (λ b. b || in_run from to place) (sym (filter_member (has_bit old) place 0 n (omega arith) (omega arith)))
    go (inr past) =
        none_past (has_bit new) place 0 n (omega arith)
        ∙ sym (or_false _ _ (outside past) ∙ none_past (has_bit old) place 0 n (omega arith))

-- and no bit from the size on
pub run_rest : (old new : List ℕ) (n from to : ℕ) → to ≤ n → ((place : ℕ) → has_bit new place ≡ (has_bit old place || in_run from to place))
    → ((i : ℕ) → n ≤ i → has_bit old i ≡ false) → (i : ℕ) → n ≤ i → has_bit new i ≡ false
run_rest old new n from to most bits rest i past = bits i ∙ or_false _ _ (outside (has_bit old i)) ∙ rest i past
  where
    outside : (b : Bool) → in_run from to i ≡ false
    outside b = grind (arith, nat_tests)

-- a front of words that are 0 stays so before the run
pub run_front : (old new : List ℕ) (lowest low k : ℕ) → low ≡ min lowest k → ((j : ℕ) → j < k → get_or new j 0 ≡ get_or old j 0)
    → AllByRecursion (λ word. word ≡ 0) (take lowest old) → AllByRecursion (λ word. word ≡ 0) (take low new)
run_front old new lowest low k is same front = front_of_zeros new low (λ j lt. same j (omega (arith, is, lt)) ∙ zero_front old lowest j front (omega (arith, is, lt)))
