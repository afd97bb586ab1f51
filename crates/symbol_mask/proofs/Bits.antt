-- One bit of a list of words.
use Rattle.std.proofs.Common.{◌≡◌, ℕ, zero, suc, ◌+◌, ◌*◌, ◌/◌, ◌%◌, ◌^◌, ◌<◌, ◌≤◌, ◌⊎◌, inl, inr, List, [], ◌∷◌, length, set, get_or, true, false, refl, sym, ap, ◌∙◌, arith, take}
use Rattle.std.specs.Prelude.{◌==◌, not, bit_and, bit_or, nat_lt, replicate}
use Rattle.std.specs.Int.{bit_at, bit_not, w64}
use Rattle.std.specs.List.{range_with_len, AllByRecursion}
use Rattle.std.proofs.Math.Nat.{div-add-mod}
use Rattle.std.proofs.lemmas.Bool.{cases_eq, cases_lt}
use Rattle.std.proofs.lemmas.List.{get_or-set_same, get_or-set_other, get_or_past, get_or-replicate, length-replicate}
use Rattle.std.proofs.lemmas.Nat.Bits.{bit_at_set_same, bit_at_set_other, bit_at_clear_same, bit_at_clear_other, bit_at-zero, shr_and_one}
use Rattle.std.proofs.lemmas.List.Filters.{length-filter_both}
use Rattle.std.proofs.lemmas.List.FromFn.{length-range_with_len}
use Rattle.norm_order.specs.Sets.{with_member, is_member}
use Rattle.symbol_mask.specs.Words.{has_bit, places_of}
use Rattle.symbol_mask.proofs.Ranges.{filter_with, filter_lowest, filter_member, no_filter}

-- a place by its word and its bit
same_place : (i j : ℕ) → i / 64 ≡ j / 64 → i % 64 ≡ j % 64 → i ≡ j
same_place i j e f = omega (arith, div-add-mod i 64, div-add-mod j 64)

-- the bit of a place whose word was written
written_bit : (words : List ℕ) (k v i : ℕ) → k < length words → i / 64 ≡ k → has_bit (set words k v) i ≡ (bit_at v (i % 64) == 1)
written_bit words k v i lt e =
    ap (λ w. bit_at w (i % 64) == 1) (ap (λ n. get_or (set words k v) n 0) e ∙ get_or-set_same words k v 0 lt)

-- the bit of a place of another word
other_bit : (words : List ℕ) (k v i : ℕ) → (i / 64 ≡ k → ⊥) → has_bit (set words k v) i ≡ has_bit words i
other_bit words k v i ne = ap (λ w. bit_at w (i % 64) == 1) (get_or-set_other words k (i / 64) v 0 ne)

below_64 : (i : ℕ) → i % 64 < 64
below_64 i = omega arith

-- one bit is set: it is there, and every other is as it was
set_here : (words : List ℕ) (place : ℕ) → place / 64 < length words
    → has_bit (set words (place / 64) (bit_or (get_or words (place / 64) 0) (1 * 2 ^ (place % 64) % 2 ^ 64))) place ≡ true
set_here words place lt =
    written_bit words (place / 64) _ place lt refl
    ∙ ap (λ b. b == 1) (bit_at_set_same w64 (get_or words (place / 64) 0) (place % 64) (below_64 place))

set_there : (words : List ℕ) (place i : ℕ) → place / 64 < length words → (i ≡ place → ⊥)
    → has_bit (set words (place / 64) (bit_or (get_or words (place / 64) 0) (1 * 2 ^ (place % 64) % 2 ^ 64))) i ≡ has_bit words i
set_there words place i lt ne = go (cases_eq (i / 64) (place / 64))
  where
    go : (i / 64 ≡ place / 64) ⊎ (i / 64 ≡ place / 64 → ⊥)
        → has_bit (set words (place / 64) (bit_or (get_or words (place / 64) 0) (1 * 2 ^ (place % 64) % 2 ^ 64))) i ≡ has_bit words i
    go (inl e) =
        written_bit words (place / 64) _ i lt e
        ∙ ap (λ b. b == 1) (bit_at_set_other w64 (get_or words (place / 64) 0) (place % 64) (below_64 place) (i % 64) (λ f. ne (same_place i place e f)))
        ∙ ap (λ n. bit_at (get_or words n 0) (i % 64) == 1) (sym e)
    go (inr f) = other_bit words (place / 64) _ i f

-- the word of a place is there
in_words : (words : List ℕ) (n place : ℕ) → place < n → n ≤ 64 * length words → place / 64 < length words
in_words words n place lt room = omega (arith, div-add-mod place 64)

-- Setting a bit puts its place into the set.
pub set_puts : (words new : List ℕ) (n place : ℕ) → place < n → n ≤ 64 * length words
    → new ≡ set words (place / 64) (bit_or (get_or words (place / 64) 0) (1 * 2 ^ (place % 64) % 2 ^ 64))
    → (places_of n new).members ≡ with_member nat_lt place (places_of n words).members
set_puts words new n place lt room is =
    filter_with (has_bit words) (has_bit new) place 0 n (omega arith) (omega arith)
    (ap (λ ws. has_bit ws place) is ∙ set_here words place (in_words words n place lt room))
    (λ i ne. ap (λ ws. has_bit ws i) is ∙ set_there words place i (in_words words n place lt room) ne)

-- and no bit from the size on
pub set_rest : (words new : List ℕ) (n place : ℕ) → place < n → n ≤ 64 * length words
    → new ≡ set words (place / 64) (bit_or (get_or words (place / 64) 0) (1 * 2 ^ (place % 64) % 2 ^ 64))
    → ((i : ℕ) → n ≤ i → has_bit words i ≡ false) → (i : ℕ) → n ≤ i → has_bit new i ≡ false
set_rest words new n place lt room is rest i le =
    ap (λ ws. has_bit ws i) is ∙ set_there words place i (in_words words n place lt room) (λ e. omega arith) ∙ rest i le

-- a bit that is read
pub read_bit : (words : List ℕ) (n place : ℕ) → place < n
    → (bit_and (get_or words (place / 64) 0 / 2 ^ (place % 64)) 1 == 1) ≡ is_member nat_lt place (places_of n words).members
read_bit words n place lt =
    ap (λ b. b == 1) (shr_and_one (get_or words (place / 64) 0) (place % 64))
    ∙ sym (filter_member (has_bit words) place 0 n (omega arith) (omega arith))

-- a word that is 0 has no member
empty_word : (words : List ℕ) (i : ℕ) → get_or words (i / 64) 0 ≡ 0 → has_bit words i ≡ false
empty_word words i e = ap (λ w. bit_at w (i % 64) == 1) e ∙ ap (λ b. b == 1) (bit_at-zero (i % 64))

-- where all words are 0, there is no member, and no bit from the size on
pub no_members : (words : List ℕ) (n : ℕ) → ((k : ℕ) → get_or words k 0 ≡ 0) → (places_of n words).members ≡ []
no_members words n zeros = no_filter (has_bit words) 0 n (λ i le lt. empty_word words i (zeros (i / 64)))

pub positive : (n : ℕ) → (n ≡ 0 → ⊥) → 0 < n
positive zero ne = absurd (ne refl)
positive (suc n) ne = omega arith

-- Clearing the lowest bit of the first word that is not 0 takes out the lowest member, which is below the size, and leaves
-- no bit from the size on.
pub taken : (words new : List ℕ) (n k word low : ℕ) → k < length words → get_or words k 0 ≡ word → ((j : ℕ) → j < k → get_or words j 0 ≡ 0)
    → (low < 64) × (bit_at word low ≡ 1) × ((i : ℕ) → i < low → bit_at word i ≡ 0)
    → new ≡ set words k (bit_and word (bit_not w64 (1 * 2 ^ low % 2 ^ 64)))
    → ((i : ℕ) → n ≤ i → has_bit words i ≡ false)
    → (64 * k + low < n) × ((places_of n words).members ≡ (64 * k + low) ∷ (places_of n new).members) × ((i : ℕ) → n ≤ i → has_bit new i ≡ false)
taken words new n k word low lt reads zeros bit is rest = (
  within,
  filter_lowest (has_bit words) (has_bit new) (64 * k + low) 0 n (omega arith) (omega (arith, within)) here below gone there,
  λ i le. there i (λ e. omega (arith, within)) ∙ rest i le,
)
  where
    in_word : (64 * k + low) / 64 ≡ k
    in_word = let few : low < 64 = bit.0 in omega (arith, div-add-mod (64 * k + low) 64)

    in_bit : (64 * k + low) % 64 ≡ low
    in_bit = let few : low < 64 = bit.0 in omega (arith, div-add-mod (64 * k + low) 64)

    here : has_bit words (64 * k + low) ≡ true
    here =
        ap (λ n. bit_at (get_or words n 0) ((64 * k + low) % 64) == 1) in_word
        ∙ ap (λ w. bit_at w ((64 * k + low) % 64) == 1) reads
        ∙ ap (λ n. bit_at word n == 1) in_bit
        ∙ ap (λ b. b == 1) bit.1

    within : 64 * k + low < n
    within = go (cases_lt (64 * k + low) n)
      where
        go : (64 * k + low < n) ⊎ (n ≤ 64 * k + low) → 64 * k + low < n
        go (inl less) = less
        go (inr le) = let none = rest (64 * k + low) le in let one = here in absurd (cc)

    below : (i : ℕ) → 0 ≤ i → i < 64 * k + low → has_bit words i ≡ false
    below i le less = go (cases_lt (i / 64) k)
      where
        go : (i / 64 < k) ⊎ (k ≤ i / 64) → has_bit words i ≡ false
        go (inl under) = empty_word words i (zeros (i / 64) under)
        go (inr over) =
            let few : low < 64 = bit.0 in
            let same : i / 64 ≡ k = omega (arith, div-add-mod i 64) in
            let lower : i % 64 < low = omega (arith, div-add-mod i 64) in
            ap (λ n. bit_at (get_or words n 0) (i % 64) == 1) same
            ∙ ap (λ w. bit_at w (i % 64) == 1) reads
            ∙ ap (λ b. b == 1) (bit.2 (i % 64) lower)

    gone : has_bit new (64 * k + low) ≡ false
    gone =
        ap (λ ws. has_bit ws (64 * k + low)) is
        ∙ written_bit words k _ (64 * k + low) lt in_word
        ∙ ap (λ n. bit_at (bit_and word (bit_not w64 (1 * 2 ^ low % 2 ^ 64))) n == 1) in_bit
        ∙ ap (λ b. b == 1) (bit_at_clear_same w64 word low bit.0)

    there : (i : ℕ) → (i ≡ 64 * k + low → ⊥) → has_bit new i ≡ has_bit words i
    there i ne = ap (λ ws. has_bit ws i) is ∙ go (cases_eq (i / 64) k)
      where
        go : (i / 64 ≡ k) ⊎ (i / 64 ≡ k → ⊥) → has_bit (set words k (bit_and word (bit_not w64 (1 * 2 ^ low % 2 ^ 64)))) i ≡ has_bit words i
        go (inl e) =
            written_bit words k _ i lt e
            ∙ ap (λ b. b == 1) (bit_at_clear_other w64 word low bit.0 (i % 64) (below_64 i) (λ f. ne (omega (arith, div-add-mod i 64))))
            ∙ ap (λ w. bit_at w (i % 64) == 1) (sym reads)
            ∙ ap (λ n. bit_at (get_or words n 0) (i % 64) == 1) (sym e)
        go (inr f) = other_bit words k _ i f

-- a front of words that are 0
pub zero_front : (words : List ℕ) (n k : ℕ) → AllByRecursion (λ word. word ≡ 0) (take n words) → k < n → get_or words k 0 ≡ 0
zero_front [] n k all lt = refl
zero_front (w ∷ words) zero k all lt = absurd (omega arith)
zero_front (w ∷ words) (suc n) zero all lt = all.0
zero_front (w ∷ words) (suc n) (suc k) all lt = zero_front words n k all.1 (omega arith)

pub front_of_zeros : (words : List ℕ) (n : ℕ) → ((k : ℕ) → k < n → get_or words k 0 ≡ 0) → AllByRecursion (λ word. word ≡ 0) (take n words)
front_of_zeros words zero zeros = tt
front_of_zeros [] (suc n) zeros = tt
front_of_zeros (w ∷ words) (suc n) zeros = (zeros 0 (omega arith), front_of_zeros words n (λ k lt. zeros (suc k) (omega arith)))

-- a word written behind the front leaves it
pub front_kept : (words : List ℕ) (n k v : ℕ) → AllByRecursion (λ word. word ≡ 0) (take n words) → n ≤ k → AllByRecursion (λ word. word ≡ 0) (take n (set words k v))
front_kept words n k v all le = front_of_zeros (set words k v) n (λ j lt. get_or-set_other words k j v 0 (λ e. omega arith) ∙ zero_front words n j all lt)

pub shorter_front : (words : List ℕ) (n k v : ℕ) → AllByRecursion (λ word. word ≡ 0) (take n words) → k ≤ n → AllByRecursion (λ word. word ≡ 0) (take k (set words k v))
shorter_front words n k v all le = front_of_zeros (set words k v) k (λ j lt. get_or-set_other words k j v 0 (λ e. omega arith) ∙ zero_front words n j all (omega arith))

-- words that are all 0
pub zero_words : (n k : ℕ) → get_or {A = ℕ} (replicate n 0) k 0 ≡ 0
zero_words n k = go (cases_lt k n)
  where
    go : (k < n) ⊎ (n ≤ k) → get_or {A = ℕ} (replicate n 0) k 0 ≡ 0
    go (inl lt) = get_or-replicate n k 0 0 lt
    go (inr le) = get_or_past (replicate n 0) k 0 (omega (arith, length-replicate {A = ℕ} n 0))

-- words that are 0 up to one, by the front and by a search behind it
pub zero_below : (words now : List ℕ) (lowest k : ℕ) → now ≡ words → AllByRecursion (λ word. word ≡ 0) (take lowest words)
    → ((j : ℕ) → lowest ≤ j → j < k → get_or now j 0 ≡ 0) → (j : ℕ) → j < k → get_or words j 0 ≡ 0
zero_below words now lowest k same front searched j lt = go (cases_lt j lowest)
  where
    go : (j < lowest) ⊎ (lowest ≤ j) → get_or words j 0 ≡ 0
    go (inl under) = zero_front words lowest j front under
    go (inr over) = ap (λ (ws : List ℕ). get_or ws j 0) (sym same) ∙ searched j over lt

-- where the search finds nothing there is no member
pub nobody : (words now : List ℕ) (n lowest : ℕ) → now ≡ words → AllByRecursion (λ word. word ≡ 0) (take lowest words)
    → ((j : ℕ) → lowest ≤ j → get_or now j 0 ≡ 0) → (places_of n words).members ≡ []
nobody words now n lowest same front searched =
    no_members words n (λ j. zero_below words now lowest (j + 1) same front (λ i le lt. searched i le) j (omega arith))

pub front_below : (words : List ℕ) (k v : ℕ) → ((j : ℕ) → j < k → get_or words j 0 ≡ 0) → AllByRecursion (λ word. word ≡ 0) (take k (set words k v))
front_below words k v zeros = front_of_zeros (set words k v) k (λ j lt. get_or-set_other words k j v 0 (λ e. omega arith) ∙ zeros j lt)

-- no more members than places
pub few_members : (words : List ℕ) (n : ℕ) → length (places_of n words).members ≤ n
few_members words n =
    omega (
      arith,
      length-filter_both (has_bit words) (λ x. not (has_bit words x)) (λ x. refl) (range_with_len 0 n),
      length-range_with_len 0 n,
    )
