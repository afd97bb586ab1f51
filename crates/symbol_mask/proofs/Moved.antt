-- Words that were moved down.
use Rattle.std.proofs.Common.{◌≡◌, ℕ, ◌+◌, ◌-◌, ◌*◌, ◌/◌, ◌%◌, ◌<◌, ◌≤◌, ◌⊎◌, inl, inr, List, length, set, get_or, false, sym, ap, ◌∙◌, arith, take}
use Rattle.std.specs.Prelude.{◌==◌, min, nat_lt}
use Rattle.std.specs.Int.{bit_at}
use Rattle.std.specs.List.{AllByRecursion}
use Rattle.std.proofs.Math.Nat.{div-add-mod}
use Rattle.std.proofs.lemmas.Bool.{cases_eq, cases_lt}
use Rattle.std.proofs.lemmas.List.{get_or-set_same, get_or-set_other, get_or_past}
use Rattle.norm_order.specs.Sets.{is_member}
use Rattle.symbol_mask.specs.Words.{has_bit, places_of}
use Rattle.symbol_mask.proofs.Bits.{zero_front, front_of_zeros}
use Rattle.symbol_mask.proofs.Ranges.{filter_member}
use Rattle.symbol_mask.proofs.Filled.{none_past}

-- one word more was moved
pub word_moved : (old words : List ℕ) (place gone v : ℕ) → length words ≡ length old → place < length old
    → ((k : ℕ) → k < place → get_or words k 0 ≡ get_or old (k + gone) 0)
    → ((k : ℕ) → place ≤ k → get_or words k 0 ≡ get_or old k 0)
    → v ≡ get_or words (place + gone) 0
    → (k : ℕ) → k < place + 1 → get_or (set words place v) k 0 ≡ get_or old (k + gone) 0
word_moved old words place gone v same lt moved rest is k below = go (cases_eq k place)
  where
    go : (k ≡ place) ⊎ (k ≡ place → ⊥) → get_or (set words place v) k 0 ≡ get_or old (k + gone) 0
    go (inl e) =
        ap (λ n. get_or (set words place v) n 0) e ∙ get_or-set_same words place v 0 (omega (arith, same, lt))
        ∙ is ∙ rest (place + gone) (omega arith) ∙ ap (λ n. get_or old (n + gone) 0) (sym e)
    go (inr ne) = get_or-set_other words place k v 0 ne ∙ moved k (omega (arith, below, ne))

pub word_left : (old words : List ℕ) (place v : ℕ) → ((k : ℕ) → place ≤ k → get_or words k 0 ≡ get_or old k 0)
    → (k : ℕ) → place + 1 ≤ k → get_or (set words place v) k 0 ≡ get_or old k 0
word_left old words place v rest k le = get_or-set_other words place k v 0 (λ e. omega (arith, le, e)) ∙ rest k (omega (arith, le))

-- all words were moved
pub all_moved : (old words : List ℕ) (place count gone : ℕ) → length words ≡ length old → gone ≡ min count (length old) → length old ≤ place
    → ((k : ℕ) → k < place → get_or words k 0 ≡ get_or old (k + gone) 0)
    → ((k : ℕ) → place ≤ k → get_or words k 0 ≡ get_or old k 0)
    → (k : ℕ) → get_or words k 0 ≡ get_or old (k + count) 0
all_moved old words place count gone same is done moved rest k = now (cases_lt k place) ∙ by (cases_lt (length old) count)
  where
    now : (k < place) ⊎ (place ≤ k) → get_or words k 0 ≡ get_or old (k + gone) 0
    now (inl lt) = moved k lt
    now (inr le) = rest k le ∙ get_or_past old k 0 (omega (arith, done, le)) ∙ sym (get_or_past old (k + gone) 0 (omega (arith, done, le)))

    by : (length old < count) ⊎ (count ≤ length old) → get_or old (k + gone) 0 ≡ get_or old (k + count) 0
    by (inl lt) = get_or_past old (k + gone) 0 (omega (arith, is, lt)) ∙ sym (get_or_past old (k + count) 0 (omega (arith, lt)))
    by (inr le) = ap (λ n. get_or old (k + n) 0) (let e : gone ≡ count = omega (arith, is, le) in e)

-- the bit of a place stood so many words of places further on
pub bit_moved : (old words : List ℕ) (count : ℕ) → ((k : ℕ) → get_or words k 0 ≡ get_or old (k + count) 0)
    → (place : ℕ) → has_bit words place ≡ has_bit old (place + 64 * count)
bit_moved old words count moved place =
    ap (λ w. bit_at w (place % 64) == 1)
    (moved (place / 64) ∙ ap (λ n. get_or old n 0) (let e : place / 64 + count ≡ (place + 64 * count) / 64 = omega (arith, div-add-mod place 64, div-add-mod (place + 64 * count) 64) in e))
    ∙ ap (λ n. bit_at (get_or old ((place + 64 * count) / 64) 0) n == 1)
    (let e : place % 64 ≡ (place + 64 * count) % 64 = omega (arith, div-add-mod place 64, div-add-mod (place + 64 * count) 64) in e)

pub rest_moved : (old words : List ℕ) (count size : ℕ) → ((k : ℕ) → get_or words k 0 ≡ get_or old (k + count) 0)
    → ((place : ℕ) → size ≤ place → has_bit old place ≡ false) → (place : ℕ) → size ≤ place → has_bit words place ≡ false
rest_moved old words count size moved rest place le = bit_moved old words count moved place ∙ rest (place + 64 * count) (omega (arith, le))

pub front_moved : (old words : List ℕ) (count lowest low : ℕ) → low ≡ lowest - count → ((k : ℕ) → get_or words k 0 ≡ get_or old (k + count) 0)
    → AllByRecursion (λ word. word ≡ 0) (take lowest old) → AllByRecursion (λ word. word ≡ 0) (take low words)
front_moved old words count lowest low is moved front =
    front_of_zeros words low (λ k lt. moved k ∙ zero_front old lowest (k + count) front (omega (arith, is, lt)))

-- the members stood so many words of places further on
pub members_moved : (old words : List ℕ) (count size : ℕ) → ((k : ℕ) → get_or words k 0 ≡ get_or old (k + count) 0)
    → ((place : ℕ) → size ≤ place → has_bit old place ≡ false)
    → (place : ℕ) → is_member nat_lt place (places_of size words).members ≡ is_member nat_lt (place + 64 * count) (places_of size old).members
members_moved old words count size moved rest place = new (cases_lt place size) ∙ bit_moved old words count moved place ∙ sym (was (cases_lt (place + 64 * count) size))
  where
    new : (place < size) ⊎ (size ≤ place) → is_member nat_lt place (places_of size words).members ≡ has_bit words place
    new (inl lt) = filter_member (has_bit words) place 0 size (omega arith) (omega arith)
    new (inr le) = none_past (has_bit words) place 0 size (omega arith) ∙ sym (rest_moved old words count size moved rest place le)

    was : (place + 64 * count < size) ⊎ (size ≤ place + 64 * count) → is_member nat_lt (place + 64 * count) (places_of size old).members ≡ has_bit old (place + 64 * count)
    was (inl lt) = filter_member (has_bit old) (place + 64 * count) 0 size (omega arith) (omega arith)
    was (inr le) = none_past (has_bit old) (place + 64 * count) 0 size (omega arith) ∙ sym (rest (place + 64 * count) le)
