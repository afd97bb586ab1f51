use Rattle.std.proofs.Common.{◌≡◌, ◌∙◌, sym, ℕ, ◌*◌, ◌≤◌, ◌<◌, ◌&&◌, true, false, List, length, get_or, refl, arith, nat_le, lit<}
use Rattle.std.proofs.lemmas.List.Folds.{list_all_at}
use Rattle.std.proofs.lemmas.Nat.{mul-le}
use Rattle.norm_base.specs.Keys.{row_of, keys, is_value, IsValue}
use Rattle.norm_base.specs.Given.{are_values, meets_rules}
use Rattle.norm_base.specs.Settings.{InRange, settings_with}
use Rattle.norm_base.specs.declared.key.Key.{Key}
use Rattle.norm_base.specs.declared.key.Key.TheVariants as key

within : (low high n : ℕ) → (nat_le low n && nat_le n high) ≡ true → (low ≤ n) × (n ≤ high)
within low high n e = grind arith

-- where the values of all these keys are of theirs, so is that of the key at a place
value_at : (value : Key → ℕ) (all : List Key) → are_values value all ≡ true → (i : ℕ) → i < length all
    → is_value (get_or all i key.Instance) (value (get_or all i key.Instance)) ≡ true
value_at value all each i inside =
    elim (is_value (get_or all i key.Instance) (value (get_or all i key.Instance)))
    as (λ b. is_value (get_or all i key.Instance) (value (get_or all i key.Instance)) ≡ b → b ≡ true) [
      | true ↦ λ e. refl
      | false ↦ λ e. sym (list_all_at (λ k. is_value k (value k)) all i key.Instance inside e) ∙ each
    ] refl

each_at : (value : Key → ℕ) → are_values value keys ≡ true → (i : ℕ) → i < 26
    → IsValue (get_or keys i key.Instance) (value (get_or keys i key.Instance))
each_at value each i inside =
    within (row_of (get_or keys i key.Instance)).least (row_of (get_or keys i key.Instance)).greatest
    (value (get_or keys i key.Instance)) (value_at value keys each i inside)

rules_hold : (value : Key → ℕ) → meets_rules value ≡ true
    → (value key.B ≤ value key.MaxN) × (value key.Blocks * value key.B * value key.E ≤ 16777216)
rules_hold value e = grind arith

-- the profile with values that are in range is
pub range_of : (value : Key → ℕ) → are_values value keys ≡ true → meets_rules value ≡ true → InRange (settings_with value)
range_of value each rules = record {
  instance = each_at value each 0 (lit< tt);
  first = each_at value each 1 (lit< tt);
  sender = each_at value each 2 (lit< tt);
  receivers = each_at value each 3 (lit< tt);
  producers = each_at value each 4 (lit< tt);
  e = each_at value each 5 (lit< tt);
  b = each_at value each 6 (lit< tt);
  max_n = each_at value each 7 (lit< tt);
  auto = each_at value each 8 (lit< tt);
  window = each_at value each 9 (lit< tt);
  octets = each_at value each 10 (lit< tt);
  blocks = each_at value each 11 (lit< tt);
  gap = each_at value each 13 (lit< tt);
  grtt = each_at value each 14 (lit< tt);
  grtt_code = each_at value each 15 (lit< tt);
  gsize_code = each_at value each 16 (lit< tt);
  k = each_at value each 17 (lit< tt);
  step = each_at value each 18 (lit< tt);
  turns = each_at value each 19 (lit< tt);
  chance = each_at value each 21 (lit< tt);
  loss = each_at value each 22 (lit< tt);
  repeat = each_at value each 23 (lit< tt);
  late = each_at value each 24 (lit< tt);
  port = each_at value each 25 (lit< tt);
  longest = (rules_hold value rules).0;
  buffer = (rules_hold value rules).1;
}

-- a buffer's octets are a number of 32 bits
pub buffer_fits : (value : Key → ℕ) → are_values value keys ≡ true
    → (value key.Blocks * value key.B ≤ 51200) × (value key.Blocks * value key.B * value key.E ≤ 71680000)
buffer_fits value each =
    let b = mul-le (value key.Blocks) (value key.B) 256 200 (each_at value each 11 (lit< tt)).1 (each_at value each 6 (lit< tt)).1 in
    (b, mul-le (value key.Blocks * value key.B) (value key.E) 51200 1400 b (each_at value each 5 (lit< tt)).1)
