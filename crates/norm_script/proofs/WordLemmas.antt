use Rattle.std.proofs.Common.{◌≡◌, ◌∙◌, ◌+◌, ◌*◌, ◌/◌, ◌%◌, ◌^◌, ◌≤◌, ◌<◌, ◌==◌, ℕ, List, [], ◌∷◌, ◌++◌, length, Some, None, Ok, Bool, true, false, refl, arith, nat_eq, nat_le, nat_lt, slice_index, decimal, zero, suc}
use Rattle.std.specs.Prelude.{◌&&◌, ◌||◌, not}
use Rattle.std.specs.List.{list_all}
use Rattle.std.proofs.lemmas.Fmt.{decimal_by_steps, first_decimal, decimal_nonempty, decimal_digit}
use Rattle.std.proofs.lemmas.List.Folds.{list_all-append}
use Rattle.std.proofs.lemmas.List.Sums.{fold-append, list_all-from_AllPass}
use Rattle.norm_base.specs.Octets.{AreOctets}
use Rattle.hex.specs.Hex.{encode_lower, is_hex_digit, lower_digits}
use Rattle.hex.proofs.HexLemmas.{decode_of-ok, decode_of-encode_lower, length-encode_with}
use Rattle.norm_script.specs.Meaning.{contents}
use Rattle.norm_script.specs.Scripts.{IsContents}
use Rattle.norm_script.specs.Text.{split_at_first}
use Rattle.norm_script.specs.Words.{is_digit, is_number, value_of, with_digit, number_within, is_name_octet, is_name}

-- Words that are written out read back as what they stand for.

-- an octet of a word is no space and ends no line
abbrev pub is_inner : ℕ → Bool
is_inner c = nat_lt 32 c

abbrev pub is_word : List ℕ → Bool
is_word w = list_all is_inner w

pub both : (a b : Bool) → (a && b) ≡ true → (a ≡ true) × (b ≡ true)
both true b h = (refl, cc)
both false b h = absurd (cc)

pub and_true : (a b : Bool) → a ≡ true → b ≡ true → (a && b) ≡ true
and_true a b e f = rw (e, f) refl

pub all_weaker : (p q : ℕ → Bool) → ((c : ℕ) → p c ≡ true → q c ≡ true) → (xs : List ℕ) → list_all p xs ≡ true → list_all q xs ≡ true
all_weaker p q h [] e = refl
all_weaker p q h (x ∷ xs) e =
    let b = both (p x) (list_all p xs) e in and_true (q x) (list_all q xs) (h x b.0) (all_weaker p q h xs b.1)

pub split-word : (w rest : List ℕ) → is_word w ≡ true → split_at_first 32 (w ++ 32 ∷ rest) ≡ Some (w, rest)
split-word [] rest h = refl
split-word (x ∷ xs) rest h =
    let b = both (is_inner x) (is_word xs) h in
    let other : nat_eq x 32 ≡ false = grind arith in
    rw (other, split-word xs rest b.1) refl

pub split-none : (w : List ℕ) → is_word w ≡ true → split_at_first 32 w ≡ None
split-none [] h = refl
split-none (x ∷ xs) h =
    let b = both (is_inner x) (is_word xs) h in
    let other : nat_eq x 32 ≡ false = grind arith in
    rw (other, split-none xs b.1) refl

-- numbers

record Spells (n : ℕ) (ds : List ℕ) : Type 0 where
  digits : list_all is_digit ds ≡ true
  value : value_of ds ≡ n

one_digit : (n : ℕ) → n < 10 → Spells n ((48 + n) ∷ [])
one_digit n h = record { digits = grind arith; value = omega arith }

more_digits : (n : ℕ) (ds : List ℕ) → 10 ≤ n → Spells (n / 10) ds → Spells n (ds ++ (48 + n % 10) ∷ [])
more_digits n ds h s = record {
  digits = list_all-append is_digit ds ((48 + n % 10) ∷ []) ∙ and_true (list_all is_digit ds) (list_all is_digit ((48 + n % 10) ∷ [])) s.digits (one_digit (n % 10) (omega arith)).digits;
  value = fold-append with_digit 0 ds ((48 + n % 10) ∷ []) ∙ omega (arith, s.value);
}

spells : (n : ℕ) → n < 2 ^ 64 → Spells n (decimal n)
spells n h = decimal_by_steps Spells one_digit more_digits n h

some_digit : (k : ℕ) → 0 < k → nat_le 1 k ≡ true
some_digit k h = grind arith

either : (a b : Bool) → (a ≡ false → b ≡ true) → (a || b) ≡ true
either true b h = refl
either false b h = h refl

first_digit : (n : ℕ) → n < 2 ^ 64 → (length (decimal n) == 1 || not (slice_index (decimal n) 0 == 48)) ≡ true
first_digit zero h = rw (decimal_digit 0 (omega arith)) refl
first_digit (suc n) h =
    let first : 48 < slice_index (decimal (suc n)) 0 = first_decimal (suc n) (omega arith) h in
    either (length (decimal (suc n)) == 1) (not (slice_index (decimal (suc n)) 0 == 48)) (λ e. grind arith)

pub number-written : (n : ℕ) → n < 2 ^ 64 → is_number (decimal n) ≡ true
number-written n h =
    and_true (nat_le 1 (length (decimal n)) && list_all is_digit (decimal n)) (length (decimal n) == 1 || not (slice_index (decimal n) 0 == 48))
    (and_true (nat_le 1 (length (decimal n))) (list_all is_digit (decimal n)) (some_digit (length (decimal n)) (decimal_nonempty n h)) (spells n h).digits) (first_digit n h)

pub value-written : (n : ℕ) → n < 2 ^ 64 → value_of (decimal n) ≡ n
value-written n h = (spells n h).value

pub digits-written : (n : ℕ) → n < 2 ^ 64 → list_all is_digit (decimal n) ≡ true
digits-written n h = (spells n h).digits

pub at_least : (a b : ℕ) → a ≤ b → nat_le a b ≡ true
at_least a b h = grind arith

pub within-written : (low high n : ℕ) → low ≤ n → n ≤ high → high < 2 ^ 64 → number_within low high (decimal n) ≡ Some n
within-written low high n l h small =
    let fits : n < 2 ^ 64 = omega arith in
    rw (number-written n fits, value-written n fits, at_least low n l, at_least n high h) refl

digit_inner : (c : ℕ) → is_digit c ≡ true → is_inner c ≡ true
digit_inner c e = grind arith

pub decimal-word : (n : ℕ) → n < 2 ^ 64 → is_word (decimal n) ≡ true
decimal-word n h = all_weaker is_digit is_inner digit_inner (decimal n) (spells n h).digits

-- contents

hex_inner : (c : ℕ) → is_hex_digit c ≡ true → is_inner c ≡ true
hex_inner c e = grind arith

pub hex-word : (bytes : List ℕ) → AreOctets bytes → is_word (encode_lower bytes) ≡ true
hex-word bytes h =
    all_weaker is_hex_digit is_inner hex_inner (encode_lower bytes)
    (list_all-from_AllPass is_hex_digit (encode_lower bytes) (decode_of-ok (encode_lower bytes) bytes (decode_of-encode_lower bytes h)).1)

pub hex-length : (bytes : List ℕ) → length (encode_lower bytes) ≡ 2 * length bytes
hex-length bytes = length-encode_with lower_digits bytes

pub contents-written : (bytes : List ℕ) → IsContents bytes → contents (encode_lower bytes) ≡ Ok bytes
contents-written bytes is =
    let len = hex-length bytes in
    rw (
      at_least 2 (length (encode_lower bytes)) (omega (arith, len, is.some)),
      at_least (length (encode_lower bytes)) 16384 (omega (arith, len, is.most)),
      decode_of-encode_lower bytes is.octets,
    ) refl

-- names

name_inner : (c : ℕ) → is_name_octet c ≡ true → is_inner c ≡ true
name_inner c e = grind arith

pub name-word : (name : List ℕ) → is_name name ≡ true → is_word name ≡ true
name-word name is =
    let a = both (nat_le 1 (length name) && nat_le (length name) 64 && list_all is_name_octet name) (not (slice_index name 0 == 46)) is in
    let b = both (nat_le 1 (length name) && nat_le (length name) 64) (list_all is_name_octet name) a.0 in
    all_weaker is_name_octet is_inner name_inner name b.1

pub name-length : (name : List ℕ) → is_name name ≡ true → length name ≤ 64
name-length name is =
    let a = both (nat_le 1 (length name) && nat_le (length name) 64 && list_all is_name_octet name) (not (slice_index name 0 == 46)) is in
    let b = both (nat_le 1 (length name) && nat_le (length name) 64) (list_all is_name_octet name) a.0 in
    let c = both (nat_le 1 (length name)) (nat_le (length name) 64) b.0 in
    grind arith
