-- Words that are read are the words that are written for what they stand for.
use Rattle.std.proofs.Common.{◌≡◌, ◌∙◌, sym, ap, ◌+◌, ◌-◌, ◌*◌, ◌/◌, ◌%◌, ◌^◌, ◌≤◌, ◌<◌, inl, inr, ◌==◌, ℕ, zero, suc, List, [], ◌∷◌, ◌++◌, length, Option, Some, None, Result, Ok, Err, Bool, true, false, refl, arith, nat_le, nat_lt, cond, decimal, slice_index, fold}
use Rattle.std.specs.Prelude.{◌&&◌, ◌||◌, not, IfSome, is_some}
use Rattle.std.specs.Char.{to_ascii_lowercase}
use Rattle.std.specs.List.{list_all, range_with_len}
use Rattle.std.specs.Option.{option_map}
use Rattle.std.specs.Result.{result_ok, result_unwrap_or}
use Rattle.std.proofs.lemmas.Bool.{cases_lt}
use Rattle.std.proofs.lemmas.Bool.Decides.{Decides-eqb}
use Rattle.std.proofs.lemmas.Fmt.{decimal_by_steps}
use Rattle.std.proofs.lemmas.List.Folds.{list_all-append}
use Rattle.std.proofs.lemmas.List.Sums.{fold-append}
use Rattle.hex.specs.Hex.{encode_lower, encode_with, lower_digits, decode_of, decode_pairs, pair_value, value_at, digit_or_error, hex_digit_value, is_hex_digit, ◌>>=◌}
use Rattle.hex.specs.declared.error.FromHexError.{FromHexError}
use Rattle.hex.proofs.HexLemmas.{decode_of-ok, decode_of-even}
use Rattle.norm_script.specs.Plain.{lower_case}
use Rattle.norm_script.specs.Text.{split_at_first}
use Rattle.norm_script.specs.Words.{is_digit, is_number, value_of, with_digit, number_within, contents_of}
use Rattle.norm_script.proofs.LineLemmas.{map_some}
use Rattle.norm_script.proofs.WordLemmas.{both}

clash : false ≡ true → ⊥
clash e = cc

-- Words between spaces.

pub split_is : (c : ℕ) (xs : List ℕ) (p : List ℕ × List ℕ) → split_at_first c xs ≡ Some p → xs ≡ p.0 ++ c ∷ p.1
split_is c [] p e = absurd (cc)
split_is c (x ∷ xs) p e = go (x == c) refl e (λ q f. split_is c xs q f)
  where
    none : List ℕ × List ℕ
    none = ([], xs)

    same : (q r : List ℕ × List ℕ) → Some q ≡ Some r → q ≡ r
    same q r f = cc

    go : (b : Bool) → (x == c) ≡ b → cond b (Some none) (option_map (λ (q : List ℕ × List ℕ). (x ∷ q.0, q.1)) (split_at_first c xs)) ≡ Some p
        → ((q : List ℕ × List ℕ) → split_at_first c xs ≡ Some q → xs ≡ q.0 ++ c ∷ q.1) → x ∷ xs ≡ p.0 ++ c ∷ p.1
    go true is f later = ap (λ y. y ∷ xs) ((Decides-eqb x c).0 is) ∙ ap (λ (q : List ℕ × List ℕ). q.0 ++ c ∷ q.1) (same none p f)
    go false is f later =
        let q = map_some (λ (q : List ℕ × List ℕ). (x ∷ q.0, q.1)) (split_at_first c xs) p f in
        ap (λ rest. x ∷ rest) (later q.0 q.1.0) ∙ ap (λ (r : List ℕ × List ℕ). r.0 ++ c ∷ r.1) q.1.1

-- Numbers: digits without a leading zero are the decimal digits of their value.

record IsNumeral (word : List ℕ) : Type 0 where
  some : 1 ≤ length word
  digits : list_all is_digit word ≡ true
  lead : 2 ≤ length word → 49 ≤ slice_index word 0

digit_low : (x : ℕ) → is_digit x ≡ true → 48 ≤ x
digit_low x e = grind arith

digit_high : (x : ℕ) → is_digit x ≡ true → x ≤ 57
digit_high x e = grind arith

lead_of : (x : ℕ) (xs : List ℕ) → is_digit x ≡ true → (length (x ∷ xs) == 1 || not (x == 48)) ≡ true → 2 ≤ length (x ∷ xs) → 49 ≤ x
lead_of x xs digit e two = go (length (x ∷ xs) == 1) (x == 48) refl refl e
  where
    go : (b c : Bool) → (length (x ∷ xs) == 1) ≡ b → (x == 48) ≡ c → (b || not c) ≡ true → 49 ≤ x
    go true c is f either = absurd (let one : length (x ∷ xs) ≡ 1 = (Decides-eqb (length (x ∷ xs)) 1).0 is in omega arith)
    go false true is f either = absurd (clash either)
    go false false is f either = more x (digit_low x digit) f
      where
        more : (y : ℕ) → 48 ≤ y → (y == 48) ≡ false → 49 ≤ y
        more y low other = elim (cases_lt 48 y) [
          | inl lt ↦ omega arith
          | inr ge ↦ absurd (let is : y ≡ 48 = omega arith in clash (sym other ∙ (Decides-eqb y 48).1 is))
        ]

numeral : (word : List ℕ) → is_number word ≡ true → IsNumeral word
numeral [] e = absurd (clash e)
numeral (x ∷ xs) e =
    let three = both (nat_le 1 (length (x ∷ xs)) && list_all is_digit (x ∷ xs)) (length (x ∷ xs) == 1 || not (x == 48)) e in
    let two = both (nat_le 1 (length (x ∷ xs))) (list_all is_digit (x ∷ xs)) three.0 in
    let first = both (is_digit x) (list_all is_digit xs) two.1 in
    record { some = (let h : 1 ≤ suc (length xs) = omega arith in h); digits = two.1; lead = lead_of x xs first.0 three.1 }

-- a list by its last element
split_last : (x : ℕ) (xs : List ℕ) → (front : List ℕ) × (last : ℕ) × (x ∷ xs ≡ front ++ last ∷ [])
split_last x [] = ([], x, refl)
split_last x (y ∷ xs) = let rest = split_last y xs in (x ∷ rest.0, rest.1, ap (λ more. x ∷ more) rest.2)

grown : (a : ℕ) (xs : List ℕ) → a ≤ fold with_digit a xs
grown a [] = let h : a ≤ a = omega arith in h
grown a (x ∷ xs) = let more = grown (with_digit a x) xs in omega arith

-- more than one digit make ten and more
ten : (x y : ℕ) (xs : List ℕ) → 49 ≤ x → 10 ≤ value_of (x ∷ y ∷ xs)
ten x y xs lead = let more = grown (with_digit (with_digit 0 x) y) xs in omega arith

abbrev Only : ℕ → List ℕ → Type 0
Only n ds = (word : List ℕ) → IsNumeral word → value_of word ≡ n → word ≡ ds

only_digit : (n : ℕ) → n < 10 → Only n ((48 + n) ∷ [])
only_digit n small [] numeral is = absurd (let h = numeral.some in omega arith)
only_digit n small (x ∷ []) numeral is =
    let low = digit_low x (both (is_digit x) true numeral.digits).0 in
    ap (λ y. y ∷ []) (let h : x ≡ 48 + n = omega (arith, is, low) in h)
only_digit n small (x ∷ y ∷ xs) numeral is =
    absurd (let more = ten x y xs (numeral.lead (let h : 2 ≤ suc (suc (length xs)) = omega arith in h)) in omega arith)

only_more : (n : ℕ) (ds : List ℕ) → 10 ≤ n → Only (n / 10) ds → Only n (ds ++ (48 + n % 10) ∷ [])
only_more n ds large only [] numeral is = absurd (let h = numeral.some in omega arith)
only_more n ds large only (x ∷ []) numeral is =
    absurd (let high = digit_high x (both (is_digit x) true numeral.digits).0 in let one : value_of (x ∷ []) ≡ x - 48 = omega arith in omega (arith, one, is, high))
only_more n ds large only (x ∷ y ∷ xs) numeral is =
    let lead = numeral.lead (let h : 2 ≤ suc (suc (length xs)) = omega arith in h) in
    let parts = split_last y xs in
    let front = x ∷ parts.0 in
    let last = parts.1 in
    let whole : x ∷ y ∷ xs ≡ front ++ last ∷ [] = ap (λ rest. x ∷ rest) parts.2 in
    let digits : (list_all is_digit front && list_all is_digit (last ∷ [])) ≡ true =
    sym (list_all-append is_digit front (last ∷ [])) ∙ ap (list_all is_digit) (sym whole) ∙ numeral.digits in
    let two = both (list_all is_digit front) (list_all is_digit (last ∷ [])) digits in
    let one = both (is_digit last) true two.1 in
    let value : 10 * value_of front + (last - 48) ≡ n = sym (fold-append with_digit 0 front (last ∷ [])) ∙ ap value_of (sym whole) ∙ is in
    let low = digit_low last one.0 in
    let high = digit_high last one.0 in
    let tens : value_of front ≡ n / 10 = omega (arith, value, low, high) in
    let ones : last ≡ 48 + n % 10 = omega (arith, value, low, high) in
    whole
    ∙ ap (λ xs. xs ++ last ∷ []) (only front (record { some = (let h : 1 ≤ suc (length parts.0) = omega arith in h); digits = two.0; lead = λ long. lead }) tens)
    ∙ ap (λ d. ds ++ d ∷ []) ones

pub number_is : (word : List ℕ) → is_number word ≡ true → value_of word < 2 ^ 64 → decimal (value_of word) ≡ word
number_is word e small = sym (decimal_by_steps Only only_digit only_more (value_of word) small word (numeral word e) refl)

pub within_is : (low high : ℕ) (word : List ℕ) → high < 2 ^ 64 → IfSome (number_within low high word) (λ n. decimal n ≡ word)
within_is low high word small = go (is_number word && nat_le low (value_of word) && nat_le (value_of word) high) refl
  where
    most : nat_le (value_of word) high ≡ true → value_of word ≤ high
    most e = grind arith

    go : (b : Bool) → (is_number word && nat_le low (value_of word) && nat_le (value_of word) high) ≡ b
        → IfSome (cond b (Some (value_of word)) None) (λ n. decimal n ≡ word)
    go true e =
        let two = both (is_number word && nat_le low (value_of word)) (nat_le (value_of word) high) e in
        let one = both (is_number word) (nat_le low (value_of word)) two.0 in
        number_is word one.0 (let h = most two.1 in omega arith)
    go false e = tt

-- Contents: hexadecimal digits in lower case are those that are written for what they stand for.

digit_small : (c : ℕ) → is_hex_digit c ≡ true → c < 103
digit_small c e = grind arith

-- a digit's value is the place of its lower case
abbrev digit_right : ℕ → Bool
digit_right c = elim (hex_digit_value c) [
  | Some d ↦ nat_lt d 16 && slice_index lower_digits d == to_ascii_lowercase c
  | None ↦ true
]

passed : (test : ℕ → Bool) (first n k : ℕ) → list_all test (range_with_len first n) ≡ true → first ≤ k → k < first + n → test k ≡ true
passed test first zero k all le lt = absurd (omega arith)
passed test first (suc n) k all le lt =
    let two = both (test first) (list_all test (range_with_len (first + 1) n)) all in
    elim (cases_lt first k) [
      | inl more ↦ passed test (first + 1) n k two.1 (omega arith) (omega arith)
      | inr ge ↦ ap test (let is : k ≡ first = omega arith in is) ∙ two.0
    ]

digits_right : list_all digit_right (range_with_len 0 103) ≡ true
digits_right = refl

-- of a digit's value
record IsDigitOf (c d : ℕ) : Type 0 where
  small : d < 16
  place : slice_index lower_digits d ≡ to_ascii_lowercase c

digit_is : (c d : ℕ) → hex_digit_value c ≡ Some d → IsDigitOf c d
digit_is c d e =
    let right = passed digit_right 0 103 c digits_right (omega arith) (let h = digit_small c (ap is_some e) in omega arith) in
    let tells : (nat_lt d 16 && slice_index lower_digits d == to_ascii_lowercase c) ≡ true =
    sym (ap (λ (o : Option ℕ). elim o [ Some v ↦ nat_lt v 16 && slice_index lower_digits v == to_ascii_lowercase c | None ↦ true ]) e) ∙ right in
    let two = both (nat_lt d 16) (slice_index lower_digits d == to_ascii_lowercase c) tells in
    record { small = below two.0; place = (Decides-eqb (slice_index lower_digits d) (to_ascii_lowercase c)).0 two.1 }
  where
    below : nat_lt d 16 ≡ true → d < 16
    below h = grind arith

value_is : (c i d : ℕ) → value_at c i ≡ Ok d → hex_digit_value c ≡ Some d
value_is c i d e = go (hex_digit_value c) e
  where
    go : (o : Option ℕ) → digit_or_error c i o ≡ Ok d → o ≡ Some d
    go (Some v) f = ap Some (ap (λ (r : Result ℕ FromHexError). result_unwrap_or r 0) f)
    go None f = cc f

then_ok : {X Y : Type 0} (r : Result X FromHexError) (f : X → Result Y FromHexError) (y : Y) → (r >>= f) ≡ Ok y → (x : X) × (r ≡ Ok x) × (f x ≡ Ok y)
then_ok (Ok x) f y e = (x, refl, e)
then_ok (Err fault) f y e = cc e

pairs_are : (i : ℕ) (word bytes : List ℕ) → decode_pairs i word ≡ Ok bytes → encode_lower bytes ≡ lower_case word
unfolding decode_pairs encode_with
pairs_are i [] bytes e = ap encode_lower (sym (ap (λ (r : Result (List ℕ) FromHexError). result_unwrap_or r []) e))
pairs_are i (a ∷ []) bytes e = cc e
pairs_are i (a ∷ b ∷ rest) bytes e =
    let p = then_ok (pair_value a b i) _ bytes e in
    let high = then_ok (value_at a i) _ p.0 p.1 in
    let low = then_ok (value_at b (i + 1)) _ p.0 high.2 in
    let more = then_ok (decode_pairs (i + 2) rest) _ bytes p.2 in
    let whole : p.0 ∷ more.0 ≡ bytes = ap (λ (r : Result (List ℕ) FromHexError). result_unwrap_or r []) more.2 in
    let byte : high.0 * 16 + low.0 ≡ p.0 = ap (λ (r : Result ℕ FromHexError). result_unwrap_or r 0) low.2 in
    let first = digit_is a high.0 (value_is a i high.0 high.1) in
    let second = digit_is b low.0 (value_is b (i + 1) low.0 low.1) in
    let a_small = first.small in
    let b_small = second.small in
    let tens : p.0 / 16 ≡ high.0 = omega (arith, byte, a_small, b_small) in
    let ones : p.0 % 16 ≡ low.0 = omega (arith, byte, a_small, b_small) in
    ap encode_lower (sym whole)
    ∙ ap (λ d. slice_index lower_digits d ∷ slice_index lower_digits (p.0 % 16) ∷ encode_lower more.0) tens
    ∙ ap (λ d. slice_index lower_digits high.0 ∷ slice_index lower_digits d ∷ encode_lower more.0) ones
    ∙ ap (λ c. c ∷ slice_index lower_digits low.0 ∷ encode_lower more.0) first.place
    ∙ ap (λ c. to_ascii_lowercase a ∷ c ∷ encode_lower more.0) second.place
    ∙ ap (λ cs. to_ascii_lowercase a ∷ to_ascii_lowercase b ∷ cs) (pairs_are (i + 2) rest more.0 more.1)

pub hex_is : (word bytes : List ℕ) → decode_of word ≡ Ok bytes → encode_lower bytes ≡ lower_case word
hex_is word bytes e = pairs_are 0 word bytes (sym (decode_of-even word (decode_of-ok word bytes e).0) ∙ e)

pub contents_are : (word : List ℕ) → IfSome (contents_of word) (λ bytes. encode_lower bytes ≡ lower_case word)
contents_are word = go (nat_le 2 (length word) && nat_le (length word) 16384)
  where
    decoded : (r : Result (List ℕ) FromHexError) → decode_of word ≡ r → IfSome (result_ok r) (λ bytes. encode_lower bytes ≡ lower_case word)
    decoded (Ok bytes) e = hex_is word bytes e
    decoded (Err fault) e = tt

    go : (b : Bool) → IfSome (cond b (result_ok (decode_of word)) None) (λ bytes. encode_lower bytes ≡ lower_case word)
    go true = decoded (decode_of word) refl
    go false = tt
