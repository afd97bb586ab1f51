use Rattle.std.specs.Prelude.{ℕ, ◌+◌, ◌*◌, ◌-◌, ◌==◌, ◌&&◌, ◌||◌, Bool, not, List, length, nat_eq, nat_le, Option, None, Some, fold, if◌then◌else◌, slice_index}
use Rattle.std.specs.Char.{is_ascii_alphanumeric}
use Rattle.std.specs.List.{list_all}
use Rattle.std.specs.Result.{result_ok}
use Rattle.std.specs.Cmp.Lexicographic.{pointwise}
use Rattle.hex.specs.Hex.{decode_of}

-- The words that lines are made of: numbers, contents and names.

-- a word is this text
abbrev pub is_text : List ℕ → List ℕ → Bool
is_text word text = pointwise nat_eq word text

abbrev pub is_digit : ℕ → Bool
is_digit c = nat_le 48 c && nat_le c 57

-- decimal digits without a sign or a leading zero
abbrev pub is_number : List ℕ → Bool
is_number word = nat_le 1 (length word) && list_all is_digit word && (length word == 1 || not (slice_index word 0 == 48))

-- the value of digits
abbrev pub with_digit : ℕ → ℕ → ℕ
with_digit value digit = 10 * value + (digit - 48)

abbrev pub value_of : List ℕ → ℕ
value_of word = fold with_digit 0 word

-- the number in this range that a word spells
abbrev pub number_within : ℕ → ℕ → List ℕ → Option ℕ
number_within low high word =
    if is_number word && nat_le low (value_of word) && nat_le (value_of word) high then Some (value_of word) else None

-- an even number of hexadecimal digits of either case, 2 to 16,384, and the octets that they stand for
abbrev pub contents_of : List ℕ → Option (List ℕ)
contents_of word = if nat_le 2 (length word) && nat_le (length word) 16384 then result_ok (decode_of word) else None

-- an ASCII letter, a digit, `.`, `_` or `-`
abbrev pub is_name_octet : ℕ → Bool
is_name_octet c = is_ascii_alphanumeric c || c == 46 || c == 95 || c == 45

-- 1 to 64 of these, of which the first is no `.`
abbrev pub is_name : List ℕ → Bool
is_name word =
    nat_le 1 (length word) && nat_le (length word) 64 && list_all is_name_octet word && not (slice_index word 0 == 46)

-- a name begins with `n` and a digit, as the names of copies do
abbrev pub is_numbered : List ℕ → Bool
is_numbered name = nat_le 2 (length name) && slice_index name 0 == 110 && is_digit (slice_index name 1)

-- the name of a file of a folder
abbrev pub is_file_name : List ℕ → Bool
is_file_name name = is_name name && not (is_numbered name)
