use Rattle.std.proofs.Common.{◌≡◌, ◌∙◌, ◌^◌, ◌≤◌, ◌<◌, ℕ, List, [], ◌∷◌, ◌++◌, length, Some, None, Ok, Bool, true, false, refl, arith, codes, nat_eq, nat_lt, decimal, zero, suc, lit<, length-append}
use Rattle.std.specs.List.{list_all}
use Rattle.std.proofs.lemmas.Fmt.{decimal_nonempty, length-decimal-le}
use Rattle.std.proofs.lemmas.List.Folds.{list_all-append}
use Rattle.hex.specs.Hex.{encode_lower}
use Rattle.norm_base.specs.Keys.{row_of, keys, key_named, IsValue}
use Rattle.norm_base.specs.declared.key.Key.{Key}
use Rattle.norm_base.specs.declared.key.Key.TheVariants as key
use Rattle.norm_script.specs.Meaning.{value_for, setting_of, verb_of, meaning_of_words, meaning_of, is_passed_over}
use Rattle.norm_script.specs.Scripts.{IsVerb}
use Rattle.norm_script.specs.Words.{is_text, is_digit}
use Rattle.norm_script.specs.Written.{value_words, setting_line, verb_line, command_line}
use Rattle.norm_script.specs.declared.meaning.Meaning.{Meaning}
use Rattle.norm_script.specs.declared.meaning.Meaning.TheVariants.{Set, Command}
use Rattle.norm_script.specs.declared.script.Verb.{Verb}
use Rattle.norm_script.specs.declared.script.Verb.TheVariants as verb
use Rattle.norm_script.proofs.WordLemmas.{is_inner, is_word, all_weaker, and_true, split-word, split-none, number-written, value-written, within-written, at_least, digits-written, decimal-word, hex-word, hex-length, contents-written, name-word, name-length}

-- A line that is written out means what it was written for.

number-read : (k : Key) (v : ℕ) → (row_of k).words ≡ [] → IsValue k v → (row_of k).greatest < 10000000000 → value_for k (value_words k v) ≡ Ok v
number-read k v none is small =
    let fits : v < 2 ^ 64 = omega (arith, is.1, small) in
    rw none (rw (number-written v fits, value-written v fits, at_least v (row_of k).greatest is.1, at_least (row_of k).least v is.0) refl)

-- a value's word has at most 10 octets, none of which is a space
record IsShort (w : List ℕ) : Type 0 where
  word : is_word w ≡ true
  short : length w ≤ 10

number-short : (k : Key) (v : ℕ) → (row_of k).words ≡ [] → IsValue k v → (row_of k).greatest < 10000000000 → IsShort (value_words k v)
number-short k v none is small =
    let fits : v < 2 ^ 64 = omega (arith, is.1, small) in
    rw none (record { word = decimal-word v fits; short = length-decimal-le 10 v (omega arith) (omega (arith, is.1, small)) fits })

value-read : (k : Key) (v : ℕ) → IsValue k v → value_for k (value_words k v) ≡ Ok v
value-read key.Instance v is = number-read key.Instance v refl is (lit< tt)
value-read key.First v is = number-read key.First v refl is (lit< tt)
value-read key.Sender v is = number-read key.Sender v refl is (lit< tt)
value-read key.Receivers v is = number-read key.Receivers v refl is (lit< tt)
value-read key.Producers v is = number-read key.Producers v refl is (lit< tt)
value-read key.E v is = number-read key.E v refl is (lit< tt)
value-read key.B v is = number-read key.B v refl is (lit< tt)
value-read key.MaxN v is = number-read key.MaxN v refl is (lit< tt)
value-read key.Auto v is = number-read key.Auto v refl is (lit< tt)
value-read key.Window v is = number-read key.Window v refl is (lit< tt)
value-read key.Octets v is = number-read key.Octets v refl is (lit< tt)
value-read key.Blocks v is = number-read key.Blocks v refl is (lit< tt)
value-read key.Mode zero is = refl
value-read key.Mode (suc zero) is = refl
value-read key.Mode (suc (suc n)) is = absurd (omega (arith, is.1))
value-read key.Gap v is = number-read key.Gap v refl is (lit< tt)
value-read key.Grtt v is = number-read key.Grtt v refl is (lit< tt)
value-read key.GrttCode v is = number-read key.GrttCode v refl is (lit< tt)
value-read key.GsizeCode v is = number-read key.GsizeCode v refl is (lit< tt)
value-read key.K v is = number-read key.K v refl is (lit< tt)
value-read key.Step v is = number-read key.Step v refl is (lit< tt)
value-read key.Turns v is = number-read key.Turns v refl is (lit< tt)
value-read key.Fabric zero is = refl
value-read key.Fabric (suc zero) is = refl
value-read key.Fabric (suc (suc zero)) is = refl
value-read key.Fabric (suc (suc (suc n))) is = absurd (omega (arith, is.1))
value-read key.Chance v is = number-read key.Chance v refl is (lit< tt)
value-read key.Loss v is = number-read key.Loss v refl is (lit< tt)
value-read key.Repeat v is = number-read key.Repeat v refl is (lit< tt)
value-read key.Late v is = number-read key.Late v refl is (lit< tt)
value-read key.Port v is = number-read key.Port v refl is (lit< tt)

value-short : (k : Key) (v : ℕ) → IsValue k v → IsShort (value_words k v)
value-short key.Instance v is = number-short key.Instance v refl is (lit< tt)
value-short key.First v is = number-short key.First v refl is (lit< tt)
value-short key.Sender v is = number-short key.Sender v refl is (lit< tt)
value-short key.Receivers v is = number-short key.Receivers v refl is (lit< tt)
value-short key.Producers v is = number-short key.Producers v refl is (lit< tt)
value-short key.E v is = number-short key.E v refl is (lit< tt)
value-short key.B v is = number-short key.B v refl is (lit< tt)
value-short key.MaxN v is = number-short key.MaxN v refl is (lit< tt)
value-short key.Auto v is = number-short key.Auto v refl is (lit< tt)
value-short key.Window v is = number-short key.Window v refl is (lit< tt)
value-short key.Octets v is = number-short key.Octets v refl is (lit< tt)
value-short key.Blocks v is = number-short key.Blocks v refl is (lit< tt)
value-short key.Mode zero is = record { word = refl; short = omega arith }
value-short key.Mode (suc zero) is = record { word = refl; short = omega arith }
value-short key.Mode (suc (suc n)) is = absurd (omega (arith, is.1))
value-short key.Gap v is = number-short key.Gap v refl is (lit< tt)
value-short key.Grtt v is = number-short key.Grtt v refl is (lit< tt)
value-short key.GrttCode v is = number-short key.GrttCode v refl is (lit< tt)
value-short key.GsizeCode v is = number-short key.GsizeCode v refl is (lit< tt)
value-short key.K v is = number-short key.K v refl is (lit< tt)
value-short key.Step v is = number-short key.Step v refl is (lit< tt)
value-short key.Turns v is = number-short key.Turns v refl is (lit< tt)
value-short key.Fabric zero is = record { word = refl; short = omega arith }
value-short key.Fabric (suc zero) is = record { word = refl; short = omega arith }
value-short key.Fabric (suc (suc zero)) is = record { word = refl; short = omega arith }
value-short key.Fabric (suc (suc (suc n))) is = absurd (omega (arith, is.1))
value-short key.Chance v is = number-short key.Chance v refl is (lit< tt)
value-short key.Loss v is = number-short key.Loss v refl is (lit< tt)
value-short key.Repeat v is = number-short key.Repeat v refl is (lit< tt)
value-short key.Late v is = number-short key.Late v refl is (lit< tt)
value-short key.Port v is = number-short key.Port v refl is (lit< tt)

name-named : (k : Key) → key_named (row_of k).name keys ≡ Some k
name-named key.Instance = refl
name-named key.First = refl
name-named key.Sender = refl
name-named key.Receivers = refl
name-named key.Producers = refl
name-named key.E = refl
name-named key.B = refl
name-named key.MaxN = refl
name-named key.Auto = refl
name-named key.Window = refl
name-named key.Octets = refl
name-named key.Blocks = refl
name-named key.Mode = refl
name-named key.Gap = refl
name-named key.Grtt = refl
name-named key.GrttCode = refl
name-named key.GsizeCode = refl
name-named key.K = refl
name-named key.Step = refl
name-named key.Turns = refl
name-named key.Fabric = refl
name-named key.Chance = refl
name-named key.Loss = refl
name-named key.Repeat = refl
name-named key.Late = refl
name-named key.Port = refl

name-short : (k : Key) → IsShort (row_of k).name
name-short key.Instance = record { word = refl; short = omega arith }
name-short key.First = record { word = refl; short = omega arith }
name-short key.Sender = record { word = refl; short = omega arith }
name-short key.Receivers = record { word = refl; short = omega arith }
name-short key.Producers = record { word = refl; short = omega arith }
name-short key.E = record { word = refl; short = omega arith }
name-short key.B = record { word = refl; short = omega arith }
name-short key.MaxN = record { word = refl; short = omega arith }
name-short key.Auto = record { word = refl; short = omega arith }
name-short key.Window = record { word = refl; short = omega arith }
name-short key.Octets = record { word = refl; short = omega arith }
name-short key.Blocks = record { word = refl; short = omega arith }
name-short key.Mode = record { word = refl; short = omega arith }
name-short key.Gap = record { word = refl; short = omega arith }
name-short key.Grtt = record { word = refl; short = omega arith }
name-short key.GrttCode = record { word = refl; short = omega arith }
name-short key.GsizeCode = record { word = refl; short = omega arith }
name-short key.K = record { word = refl; short = omega arith }
name-short key.Step = record { word = refl; short = omega arith }
name-short key.Turns = record { word = refl; short = omega arith }
name-short key.Fabric = record { word = refl; short = omega arith }
name-short key.Chance = record { word = refl; short = omega arith }
name-short key.Loss = record { word = refl; short = omega arith }
name-short key.Repeat = record { word = refl; short = omega arith }
name-short key.Late = record { word = refl; short = omega arith }
name-short key.Port = record { word = refl; short = omega arith }

-- a line that is no comment, of at most 16,500 octets
line-means : (line : List ℕ) (m : Meaning) → length line ≤ 16500 → is_passed_over line ≡ false → meaning_of_words line ≡ Ok m → meaning_of line ≡ Ok m
line-means line m fits passed is = rw (at_least (length line) 16500 fits, passed, is) refl

begun : (x : ℕ) (xs : List ℕ) → nat_eq x 35 ≡ false → is_passed_over (x ∷ xs) ≡ false
begun x xs other = let some : nat_eq (suc (length xs)) 0 ≡ false = grind arith in rw (some, other) refl

setting-read : (k : Key) (v : ℕ) → IsValue k v → setting_of ((row_of k).name ++ 32 ∷ value_words k v) ≡ Ok (Set k v)
setting-read k v is = rw (split-word (row_of k).name (value_words k v) (name-short k).word, name-named k, value-read k v is) refl

pub setting-means : (k : Key) (v : ℕ) → IsValue k v → meaning_of (setting_line k v) ≡ Ok (Set k v)
setting-means k v is =
    line-means (setting_line k v) (Set k v)
    (omega (arith, length-append (row_of k).name (32 ∷ value_words k v), (name-short k).short, (value-short k v is).short)) (begun 115 (101 ∷ 116 ∷ 32 ∷ (row_of k).name ++ 32 ∷ value_words k v) refl) (setting-read k v is)

-- verbs

verb-read : (v : Verb) → IsVerb v → verb_of (verb_line v) ≡ Ok v
verb-read (verb.Data None bytes) is = rw (split-none (encode_lower bytes) (hex-word bytes is.octets), contents-written bytes is) refl
verb-read (verb.Data (Some info) bytes) is =
    rw (split-word (encode_lower bytes) (encode_lower info) (hex-word bytes is.object.octets), contents-written bytes is.object, contents-written info is.info_is) refl
verb-read (verb.File name) is = rw is refl
verb-read verb.Open is = refl
verb-read (verb.Write bytes) is = rw (contents-written bytes is) refl
verb-read verb.Close is = refl
verb-read (verb.Mark None) is = refl
verb-read (verb.Mark (Some quorum)) is = rw (within-written 1 16 quorum is.0 is.1 (lit< tt)) refl
verb-read (verb.Restart instance) is = rw (within-written 0 65535 instance (omega arith) (omega (arith, is)) (lit< tt)) refl
verb-read (verb.Strike node) is = rw (within-written 1 4294967294 node is.0 is.1 (lit< tt)) refl

verb-length : (v : Verb) → IsVerb v → length (verb_line v) ≤ 16498
verb-length (verb.Data None bytes) is = omega (arith, hex-length bytes, is.most)
verb-length (verb.Data (Some info) bytes) is =
    omega (arith, length-append (encode_lower bytes) (32 ∷ encode_lower info), hex-length bytes, hex-length info, is.fits)
verb-length (verb.File name) is = omega (arith, name-length name is)
verb-length verb.Open is = omega arith
verb-length (verb.Write bytes) is = omega (arith, hex-length bytes, is.most)
verb-length verb.Close is = omega arith
verb-length (verb.Mark None) is = omega arith
verb-length (verb.Mark (Some quorum)) is = omega (arith, length-decimal-le 2 quorum (omega arith) (omega (arith, is)) (omega (arith, is)))
verb-length (verb.Restart instance) is = omega (arith, length-decimal-le 5 instance (omega arith) (omega (arith, is)) (omega (arith, is)))
verb-length (verb.Strike node) is = omega (arith, length-decimal-le 10 node (omega arith) (omega (arith, is)) (omega (arith, is)))

-- commands

not_set : (w : List ℕ) → list_all is_digit w ≡ true → is_text w (codes "set") ≡ false
not_set [] e = refl
not_set (x ∷ xs) e = let other : nat_eq x 115 ≡ false = grind arith in rw other refl

not_passed_over : (w rest : List ℕ) → list_all is_digit w ≡ true → 1 ≤ length w → is_passed_over (w ++ rest) ≡ false
not_passed_over [] rest e some = absurd (omega arith)
not_passed_over (x ∷ xs) rest e some = begun x (xs ++ rest) (grind arith)

pub command-means : (p : ℕ) (v : Verb) → 1 ≤ p → p ≤ 4 → IsVerb v → meaning_of (command_line p v) ≡ Ok (Command p v)
command-means p v first last is =
    let fits : p < 2 ^ 64 = omega arith in
    let digits = digits-written p fits in
    line-means (command_line p v) (Command p v)
    (omega (arith, length-append (decimal p) (32 ∷ verb_line v), length-decimal-le 1 p (omega arith) (omega arith) fits, verb-length v is))
    (not_passed_over (decimal p) (32 ∷ verb_line v) digits (decimal_nonempty p fits))
    (rw (
      split-word (decimal p) (verb_line v) (decimal-word p fits),
      not_set (decimal p) digits,
      within-written 1 4294967295 p first (omega arith) (lit< tt),
      verb-read v is,
    ) refl)

-- no line feed stands in a line

abbrev pub is_plain : List ℕ → Bool
is_plain line = list_all (nat_lt 10) line

inner_plain : (c : ℕ) → is_inner c ≡ true → nat_lt 10 c ≡ true
inner_plain c e = grind arith

word-plain : (w : List ℕ) → is_word w ≡ true → is_plain w ≡ true
word-plain w h = all_weaker is_inner (nat_lt 10) inner_plain w h

spaced-plain : (w rest : List ℕ) → is_word w ≡ true → is_plain rest ≡ true → is_plain (w ++ 32 ∷ rest) ≡ true
spaced-plain w rest h k =
    list_all-append (nat_lt 10) w (32 ∷ rest) ∙ and_true (is_plain w) (is_plain (32 ∷ rest)) (word-plain w h) k

pub setting-plain : (k : Key) (v : ℕ) → IsValue k v → is_plain (setting_line k v) ≡ true
setting-plain k v is =
    spaced-plain (row_of k).name (value_words k v) (name-short k).word (word-plain (value_words k v) (value-short k v is).word)

verb-plain : (v : Verb) → IsVerb v → is_plain (verb_line v) ≡ true
verb-plain (verb.Data None bytes) is = word-plain (encode_lower bytes) (hex-word bytes is.octets)
verb-plain (verb.Data (Some info) bytes) is =
    spaced-plain (encode_lower bytes) (encode_lower info) (hex-word bytes is.object.octets) (word-plain (encode_lower info) (hex-word info is.info_is.octets))
verb-plain (verb.File name) is = word-plain name (name-word name is)
verb-plain verb.Open is = refl
verb-plain (verb.Write bytes) is = word-plain (encode_lower bytes) (hex-word bytes is.octets)
verb-plain verb.Close is = refl
verb-plain (verb.Mark None) is = refl
verb-plain (verb.Mark (Some quorum)) is = word-plain (decimal quorum) (decimal-word quorum (omega (arith, is)))
verb-plain (verb.Restart instance) is = word-plain (decimal instance) (decimal-word instance (omega (arith, is)))
verb-plain (verb.Strike node) is = word-plain (decimal node) (decimal-word node (omega (arith, is)))

pub command-plain : (p : ℕ) (v : Verb) → p ≤ 4 → IsVerb v → is_plain (command_line p v) ≡ true
command-plain p v last is = spaced-plain (decimal p) (verb_line v) (decimal-word p (omega arith)) (verb-plain v is)
