-- What profile a TOML document is: a table of whole numbers and words under the names of the keys.
use Rattle.std.specs.Prelude.{ℕ, ℤ, pos, negsuc, nat_lt, List, [], ◌∷◌, length, Option, None, Some, Result, Ok, Err, if◌then◌else◌}
use Rattle.norm_base.specs.Given.{nothing_given, given_at, give, value_in, are_in_range}
use Rattle.norm_base.specs.Keys.{row_of, keys, key_named, place_of_word, is_value}
use Rattle.norm_base.specs.Settings.{Settings, settings_with}
use Rattle.norm_base.specs.declared.key.Key.{Key}
use Rattle.norm_base.specs.declared.key.Key.TheVariants as key
use Rattle.norm_profile.specs.declared.document.Document.{Document}
use Rattle.norm_profile.specs.declared.refusal.ProfileRefusal.{ProfileRefusal}
use Rattle.norm_profile.specs.declared.refusal.ProfileRefusal.TheVariants as refusal
use Rattle.toml.specs.Data.{Data, Members, no_members, member, string, integer}
use Rattle.toml.specs.Parse.{parse_document}

-- a whole number as a key's value
abbrev pub number_for : Key → ℤ → Result ℕ ProfileRefusal
number_for k (pos n) = if is_value k n then Ok n else Err (refusal.NoValue k)
number_for k (negsuc n) = Err (refusal.NoValue k)

-- the place of a word as a key's value
abbrev pub word_for : Key → Option ℕ → Result ℕ ProfileRefusal
word_for k None = Err (refusal.NoValue k)
word_for k (Some place) = Ok place

-- a value where the key's values are numbers
abbrev pub number_given : Key → Data → Result ℕ ProfileRefusal
number_given k (integer z) = number_for k z
number_given k other = Err (refusal.NoNumber k)

-- a value where the key's values are words
abbrev pub word_given : Key → Data → Result ℕ ProfileRefusal
word_given k (string s) = word_for k (place_of_word s (row_of k).words)
word_given k other = Err (refusal.NoText k)

-- what a value gives a key, or why it gives nothing
abbrev pub value_given : Key → Data → Result ℕ ProfileRefusal
value_given k d = elim (row_of k).words [ [] ↦ number_given k d | word ∷ words ↦ word_given k d ]

-- What the members of a document give to the keys, beside what was given before. The first, in the order of their names, that no key has, or whose
-- value is none of its key's, is refused.
unfoldable pub given_in : Members → List (Option ℕ) → Result (List (Option ℕ)) ProfileRefusal
given_in no_members given = Ok given
given_in (member name d rest) given = elim (key_named name keys) [
  | None ↦ Err (refusal.NoKey name)
  | Some k ↦ elim (value_given k d) [
    | Err why ↦ Err why
    | Ok n ↦ given_in rest (give given k n)
  ]
]

-- which of the two rules across keys is broken
abbrev pub broken_rule : (Key → ℕ) → ProfileRefusal
broken_rule value =
    if nat_lt (value key.MaxN) (value key.B) then refusal.MaxBelowB (value key.MaxN) (value key.B)
    else refusal.Buffer (value key.Blocks) (value key.B) (value key.E)

-- What a document with these values is: their profile, with all others at their defaults, and the first instance, if it is given.
abbrev pub document_with : List (Option ℕ) → Result Document ProfileRefusal
document_with given =
    if are_in_range (value_in given) then Ok (record { profile = settings_with (value_in given); instance = given_at given key.Instance })
    else Err (broken_rule (value_in given))

-- what the members are
abbrev pub document_of : Members → Result Document ProfileRefusal
document_of members = elim (given_in members nothing_given) [ Err why ↦ Err why | Ok given ↦ document_with given ]

-- Exactly the profile that a text is, with the instance that it gives, or why it is none.
abbrev pub document_in : List ℕ → Result Document ProfileRefusal
document_in text =
    if nat_lt 65536 (length text) then Err refusal.TooLong
    else elim (parse_document text) [ None ↦ Err refusal.NoDocument | Some members ↦ document_of members ]

-- the profile alone
abbrev pub profile_of : Result Document ProfileRefusal → Result Settings ProfileRefusal
profile_of (Ok document) = Ok document.profile
profile_of (Err why) = Err why

abbrev pub profile_in : List ℕ → Result Settings ProfileRefusal
profile_in text = profile_of (document_in text)
