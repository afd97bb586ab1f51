-- One member of a document.
use Rattle.std.proofs.Common.{◌≡◌, ℕ, false, List, [], ◌∷◌, length, Option, Some, None, Result, Ok, Err, refl, ap}
use Rattle.std.specs.Prelude.{◌==◌}
use Rattle.norm_base.specs.Given.{give}
use Rattle.norm_base.specs.Keys.{row_of, keys, key_named}
use Rattle.norm_base.specs.declared.key.Key.{Key}
use Rattle.norm_profile.specs.Profiles.{number_given, word_given, value_given, given_in}
use Rattle.norm_profile.specs.declared.refusal.ProfileRefusal.{ProfileRefusal}
use Rattle.norm_profile.specs.declared.refusal.ProfileRefusal.TheVariants as refusal
use Rattle.toml.specs.Data.{Data, Members, no_members, member}

-- no key has its name
pub unknown : (name : List ℕ) (d : Data) (rest : Members) (given : List (Option ℕ)) → key_named name keys ≡ None
    → given_in (member name d rest) given ≡ Err (refusal.NoKey name)
unfolding given_in
unknown name d rest given none = rw none refl

-- its value is none of the key's
pub refused : (name : List ℕ) (d : Data) (rest : Members) (given : List (Option ℕ)) (k : Key) (why : ProfileRefusal) → key_named name keys ≡ Some k
    → value_given k d ≡ Err why → given_in (member name d rest) given ≡ Err why
unfolding given_in
refused name d rest given k why named bad = rw (named, bad) refl

-- it gives the key a value
pub gives : (name : List ℕ) (d : Data) (rest : Members) (given : List (Option ℕ)) (k : Key) (n : ℕ) → key_named name keys ≡ Some k
    → value_given k d ≡ Ok n → given_in (member name d rest) given ≡ given_in rest (give given k n)
unfolding given_in
gives name d rest given k n named good = rw (named, good) refl

-- none is left
pub none_left : (given : List (Option ℕ)) → given_in no_members given ≡ Ok given
unfolding given_in
none_left given = refl

abbrev chosen : Key → Data → List (List ℕ) → Result ℕ ProfileRefusal
chosen k d ws = elim ws [ [] ↦ number_given k d | word ∷ words ↦ word_given k d ]

-- the key's values are words
pub words_there : (k : Key) (d : Data) (words : List (List ℕ)) → (row_of k).words ≡ words → (length words == 0) ≡ false → value_given k d ≡ word_given k d
words_there k d [] is some = absurd (cc)
words_there k d (word ∷ words) is some = ap (chosen k d) is
