-- The last place of a name, and what finds it.
use Rattle.std.specs.Prelude.{ℕ, ◌<◌, ◌≡◌, ◌≢◌, List, length, map, slice_get, slice_index, Option, Some, nat_eq}
use Rattle.std.specs.declared.hash.FoldHasher.{FoldHasher}
use Rattle.std.specs.declared.hash.BuildHasherDefault.{BuildHasherDefault}
use Rattle.std.specs.HashMap.{get, HashMap}
use Rattle.norm_record.specs.Names.{name_of}

-- this place is the last with this name
pub record IsLast (names : List ℕ) (name at : ℕ) : Type 0 where
  pub has : slice_get names at ≡ Some name
  pub last : (later : ℕ) → at < later → later < length names → slice_index names later ≢ name

-- a map from names to places
abbrev pub Places : Type 0
Places = HashMap ℕ ℕ (BuildHasherDefault FoldHasher)

-- each name's last place is found
abbrev pub FindsLastBy : List ℕ → (ℕ → Option ℕ) → Type 0
FindsLastBy names find = (name at : ℕ) → IsLast names name at → find name ≡ Some at

-- it is found in a map
abbrev pub FindsLast : List ℕ → Places → Type 0
FindsLast names places = FindsLastBy names (get nat_eq places)

-- these octets are the offer at this place, and no later one has their name
pub record IsLatest (offers : List (List ℕ)) (octets : List ℕ) (at : ℕ) : Type 0 where
  pub is : slice_get offers at ≡ Some octets
  pub last : IsLast (map name_of offers) (name_of octets) at
