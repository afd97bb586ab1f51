-- What lies in the places of a block: symbols in a row, and beside them their ids (RFC 5510 section 8).
use Rattle.std.specs.Prelude.{ℕ, zero, suc, ◌≡◌, ◌==◌, ◌<◌, nat_lt, List, [], ◌∷◌, take, drop, Bool, true, false, Option, Some, None, length}
use Rattle.std.specs.List.{AllPairs, count_by, list_any}
use Rattle.gf_field.specs.Symbol.{given, encoded_symbol}
use Rattle.norm_order.specs.Sets.{is_member}

-- the symbols in a row of so many places
unfoldable pub pieces : ℕ → ℕ → List ℕ → List (List ℕ)
pieces size zero row = []
pieces size (suc k) row = take size row ∷ pieces size k (drop size row)

-- how many places are free: 255 is the id of none
abbrev pub free_places : List ℕ → ℕ
free_places ids = count_by (λ id. id == 255) ids

-- no two places have one id, but for those that are free
abbrev pub AreApart : List ℕ → Type 0
AreApart ids = AllPairs (λ x y. x ≡ y → x ≡ 255) ids

-- the symbol with an id lies there
abbrev pub has_id : ℕ → List ℕ → Bool
has_id id ids = list_any (λ (i : ℕ). i == id) ids

-- a set has the ids that lie there
abbrev pub IsMaskOf : List ℕ → List ℕ → Type 0
IsMaskOf members ids = (id : ℕ) → id < 255 → is_member nat_lt id members ≡ has_id id ids

-- the encoded symbol of these sources, where its id is one of these
abbrev pub encoded_among : ℕ → List ℕ → List (List ℕ) → ℕ → Option (List ℕ)
encoded_among size ids sources id = elim (has_id id ids) [ true ↦ Some (encoded_symbol size sources id) | false ↦ None ]

-- The symbol that a block holds under an id, as it is coded: the one that lies there; of a block with no free place, whose
-- places have its source symbols, the one that is encoded of these.
abbrev pub symbol_in : ℕ → List ℕ → List ℕ → ℕ → Option (List ℕ)
symbol_in size ids row id = elim (free_places ids == 0) [
  | true ↦ encoded_among size ids (pieces size (length ids) row) id
  | false ↦ given ids (pieces size (length ids) row) id
]

-- with one symbol more
abbrev pub with_one : ℕ → List ℕ → (ℕ → Option (List ℕ)) → ℕ → Option (List ℕ)
with_one symbol octets before id = elim (id == symbol) [ true ↦ Some octets | false ↦ before id ]
