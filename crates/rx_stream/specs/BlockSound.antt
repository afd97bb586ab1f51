-- What a block keeps, and what it is seen as.
use Rattle.std.specs.Prelude.{ℕ, ◌≡◌, ◌<◌, ◌≤◌, ◌+◌, ◌-◌, ◌==◌, List, [], ◌∷◌, map, take, length, min, nat_lt, true, false}
use Rattle.std.specs.List.{AllByRecursion, list_any}
use Rattle.norm_base.specs.Sizes.{symbol_room}
use Rattle.gf_field.specs.Element.{AreElements}
use Rattle.gf_field.specs.Symbol.{encoded_symbol, solved_sources}
use Rattle.norm_ext.specs.Numbers.{number}
use Rattle.norm_order.specs.Sets.{Rises, is_member}
use Rattle.norm_order.specs.Symbols.{padded}
use Rattle.rx_stream.specs.BlockState.{Came, BlockState}

-- how many octets are sent of a source symbol that is coded so: its place, and as many as it says, at most those of a segment
abbrev pub sent_of : ℕ → List ℕ → ℕ
sent_of size row = 8 + min (number 2 0 row) (size - 8)

-- the octets that are sent of a symbol that is coded so
abbrev pub part_of : ℕ → ℕ → ℕ → List ℕ → List ℕ
part_of k size id row = elim (nat_lt id k) [ true ↦ take (sent_of size row) row | false ↦ row ]

abbrev pub came_as : ℕ → ℕ → ℕ → List ℕ → Came
came_as k size id row = record { id = id; octets = part_of k size id row }

-- the symbols that came, as they are coded: the rows, or where nothing is lacking those that are encoded of the rows
abbrev pub coded : ℕ → ℕ → List ℕ → List (List ℕ) → List (List ℕ)
coded k size ids rows = elim (k - length ids == 0) [ true ↦ map (encoded_symbol size rows) ids | false ↦ rows ]

-- symbols with their ids
unfoldable pub listed : ℕ → ℕ → List ℕ → List (List ℕ) → List Came
listed k size [] rows = []
listed k size (id ∷ ids) [] = []
listed k size (id ∷ ids) (row ∷ rows) = came_as k size id row ∷ listed k size ids rows

-- each symbol is what is sent of it, and zeros behind
abbrev pub AreWhole : ℕ → ℕ → List ℕ → List (List ℕ) → Type 0
AreWhole k size [] rows = Unit {0}
AreWhole k size (id ∷ ids) [] = Unit {0}
AreWhole k size (id ∷ ids) (row ∷ rows) = (padded size (part_of k size id row) ≡ row) × AreWhole k size ids rows

-- A row for each id, in order; no more than there are source symbols.
pub record BlockSound (k size : ℕ) (ids : List ℕ) (rows : List (List ℕ)) : Type 0 where
  pub some : 1 ≤ k
  pub most : k ≤ 255
  pub least : 8 ≤ size
  pub room : size ≤ symbol_room
  pub count : length rows ≡ length ids
  pub few : length ids ≤ k
  pub rising : Rises ids
  pub below : AllByRecursion (λ id. id < 255) ids
  pub sizes : AllByRecursion (λ (row : List ℕ). length row ≡ size) rows
  pub octets : AllByRecursion AreElements rows
  pub whole : AreWhole k size ids (coded k size ids rows)

-- the set has these ids and no others
abbrev pub IsMaskOf : List ℕ → List ℕ → Type 0
IsMaskOf members ids = (id : ℕ) → is_member nat_lt id members ≡ list_any (λ (x : ℕ). x == id) ids

-- what a block keeps is sound, and its mask is that of its ids
pub record BlockKept (k size : ℕ) (ids members : List ℕ) (rows : List (List ℕ)) : Type 0 where
  pub sound : BlockSound k size ids rows
  pub mask : IsMaskOf members ids

abbrev pub block_of : ℕ → ℕ → List ℕ → List (List ℕ) → BlockState
block_of k size ids rows = record { k = k; size = size; came = listed k size ids (coded k size ids rows) }

-- the rows, solved where nothing is lacking
abbrev pub settled : ℕ → ℕ → List ℕ → List (List ℕ) → List (List ℕ)
settled k size ids rows = elim (k - length ids == 0) [ true ↦ solved_sources size ids rows | false ↦ rows ]
