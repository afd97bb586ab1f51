use Rattle.std.specs.Prelude.{ℕ, ◌-◌, ◌≤◌, List, [], map, slice_range, slice_index_or}
use Rattle.std.specs.List.{AllByRecursion}
use Rattle.norm_memory.specs.declared.offers.Offer.{Offer}

-- How datagrams stand in one row of octets.

-- a datagram in the row, and who offered it
abbrev pub offer_in : List ℕ → Offer → ℕ × List ℕ
offer_in octets o = (o.from, slice_range octets o.start o.stop)

abbrev pub offered_in : List ℕ → List Offer → List (ℕ × List ℕ)
offered_in octets offers = map (offer_in octets) offers

-- it stands within so many octets, and has at most 1,500
pub record IsWithin (octets : ℕ) (o : Offer) : Type 0 where
  pub up : o.start ≤ o.stop
  pub within : o.stop ≤ octets
  pub most : o.stop - o.start ≤ 1500

abbrev pub AreWithin : ℕ → List Offer → Type 0
AreWithin octets offers = AllByRecursion (IsWithin octets) offers

-- the datagram at a place, and who offered it
abbrev pub offer_at : List (ℕ × List ℕ) → ℕ → ℕ × List ℕ
offer_at offered place = slice_index_or offered place (0, [])
