-- Copies of what members offer: one for each other member, the offers in their order, and the members in theirs for each.
use Rattle.std.specs.Prelude.{ℕ, ◌==◌, not, List, [], ◌∷◌, map, filter, flat_map, slice_get, Option}
use Rattle.norm_base.specs.Settings.{Settings}
use Rattle.norm_base.specs.Members.{members_of}
use Rattle.norm_base.specs.declared.kinds.Local.{Local}

-- the members of the last start; before one there are none
abbrev pub members_at : List (Settings × Local) → List ℕ
members_at [] = []
members_at (start ∷ []) = members_of start.0
members_at (start ∷ next ∷ starts) = members_at (next ∷ starts)

-- the copies of an offer, each with the member that it is for
abbrev pub copies_for : List ℕ → ℕ × List ℕ → List (ℕ × List ℕ)
copies_for members offer = map (λ to. (to, offer.1)) (filter (λ m. not (m == offer.0)) members)

-- the copies of all offers
abbrev pub copies_in : List ℕ → List (ℕ × List ℕ) → List (ℕ × List ℕ)
copies_in members offered = flat_map (copies_for members) offered

-- the copy that comes after this many, if there is one
abbrev pub next_copy : List ℕ → List (ℕ × List ℕ) → ℕ → Option (ℕ × List ℕ)
next_copy members offered taken = slice_get (copies_in members offered) taken
