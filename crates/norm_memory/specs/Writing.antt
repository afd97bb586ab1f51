use Rattle.std.specs.Prelude.{◌≡◌, ◌≤◌, ℕ, List, [], ◌∷◌, ◌++◌, slice_range}
use Rattle.norm_base.specs.Told.{front_piece}
use Rattle.norm_memory.specs.Calls.{Calls}

-- a sink in memory: the pieces that were written, and its calls
pub record MemSinkState : Type 0 where
  pub pieces : List (List ℕ)
  pub calls : Calls

-- octets cut at these places, from a first one on
abbrev pub cut_at : List ℕ → ℕ → List ℕ → List (List ℕ)
cut_at octets start [] = []
cut_at octets start (stop ∷ stops) = slice_range octets start stop ∷ cut_at octets stop stops

-- the pieces of these octets: the front that stood there before, if it is not empty, and one to each place
abbrev pub pieces_at : List ℕ → ℕ → List ℕ → List (List ℕ)
pieces_at octets before stops = front_piece before octets ++ cut_at octets before stops

-- places that do not fall, from a first one on to a last one
abbrev pub Climbs : ℕ → List ℕ → ℕ → Type 0
Climbs start [] last = start ≡ last
Climbs start (stop ∷ stops) last = (start ≤ stop) × Climbs stop stops last
