-- What is at a place of a ring.
use Rattle.std.proofs.Common.{◌≡◌, ℕ, ◌<◌, refl, ap, ◌∙◌, Option, Some, None, List, length, get_or}
use Rattle.std.specs.Prelude.{slice_set}
use Rattle.std.proofs.lemmas.List.{set-get_or}
use Rattle.std.proofs.lemmas.Option.{slice_get_read}
use Rattle.rx_hold.specs.EntryHold.{at_place}

-- an element that was read is what is at its place
pub read_there : (X : Type 0) (ring : List (Option X)) (i : ℕ) (v : Option X) → i < length ring → v ≡ get_or ring i v → at_place ring i ≡ v
read_there X ring i v lt e =
    ap (λ (o : Option (Option X)). elim o as (λ _. Option X) [ Some place ↦ place | None ↦ None ]) (slice_get_read ring (length ring) i v refl lt e)

pub set_same : (X : Type 0) (ring : List (Option X)) (i : ℕ) (v : Option X) → v ≡ get_or ring i v → slice_set ring i v ≡ ring
set_same X ring i v e = ap (slice_set ring i) e ∙ set-get_or ring i v
