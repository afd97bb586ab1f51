-- Requests, one by one.
use Rattle.std.proofs.Common.{refl, ◌≡◌, List, [], ◌∷◌, drop, ap, sym, ◌∙◌}
use Rattle.std.specs.Prelude.{None, Some, slice_get}
use Rattle.norm_ext.specs.Requests.{Request}

-- the first of some requests, and those behind it
pub request_front : (rs : List Request) (r : Request) (rest : List Request) → Some r ≡ slice_get rs 0 → rest ≡ drop 1 rs → rs ≡ r ∷ rest
request_front [] r rest is behind = absurd (cc)
request_front (x ∷ rs) r rest is behind = let same : r ≡ x = cc in ap (λ y. y ∷ rs) (sym same) ∙ ap (λ ys. r ∷ ys) (sym behind)

pub no_request : (rs : List Request) → None ≡ slice_get rs 0 → rs ≡ []
no_request [] is = refl
no_request (x ∷ rs) is = absurd (cc)
