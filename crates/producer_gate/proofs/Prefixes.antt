-- Beginnings of one list.
use Rattle.std.proofs.Common.{◌≡◌, ℕ, ◌<◌, ◌≤◌, List, [], ◌∷◌, ◌++◌, length, get_or, map, refl, ap, sym, ◌∙◌, append_assoc, length-append, arith}
use Rattle.std.proofs.lemmas.List.{get_or_append_left, map-append}
use mathlib.Core.List.{IsPrefix}

pub prefix_self : {A : Type 0} (xs : List A) → IsPrefix xs xs
prefix_self [] = ([], refl)
prefix_self (x ∷ xs) = let r = prefix_self xs in (r.0, ap (λ ys. x ∷ ys) r.1)

pub prefix_nil : {A : Type 0} (xs : List A) → IsPrefix [] xs
prefix_nil xs = (xs, refl)

pub prefix_trans : {A : Type 0} (xs ys zs : List A) → IsPrefix xs ys → IsPrefix ys zs → IsPrefix xs zs
prefix_trans xs ys zs p q = (p.0 ++ q.0, sym (append_assoc xs p.0 q.0) ∙ ap (λ w. w ++ q.0) p.1 ∙ q.1)

-- what begins a list begins a longer one
pub prefix_more : {A : Type 0} (xs ys zs : List A) → IsPrefix xs ys → IsPrefix xs (ys ++ zs)
prefix_more xs ys zs p = (p.0 ++ zs, sym (append_assoc xs p.0 zs) ∙ ap (λ w. w ++ zs) p.1)

pub prefix_length : {A : Type 0} (xs ys : List A) → IsPrefix xs ys → length xs ≤ length ys
prefix_length xs ys p = omega (arith, sym (ap length p.1) ∙ length-append xs p.0)

-- what stands in a beginning stands in the whole, at the same place
pub prefix_at : {A : Type 0} (xs ys : List A) (d : A) (k : ℕ) → IsPrefix xs ys → k < length xs → get_or ys k d ≡ get_or xs k d
prefix_at xs ys d k p lt = ap (λ w. get_or w k d) (sym p.1) ∙ get_or_append_left xs p.0 d k lt

pub prefix_map : {A B : Type 0} (f : A → B) (xs ys : List A) → IsPrefix xs ys → IsPrefix (map f xs) (map f ys)
prefix_map f xs ys p = (map f p.0, sym (map-append f xs p.0) ∙ ap (map f) p.1)
