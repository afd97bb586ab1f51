-- What holds of each view in a list of views, where one is changed or one more joins.
use Rattle.std.proofs.Common.{◌≡◌, ◌≢◌, ◌⊎◌, ℕ, zero, suc, List, [], ◌∷◌, ◌++◌, length, set, sym, refl, ap, subst, inl, inr, ⊎_elim}
use mathlib.Core.Option.{some, some-injective, some-ne-none}
use lib.ListN.{get_elem?}
use Rattle.atomic_table.proofs.Lists.{at_set}

-- each view, with its number, is so
abbrev pub AllFit : {V : Type 0} → (ℕ → V → Type 0) → List V → Type 0
AllFit {V} F views = (seat : ℕ) (v : V) → get_elem? views seat ≡ some v → F seat v

pub moved : {V : Type 0} (F : ℕ → V → Type 0) (i j : ℕ) (w u : V) → j ≡ i → w ≡ u → F i w → F j u
moved {V} F i j w u e is h = subst (λ (y : ℕ × V). F y.0 y.1) (λ k. (sym e k, is k)) h

pub only_view : {V : Type 0} (F : ℕ → V → Type 0) (w : V) → F 0 w → AllFit F (w ∷ [])
only_view F w h zero v e = moved F 0 0 w v refl (some-injective w v e) h
only_view F w h (suc j) v e = absurd (some-ne-none v (sym e))

pub all_set : {V : Type 0} (F : ℕ → V → Type 0) (views : List V) (seat : ℕ) (w : V) → F seat w → ((j : ℕ) (u : V) → j ≢ seat → get_elem? views j ≡ some u → F j u) → AllFit F (set views seat w)
all_set F views seat w mine others j u e =
    ⊎_elim (λ (t : (j ≡ seat) × (w ≡ u)). moved F seat j w u t.0 t.1 mine)
    (λ (t : (j ≢ seat) × (get_elem? views j ≡ some u)). others j u t.0 t.1) (at_set views seat j w u e)

pub snoc_cases : {V : Type 0} (l : List V) (a b : V) (j : ℕ) → get_elem? (l ++ a ∷ []) j ≡ some b → (get_elem? l j ≡ some b) ⊎ ((j ≡ length l) × (a ≡ b))
snoc_cases [] a b zero e = inr (refl, some-injective a b e)
snoc_cases [] a b (suc j) e = absurd (some-ne-none b (sym e))
snoc_cases (x ∷ xs) a b zero e = inl e
snoc_cases (x ∷ xs) a b (suc j) e = ⊎_elim (λ t. inl t) (λ t. inr (ap suc t.0, t.1)) (snoc_cases xs a b j e)

pub all_snoc : {V : Type 0} (F : ℕ → V → Type 0) (views : List V) (w : V) → AllFit F views → F (length views) w → AllFit F (views ++ w ∷ [])
all_snoc F views w old new j u e =
    ⊎_elim (λ (t : get_elem? views j ≡ some u). old j u t) (λ (t : (j ≡ length views) × (w ≡ u)). moved F (length views) j w u t.0 t.1 new) (snoc_cases views w u j e)

-- the view of another seat stood there before one was changed
pub stood : {V : Type 0} (views : List V) (seat other : ℕ) (w u : V) → (other ≡ seat → ⊥) → get_elem? (set views seat w) other ≡ some u → get_elem? views other ≡ some u
stood views seat other w u apart there =
    ⊎_elim (λ (t : (other ≡ seat) × (w ≡ u)). absurd (apart t.0)) (λ (t : (other ≢ seat) × (get_elem? views other ≡ some u)). t.1) (at_set views seat other w u there)
