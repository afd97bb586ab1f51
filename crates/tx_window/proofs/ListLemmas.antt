-- Lists by their places, and what is found at one.
use Rattle.std.proofs.Common.{◌≡◌, ℕ, zero, suc, ◌+◌, ◌<◌, ◌≤◌, ◌⊎◌, inl, inr, Bool, true, false, refl, sym, ap, ◌∙◌, arith, Some, List, [], ◌∷◌, length, map, drop, ◌-◌, Option, None}
use Rattle.std.specs.Prelude.{slice_get, nat_lt, nat_le}
use Rattle.std.proofs.lemmas.Bool.{lt-ltb, le-ltb, cases_lt}
use Rattle.tx_window.specs.Asked.{from_first}
use Rattle.tx_object.proofs.HeldLemmas.{taken, refused}
use Rattle.std.proofs.Math.ListN.{set}

pub le-leb : (m n : ℕ) → m ≤ n → nat_le m n ≡ true
le-leb m n le = grind (arith)

pub lt-leb : (m n : ℕ) → n < m → nat_le m n ≡ false
lt-leb m n lt = grind (arith)

pub drop_one : {X : Type 0} (n : ℕ) (xs : List X) (x : X) → slice_get xs n ≡ Some x → drop n xs ≡ x ∷ drop (suc n) xs
drop_one n [] x e = absurd (cc)
drop_one zero (y ∷ ys) x e = ap (λ z. z ∷ ys) (let same : y ≡ x = cc in same)
drop_one (suc n) (y ∷ ys) x e = drop_one n ys x e

pub get_some : {X : Type 0} (n : ℕ) (xs : List X) → n < length xs → (x : X) × (slice_get xs n ≡ Some x)
get_some n [] lt = absurd (omega arith)
get_some zero (y ∷ ys) lt = (y, refl)
get_some (suc n) (y ∷ ys) lt = get_some n ys (omega arith)

pub map_drop : {X Y : Type 0} (f : X → Y) (n : ℕ) (xs : List X) → map f (drop n xs) ≡ drop n (map f xs)
map_drop f zero xs = refl
map_drop f (suc n) [] = refl
map_drop f (suc n) (x ∷ xs) = map_drop f n xs

pub slice_get-drop : {X : Type 0} (d : ℕ) (xs : List X) (n : ℕ) → slice_get (drop d xs) n ≡ slice_get xs (d + n)
slice_get-drop zero xs n = ap (slice_get xs) (let e : n ≡ 0 + n = omega arith in e)
slice_get-drop (suc d) [] n = refl
slice_get-drop (suc d) (x ∷ xs) n = slice_get-drop d xs n ∙ ap (slice_get (x ∷ xs)) (let e : suc (d + n) ≡ suc d + n = omega arith in e)

-- what was found stands at its place
pub found_at : {X : Type 0} (d index : ℕ) (xs : List X) (x : X) → Some x ≡ from_first d xs index → slice_get xs (index - d) ≡ Some x
found_at {X = X} d index xs x e = go (nat_lt index d) e
  where
    go : (b : Bool) → Some x ≡ (elim b as (λ v. Option X) [ true ↦ None | false ↦ slice_get xs (index - d) ]) → slice_get xs (index - d) ≡ Some x
    go true f = absurd (cc)
    go false f = sym f

-- it does not stand before the first
pub found_behind : {X : Type 0} (d index : ℕ) (xs : List X) (x : X) → Some x ≡ from_first d xs index → d ≤ index
found_behind {X = X} d index xs x e = go (cases_lt index d)
  where
    never : Some x ≡ None → ⊥
    never f = cc

    go : (index < d) ⊎ (d ≤ index) → d ≤ index
    go (inl before) = absurd (never (e ∙ taken (nat_lt index d) None (slice_get xs (index - d)) (lt-ltb index d before)))
    go (inr behind) = behind

-- what was not found does not stand behind the first
pub none_at : {X : Type 0} (d index : ℕ) (xs : List X) → d ≤ index → None ≡ from_first d xs index → slice_get xs (index - d) ≡ None
none_at d index xs behind e = sym (e ∙ refused (nat_lt index d) None (slice_get xs (index - d)) (le-ltb index d behind))

pub set_get : {X : Type 0} (xs : List X) (i n : ℕ) (v o : X) → slice_get (set xs i v) n ≡ Some o
    → ((n ≡ i) × (o ≡ v)) ⊎ ((n ≡ i → ⊥) × (slice_get xs n ≡ Some o))
set_get [] i n v o e = absurd (cc)
set_get (x ∷ xs) zero zero v o e = inl (refl, cc)
set_get (x ∷ xs) zero (suc n) v o e = inr (λ same. omega arith, e)
set_get (x ∷ xs) (suc i) zero v o e = inr (λ same. omega arith, e)
set_get (x ∷ xs) (suc i) (suc n) v o e = go (set_get xs i n v o e)
  where
    go : ((n ≡ i) × (o ≡ v)) ⊎ ((n ≡ i → ⊥) × (slice_get xs n ≡ Some o)) → ((suc n ≡ suc i) × (o ≡ v)) ⊎ ((suc n ≡ suc i → ⊥) × (slice_get (x ∷ xs) (suc n) ≡ Some o))
    go (inl h) = inl (ap suc h.0, h.1)
    go (inr h) = inr (λ same. h.0 (omega arith), h.1)
