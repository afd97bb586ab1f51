-- Lists of which no element passes, or that have none.
use Rattle.std.proofs.Common.{◌≡◌, ℕ, zero, suc, ◌+◌, cond, ◌<◌, List, [], ◌∷◌, length, get_or, Bool, true, false, refl, arith}
use Rattle.std.specs.Prelude.{not, nat_lt, None, Some}
use Rattle.std.proofs.lemmas.Bool.{lt-ltb}
use Rattle.std.specs.List.{position, position_or_len}

-- a set without members
pub not_wanted : (xs : List ℕ) → nat_lt 0 (length xs) ≡ false → xs ≡ []
not_wanted [] e = refl
not_wanted (x ∷ xs) e = let f = lt-ltb 0 (suc (length xs)) (omega arith) in absurd (cc)

-- where some element passes, the first that does is one
passed : {X : Type 0} (p : X → Bool) (xs : List X) (d : X) (k : ℕ) → k < length xs → p (get_or xs k d) ≡ true → position_or_len p xs < length xs
passed p [] d k lt e = absurd (omega arith)
passed p (x ∷ xs) d zero lt e = ap_lt (p x) e
  where
    ap_lt : (b : Bool) → b ≡ true → cond (not b) (1 + position_or_len p xs) 0 < suc (length xs)
    ap_lt true e = omega arith
    ap_lt false e = absurd (cc)
passed p (x ∷ xs) d (suc k) lt e = go (p x) (passed p xs d k (omega arith) e)
  where
    go : (b : Bool) → position_or_len p xs < length xs → cond (not b) (1 + position_or_len p xs) 0 < suc (length xs)
    go true h = omega arith
    go false h = omega arith

-- where none passes, no element does
pub position-None : {X : Type 0} (p : X → Bool) (xs : List X) (d : X) → position p xs ≡ None → (k : ℕ) → k < length xs → p (get_or xs k d) ≡ false
position-None {X} p xs d e k lt = go (p (get_or xs k d)) refl
  where
    never : (b : Bool) → b ≡ true → cond b (Some (position_or_len p xs)) None ≡ None → ⊥
    never true f g = absurd (cc)
    never false f g = absurd (cc)

    go : (b : Bool) → p (get_or xs k d) ≡ b → b ≡ false
    go true f = absurd (never _ (lt-ltb (position_or_len p xs) (length xs) (passed p xs d k lt f)) e)
    go false f = refl
