-- How many source symbols were not sent.
use Rattle.std.proofs.Common.{◌≡◌, ℕ, zero, suc, ◌+◌, Bool, true, false, Some, refl, ap, arith, List, [], ◌∷◌, length, ◌==◌}
use Rattle.std.specs.Prelude.{filter, not, replicate, slice_get}
use Rattle.std.specs.List.{list_all}
use Rattle.std.proofs.lemmas.Bool.{ne_eqb}
use Rattle.std.proofs.Math.ListN.{set}

pub all_unsent : (n : ℕ) → length (filter not (replicate n false)) ≡ n
all_unsent zero = refl
all_unsent (suc n) = ap suc (all_unsent n)

-- all were sent where none is counted
pub none_left : (bs : List Bool) → (length (filter not bs) == 0) ≡ list_all (λ b. b) bs
none_left [] = refl
none_left (true ∷ bs) = none_left bs
none_left (false ∷ bs) = ne_eqb (suc (length (filter not bs))) 0 (λ e. omega arith)

-- one that was not sent is counted, and as it is sent it is counted no more
pub one_less : (bs : List Bool) (i : ℕ) → slice_get bs i ≡ Some false → length (filter not (set bs i true)) + 1 ≡ length (filter not bs)
one_less [] i e = absurd (cc)
one_less (false ∷ bs) zero e = omega arith
one_less (true ∷ bs) zero e = absurd (cc)
one_less (false ∷ bs) (suc i) e = let rest = one_less bs i e in omega (arith, rest)
one_less (true ∷ bs) (suc i) e = one_less bs i e
