-- What stands at a place of a list.
use Rattle.std.proofs.Common.{◌≡◌, ℕ, zero, suc, ◌<◌, ap, sym, arith, Some, List, [], ◌∷◌, length, get_or}
use Rattle.std.specs.Prelude.{slice_get}

pub get_there : {X : Type 0} (xs : List X) (i : ℕ) (x : X) → i < length xs → x ≡ get_or xs i x → slice_get xs i ≡ Some x
get_there [] i x lt e = absurd (omega arith)
get_there (y ∷ ys) zero x lt e = ap Some (sym e)
get_there (y ∷ ys) (suc i) x lt e = get_there ys i x (omega arith) e
