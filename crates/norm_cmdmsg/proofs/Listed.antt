-- Lists of node ids, and their octets.
use Rattle.std.proofs.Common.{◌≡◌, ℕ, ◌+◌, ◌%◌, ◌<◌, eqb, true, false, Option, Some, List, [], ◌∷◌, ◌++◌, length, drop, refl, sym, ap, ◌∙◌, arith, eq-eqb, ne_eqb}
use Rattle.std.specs.Prelude.{slice_get}
use Rattle.std.specs.List.{list_any}
use Rattle.byteorder.specs.Endian.{big_number, big_bytes}
use Rattle.norm_ext.specs.Lists.{nodes_of}
use Rattle.norm_ext.proofs.NumberLemmas.{nodes_again}
use Rattle.norm_cmdmsg.specs.Laws.{NodesAreRead, PushedIsListed}

pub nodes_are_read_law : NodesAreRead
nodes_are_read_law nodes fit = nodes_again nodes fit

pub pushed_is_listed_law : PushedIsListed
pushed_is_listed_law [] node whole fits = nodes_again (node ∷ []) (fits, tt)
pushed_is_listed_law (a ∷ []) node whole fits = absurd (omega arith)
pushed_is_listed_law (a ∷ b ∷ []) node whole fits = absurd (omega arith)
pushed_is_listed_law (a ∷ b ∷ c ∷ []) node whole fits = absurd (omega arith)
pushed_is_listed_law (a ∷ b ∷ c ∷ d ∷ rest) node whole fits =
    ap (λ (ns : List ℕ). big_number 4 (a ∷ b ∷ c ∷ d ∷ []) ∷ ns) (pushed_is_listed_law rest node (omega arith) fits)

some_same : (a b : ℕ) → (let s : Option ℕ = Some a in s) ≡ Some b → a ≡ b
some_same a b e = cc

-- a walk over numbers that looks for one: the first is it, or it is among the rest

pub found_first : (n x : ℕ) (xs : List ℕ) → Some x ≡ slice_get xs 0 → x ≡ n → list_any (λ y. eqb y n) xs ≡ true
found_first n x [] is same = absurd cc
found_first n x (y ∷ xs) is same = let at : eqb y n ≡ true = eq-eqb y n (some_same y x (sym is) ∙ same) in rw at refl

pub found_later : (n x : ℕ) (xs ys : List ℕ) → Some x ≡ slice_get xs 0 → ys ≡ drop 1 xs → (x ≡ n → ⊥) → list_any (λ y. eqb y n) ys ≡ list_any (λ y. eqb y n) xs
found_later n x [] ys is rest differ = absurd cc
found_later n x (y ∷ xs) ys is rest differ =
    let at : eqb y n ≡ false = ne_eqb y n (λ e. differ (sym (some_same y x (sym is)) ∙ e)) in rw (at, rest) refl
