-- The wants that are listed of rising sets rise.
use Rattle.std.proofs.Common.{◌≡◌, ℕ, suc, ◌+◌, ◌<◌, ◌⊎◌, inl, inr, subst, List, [], ◌∷◌, ◌++◌, map, length, get_or, true, sym, ◌∙◌, arith}
use Rattle.std.specs.List.{AllByRecursion}
use Rattle.std.proofs.lemmas.Bool.{lt-ltb, cases_eq}
use Rattle.std.proofs.lemmas.List.{get_or_read}
use Rattle.norm_order.specs.Sets.{Rises}
use Rattle.norm_send_rules.specs.Laws.{Rise}
use Rattle.norm_send_rules.specs.Wants.{want_before}
use Rattle.norm_send_rules.specs.declared.want.Want.{Want}
use Rattle.nack_union.specs.Slots.{want_at}
use Rattle.nack_union.specs.Kept.{Marked, listed}
use Rattle.nack_union.proofs.Orders.{same_order, earlier}

both_all : (w : Want) (xs ys : List Want) → AllByRecursion (λ other. want_before w other ≡ true) xs → AllByRecursion (λ other. want_before w other ≡ true) ys
    → AllByRecursion (λ other. want_before w other ≡ true) (xs ++ ys)
both_all w [] ys a b = b
both_all w (x ∷ xs) ys a b = (a.0, both_all w xs ys a.1 b)

here_all : (index x : ℕ) (xs : List ℕ) → AllByRecursion (λ y. x < y) xs → AllByRecursion (λ other. want_before (want_at index x) other ≡ true) (map (want_at index) xs)
here_all index x [] all = tt
here_all index x (y ∷ xs) all = (same_order index x y ∙ lt-ltb x y all.0, here_all index x xs all.1)

slots_all : (i j x : ℕ) (xs : List ℕ) → i < j → AllByRecursion (λ other. want_before (want_at i x) other ≡ true) (map (want_at j) xs)
slots_all i j x [] lt = tt
slots_all i j x (y ∷ xs) lt = (earlier i j x y lt, slots_all i j x xs lt)

later_all : (i j x : ℕ) (ms : List Marked) → i < j → AllByRecursion (λ other. want_before (want_at i x) other ≡ true) (listed (λ m. m.asked) j ms)
later_all i j x [] lt = tt
later_all i j x (m ∷ ms) lt = both_all (want_at i x) (map (want_at j) m.asked) (listed (λ m. m.asked) (suc j) ms) (slots_all i j x m.asked lt) (later_all i (suc j) x ms (omega arith))

slots_rise : (index : ℕ) (xs : List ℕ) (ms : List Marked) → Rises xs → Rise (listed (λ m. m.asked) (suc index) ms) → Rise (map (want_at index) xs ++ listed (λ m. m.asked) (suc index) ms)
slots_rise index [] ms rises rest = rest
slots_rise index (x ∷ xs) ms rises rest = (
  both_all (want_at index x) (map (want_at index) xs) (listed (λ m. m.asked) (suc index) ms) (here_all index x xs rises.0) (later_all index (suc index) x ms (omega arith)),
  slots_rise index xs ms rises.1 rest,
)

-- what is listed of rising sets rises
pub listed_rise : (index : ℕ) (ms : List Marked) → AllByRecursion (λ m. Rises m.asked) ms → Rise (listed (λ m. m.asked) index ms)
listed_rise index [] all = tt
listed_rise index (m ∷ ms) all = slots_rise index m.asked ms all.0 (listed_rise (suc index) ms all.1)

-- what holds at each place holds of all
pub all_of : (P : Marked → Type 0) (ms : List Marked) → ((k : ℕ) (d : Marked) → k < length ms → P (get_or ms k d)) → AllByRecursion P ms
all_of P [] each = tt
all_of P (m ∷ ms) each = (each 0 m (omega arith), all_of P ms (λ k d lt. each (suc k) d (omega arith)))

-- and one place further
pub one_further : (P : Marked → Type 0) (ms : List Marked) (i : ℕ) (here : Marked) → i < length ms → here ≡ get_or ms i here → P here
    → ((k : ℕ) (d : Marked) → k < i → P (get_or ms k d)) → (k : ℕ) (d : Marked) → k < i + 1 → P (get_or ms k d)
one_further P ms i here lt is holds before k d below = go (cases_eq k i)
  where
    go : (k ≡ i) ⊎ (k ≡ i → ⊥) → P (get_or ms k d)
    go (inl e) = subst (λ j. P (get_or ms j d)) (sym e) (subst P (get_or_read ms i here lt is d) holds)
    go (inr ne) = before k d (omega (arith, below, ne))
