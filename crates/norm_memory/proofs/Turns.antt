use Rattle.std.proofs.Common.{◌≡◌, ◌∙◌, sym, ap, subst, refl, ℕ, ◌+◌, ◌<◌, ◌↔◌, length, get_or, Option, Some, None, IsSome, IfSome, IfNone, option_map, drop, Bor, Bool, true, false, List, [], ◌∷◌, ◌++◌, arith, cond}
use Rattle.std.specs.List.{sum_by, AllByRecursion}
use Rattle.std.specs.List.Sorted.{IsPermutation}
use Rattle.std.specs.Cmp.{IsTotalOrder}
use Rattle.std.specs.BinaryHeap.{IsHeap, IsUpperBound}
use Rattle.std.specs.Ordering.{is_lt, is_gt, nat_cmp, flip_args, ordering_reverse, ordering_then}
use Rattle.std.specs.declared.cmp.Ordering.{Ordering}
use Rattle.std.specs.declared.cmp.Ordering.TheVariants.{Less, Equal, Greater}
use Rattle.std.proofs.lemmas.Cmp.{upto, nat_cmp_total, on_total, then_total, tied_itself, ranked, by_ranked}
use Rattle.std.proofs.lemmas.List.Sums.{sum_by-cons, sum_by-append}
use Rattle.std.proofs.lemmas.List.Sorted.{sum_by-IsPermutation}
use Rattle.norm_memory.specs.declared.copy.WaitingCopy.{WaitingCopy}
use Rattle.norm_memory.specs.Waiting.{by_turn, put_copy, put_copies, in_turn, first_of}

pub by_turn_total : IsTotalOrder by_turn
by_turn_total = then_total (on_total (λ c. c.ready) nat_cmp_total) (then_total (on_total (λ c. c.offer) nat_cmp_total) (on_total (λ c. c.to) nat_cmp_total))

-- whether a copy goes before another
abbrev pub before : WaitingCopy → WaitingCopy → Bool
before a b = is_lt (by_turn a b)

reversed : (o p : Ordering) → o ≡ ordering_reverse p → is_gt o ≡ is_lt p
reversed o Less e = rw e refl
reversed o Equal e = rw e refl
reversed o Greater e = rw e refl

before_gt : (a b : WaitingCopy) → is_gt (by_turn a b) ≡ before b a
before_gt a b = reversed (by_turn a b) (by_turn b a) (by_turn_total.antisymm a b)

-- one after another after a third
pub not_before-trans : (x y z : WaitingCopy) → before y x ≡ false → before z y ≡ false → before z x ≡ false
not_before-trans x y z a b =
    sym (before_gt x z) ∙ upto by_turn_total x y z (before_gt x y ∙ a) (before_gt y z ∙ b)

pub not_before-itself : (x : WaitingCopy) → before x x ≡ false
not_before-itself x = ap is_lt (tied_itself by_turn_total x)

same_numbers : (a b : ℕ) → nat_cmp a b ≡ Equal → a ≡ b
same_numbers a b e = by_ranked _ _ _ (nat_cmp a b) (ranked a b (nat_cmp a b) refl) (λ l _. absurd (less_equal (sym l ∙ e))) (λ _ s. s) (λ g _. absurd (greater_equal (sym g ∙ e))) where
  less_equal : Less ≡ Equal → ⊥
  less_equal h = cc

  greater_equal : Greater ≡ Equal → ⊥
  greater_equal h = cc

first_equal : (o p : Ordering) → ordering_then o p ≡ Equal → o ≡ Equal
first_equal Less p e = e
first_equal Equal p e = refl
first_equal Greater p e = e

rest_equal : (o p : Ordering) → ordering_then o p ≡ Equal → p ≡ Equal
rest_equal Less p e = absurd (cc)
rest_equal Equal p e = e
rest_equal Greater p e = absurd (cc)

abbrev made : ℕ → ℕ → ℕ → WaitingCopy
made ready offer to = record { ready = ready; offer = offer; to = to }

-- two copies of which neither goes before the other are one
pub same_turn : (x y : WaitingCopy) → by_turn x y ≡ Equal → x ≡ y
same_turn x y e =
    let r : x.ready ≡ y.ready = same_numbers x.ready y.ready (first_equal (nat_cmp x.ready y.ready) _ e) in
    let rest : ordering_then (nat_cmp x.offer y.offer) (nat_cmp x.to y.to) ≡ Equal = rest_equal (nat_cmp x.ready y.ready) _ e in
    let o : x.offer ≡ y.offer = same_numbers x.offer y.offer (first_equal (nat_cmp x.offer y.offer) _ rest) in
    let t : x.to ≡ y.to = same_numbers x.to y.to (rest_equal (nat_cmp x.offer y.offer) _ rest) in
    let first : x ≡ made y.ready x.offer x.to = ap (λ n. made n x.offer x.to) r in
    let second : made y.ready x.offer x.to ≡ made y.ready y.offer x.to = ap (λ n. made y.ready n x.to) o in
    let third : made y.ready y.offer x.to ≡ y = ap (λ n. made y.ready y.offer n) t in
    first ∙ second ∙ third

neither : (o p : Ordering) → o ≡ ordering_reverse p → is_lt o ≡ false → is_lt p ≡ false → o ≡ Equal
neither o Less e a b = absurd (cc)
neither o Equal e a b = e
neither o Greater e a b = let l : is_lt o ≡ true = ap is_lt e in absurd (cc)

pub same_from_neither : (x y : WaitingCopy) → before x y ≡ false → before y x ≡ false → x ≡ y
same_from_neither x y a b = same_turn x y (neither (by_turn x y) (by_turn y x) (by_turn_total.antisymm x y) a b)

-- no later copy goes before an earlier one
abbrev pub InTurn : List WaitingCopy → Type 0
InTurn [] = Unit {0}
InTurn (x ∷ xs) = AllByRecursion (λ y. before y x ≡ false) xs × InTurn xs

put_copy-all : (P : WaitingCopy → Type 0) (c : WaitingCopy) (xs : List WaitingCopy) → P c → AllByRecursion P xs → AllByRecursion P (put_copy c xs)
put_copy-all P c [] h all = (h, tt)
put_copy-all P c (d ∷ ds) h all = elim (before d c) as (λ b. AllByRecursion P (cond b (d ∷ put_copy c ds) (c ∷ d ∷ ds))) [
  | true ↦ (all.0, put_copy-all P c ds h all.1)
  | false ↦ (h, all)
]

-- what holds of copies and of others holds of all together
pub put_copies-all : (P : WaitingCopy → Type 0) (cs xs : List WaitingCopy) → AllByRecursion P cs → AllByRecursion P xs → AllByRecursion P (put_copies cs xs)
put_copies-all P [] xs all rest = rest
put_copies-all P (c ∷ cs) xs all rest = put_copy-all P c (put_copies cs xs) all.0 (put_copies-all P cs xs all.1 rest)

after_all : (x y : WaitingCopy) (xs : List WaitingCopy) → before y x ≡ false → AllByRecursion (λ z. before z y ≡ false) xs → AllByRecursion (λ z. before z x ≡ false) xs
after_all x y [] h all = tt
after_all x y (z ∷ zs) h all = (not_before-trans x y z h all.0, after_all x y zs h all.1)

before_other : (o p : Ordering) → o ≡ ordering_reverse p → is_lt p ≡ true → is_lt o ≡ false
before_other o Less e h = ap is_lt e
before_other o Equal e h = absurd (cc)
before_other o Greater e h = absurd (cc)

-- what goes before another does not come behind it
pub not_behind : (x y : WaitingCopy) → before x y ≡ true → before y x ≡ false
not_behind x y h = before_other (by_turn y x) (by_turn x y) (by_turn_total.antisymm y x) h

pub put_copy-in_turn : (c : WaitingCopy) (xs : List WaitingCopy) → InTurn xs → InTurn (put_copy c xs)
put_copy-in_turn c [] h = (tt, tt)
put_copy-in_turn c (d ∷ ds) h = elim (before d c) as (λ b. before d c ≡ b → InTurn (cond b (d ∷ put_copy c ds) (c ∷ d ∷ ds))) [
  | true ↦ λ e. (put_copy-all (λ y. before y d ≡ false) c ds (before_other (by_turn c d) (by_turn d c) (by_turn_total.antisymm c d) e) h.0, put_copy-in_turn c ds h.1)
  | false ↦ λ e. ((e, after_all c d ds e h.0), h)
] refl

pub put_copies-in_turn : (cs xs : List WaitingCopy) → InTurn xs → InTurn (put_copies cs xs)
put_copies-in_turn [] xs h = h
put_copies-in_turn (c ∷ cs) xs h = put_copy-in_turn c (put_copies cs xs) (put_copies-in_turn cs xs h)

-- whatever is counted over two lists comes to the same
pub record SameSums (xs ys : List WaitingCopy) : Type 0 where
  pub at : (f : WaitingCopy → ℕ) → sum_by f xs ≡ sum_by f ys

put_copy-sum : (f : WaitingCopy → ℕ) (c : WaitingCopy) (xs : List WaitingCopy) → sum_by f (put_copy c xs) ≡ f c + sum_by f xs
put_copy-sum f c [] = sum_by-cons f c []
put_copy-sum f c (d ∷ ds) = elim (before d c) as (λ b. sum_by f (cond b (d ∷ put_copy c ds) (c ∷ d ∷ ds)) ≡ f c + sum_by f (d ∷ ds)) [
  | true ↦ omega (arith, sum_by-cons f d (put_copy c ds), put_copy-sum f c ds, sum_by-cons f d ds)
  | false ↦ sum_by-cons f c (d ∷ ds)
]

pub put_copies-sum : (f : WaitingCopy → ℕ) (cs xs : List WaitingCopy) → sum_by f (put_copies cs xs) ≡ sum_by f cs + sum_by f xs
put_copies-sum f [] xs = omega arith
put_copies-sum f (c ∷ cs) xs = omega (arith, put_copy-sum f c (put_copies cs xs), put_copies-sum f cs xs, sum_by-cons f c cs)

abbrev earlier : WaitingCopy → WaitingCopy → ℕ
earlier x y = cond (before y x) 1 0

none_earlier : (x : WaitingCopy) (xs : List WaitingCopy) → AllByRecursion (λ y. before y x ≡ false) xs → sum_by (earlier x) xs ≡ 0
none_earlier x [] all = refl
none_earlier x (y ∷ ys) all =
    let here : earlier x y ≡ 0 = ap (λ b. cond b 1 0) all.0 in
    omega (arith, sum_by-cons (earlier x) y ys, none_earlier x ys all.1)

not_some : false ≡ true → ⊥
not_some h = cc

bit_zero : (b : Bool) (n : ℕ) → n ≡ cond b 1 0 → n ≡ 0 → b ≡ false
bit_zero true n e h = absurd (omega arith)
bit_zero false n e h = refl

not_earlier : (x y : WaitingCopy) → earlier x y ≡ 0 → before y x ≡ false
not_earlier x y e = bit_zero (before y x) (earlier x y) refl e

heads_not_before : (x y : WaitingCopy) (xs ys : List WaitingCopy) → AllByRecursion (λ z. before z x ≡ false) xs → SameSums (x ∷ xs) (y ∷ ys) → before y x ≡ false
heads_not_before x y xs ys all same =
    not_earlier x y (omega (arith, none_earlier x (x ∷ xs) (not_before-itself x, all), same.at (earlier x), sum_by-cons (earlier x) y ys))

-- there is one list of these copies in which they stand in turn
pub one_in_turn : (xs ys : List WaitingCopy) → InTurn xs → InTurn ys → SameSums xs ys → xs ≡ ys
one_in_turn [] [] h k same = refl
one_in_turn [] (y ∷ ys) h k same = absurd (omega (arith, same.at (λ _. 1), sum_by-cons (λ _. 1) y ys))
one_in_turn (x ∷ xs) [] h k same = absurd (omega (arith, same.at (λ _. 1), sum_by-cons (λ _. 1) x xs))
one_in_turn (x ∷ xs) (y ∷ ys) h k same =
    let back : SameSums (y ∷ ys) (x ∷ xs) = record { at = λ f. sym (same.at f) } in
    let head : x ≡ y = same_from_neither x y (heads_not_before y x ys xs k.0 back) (heads_not_before x y xs ys h.0 same) in
    let rest : SameSums xs ys = record { at = λ f. omega (arith, same.at f, sum_by-cons f x xs, sum_by-cons f y ys, ap f head) } in
    let tail : xs ≡ ys = one_in_turn xs ys h.1 k.1 rest in
    cc

-- what a heap holds more, once these copies joined it
pub in_turn-joined : (old new copies : List WaitingCopy) (fresh : List WaitingCopy) → IsPermutation copies fresh → IsPermutation (old ++ fresh) new → in_turn new ≡ put_copies copies (in_turn old)
in_turn-joined old new copies fresh p q =
    one_in_turn (in_turn new) (put_copies copies (in_turn old)) (put_copies-in_turn new [] tt) (put_copies-in_turn copies (in_turn old) (put_copies-in_turn old [] tt)) (record {
      at = λ f. omega (
        arith,
        put_copies-sum f new [],
        put_copies-sum f copies (in_turn old),
        put_copies-sum f old [],
        sum_by-IsPermutation f copies fresh p,
        sum_by-IsPermutation f (old ++ fresh) new q,
        sum_by-append f old fresh,
      );
    })

-- what a heap holds, once its greatest left it
pub in_turn-left : (old new : List WaitingCopy) (x : WaitingCopy) → AllByRecursion (λ y. before y x ≡ false) new → IsPermutation old (x ∷ new) → in_turn old ≡ x ∷ in_turn new
in_turn-left old new x least p =
    one_in_turn (in_turn old) (x ∷ in_turn new) (put_copies-in_turn old [] tt) (put_copies-all (λ y. before y x ≡ false) new [] least tt, put_copies-in_turn new [] tt) (record {
      at = λ f. omega (
        arith,
        put_copies-sum f old [],
        put_copies-sum f new [],
        sum_by-IsPermutation f old (x ∷ new) p,
        sum_by-cons f x new,
        sum_by-cons f x (in_turn new),
      );
    })

pub put_first : (x : WaitingCopy) (xs : List WaitingCopy) → AllByRecursion (λ y. before y x ≡ false) xs → put_copy x xs ≡ x ∷ xs
put_first x [] all = refl
put_first x (y ∷ ys) all = rw all.0 refl

-- the greatest of a heap stands first in it
pub in_turn-first : (xs : List WaitingCopy) (x : WaitingCopy) → AllByRecursion (λ y. before y x ≡ false) xs → in_turn (x ∷ xs) ≡ x ∷ in_turn xs
in_turn-first xs x all = put_first x (in_turn xs) (put_copies-all (λ y. before y x ≡ false) xs [] all tt)

-- what stands at the top of a heap is the copy that is taken next
pub first-peeked : (xs : List WaitingCopy) (top : Option (Bor WaitingCopy)) → (IsSome top ↔ (0 < length xs)) → IfSome top (λ x. x.now ≡ get_or xs 0 x.now) → IsHeap (flip_args by_turn) xs → IfSome top (λ x. IsHeap (flip_args by_turn) xs → IsUpperBound (flip_args by_turn) x.now xs)
    → option_map (λ x. x.now) top ≡ first_of (in_turn xs)
first-peeked [] None there is heap all = refl
first-peeked [] (Some b) there is heap all = let none : 0 < 0 = there.0 refl in absurd (omega arith)
first-peeked (x ∷ xs) None there is heap all = absurd (not_some (there.1 (omega arith)))
first-peeked (x ∷ xs) (Some b) there is heap all =
    let same : b.now ≡ x = is in
    let least : AllByRecursion (λ y. before y x ≡ false) (x ∷ xs) = subst (λ t. AllByRecursion (λ y. before y t ≡ false) (x ∷ xs)) same (all heap) in
    rw (in_turn-first xs x least.1) (ap (λ t. Some t) same)

-- what leaves a heap is that copy, and the others stay in their order
pub record Left (old new : List WaitingCopy) (top : Option WaitingCopy) : Type 0 where
  pub copy : top ≡ first_of (in_turn old)
  pub rest : in_turn new ≡ drop 1 (in_turn old)

pub left-popped : (old new : List WaitingCopy) (before_len now_len : ℕ) (top : Option WaitingCopy) → IfNone top (length old ≡ 0) → IfNone top ((new ≡ old) × (now_len ≡ before_len)) → IfSome top (λ x. IsPermutation old (x ∷ new)) → IsHeap (flip_args by_turn) old → IfSome top (λ x. IsHeap (flip_args by_turn) old → IsUpperBound (flip_args by_turn) x new)
    → Left old new top
left-popped [] new m n None none same p heap all = rw same.0 (record { copy = refl; rest = refl })
left-popped (x ∷ xs) new m n None none same p heap all = absurd (omega (arith, none))
left-popped old new m n (Some x) none same p heap all =
    let turns : in_turn old ≡ x ∷ in_turn new = in_turn-left old new x (all heap) p in
    record { copy = sym (ap first_of turns); rest = sym (ap (drop 1) turns) }
