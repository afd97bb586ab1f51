-- Of how many objects something is wanted.
use Rattle.std.proofs.Common.{◌≡◌, ℕ, zero, suc, cond, ◌+◌, ◌<◌, ◌≤◌, ◌⊎◌, inl, inr, List, [], ◌∷◌, ◌++◌, map, length, take, drop, set, get_or, Bool, true, false, refl, sym, ap, ◌∙◌, arith}
use Rattle.std.specs.Prelude.{nat_lt, not, ◌||◌}
use Rattle.std.specs.Int.{from_bool}
use Rattle.std.specs.List.{list_any}
use Rattle.std.proofs.lemmas.Bool.{lt-ltb}
use Rattle.std.proofs.lemmas.List.{take_all}
use Rattle.std.proofs.lemmas.List.Sums.{sum_by-cons, sum_by_push, sum_by_more, sum_by-take-drop, sum_by-take-le, sum_by-set, get_or-le-sum_by, count_by-le-length}
use Rattle.nack_union.specs.Kept.{Marked, closed_marks}
use Rattle.nack_union.specs.CollectionSound.{IsIdle, AreIdle, wanting}
use Rattle.nack_union.proofs.Counting.{not_wanted}
use Rattle.nack_union.proofs.Quiet.{wanted}
use Rattle.nack_union.proofs.Idle.{stays_idle}

-- 1 for an object of which something is wanted, and 0 for another
abbrev pub one : Marked → ℕ
one m = cond (nat_lt 0 (length m.wants)) 1 0

-- whether something is wanted of an object, as a number
pub one_is : (m : Marked) (b : Bool) (n : ℕ) → n ≡ from_bool b → b ≡ nat_lt 0 (length m.wants) → n ≡ one m
one_is m b n is same = is ∙ go b ∙ ap (λ x. cond x 1 0) same
  where
    go : (x : Bool) → from_bool x ≡ cond x 1 0
    go true = refl
    go false = refl

pub other_is_one : (m : Marked) (b : Bool) (n : ℕ) → n ≡ from_bool (not b) → b ≡ nat_lt 0 (length m.wants) → n + one m ≡ 1
other_is_one m b n is same = ap (λ k. k + one m) is ∙ ap (λ x. from_bool (not b) + cond x 1 0) (sym same) ∙ go b
  where
    go : (x : Bool) → from_bool (not x) + cond x 1 0 ≡ 1
    go true = refl
    go false = refl

cons : (m : Marked) (ms : List Marked) → wanting (m ∷ ms) ≡ one m + wanting ms
cons m ms = sum_by-cons one m ms

same_wants : (m n : Marked) → n.wants ≡ m.wants → one n ≡ one m
same_wants m n same = ap (λ (xs : List ℕ). cond (nat_lt 0 (length xs)) 1 0) same

-- an object that joins at the end, of which nothing is wanted
pub wanting_pushed : (ms : List Marked) (m : Marked) → m.wants ≡ [] → wanting (ms ++ m ∷ []) ≡ wanting ms
wanting_pushed ms m none =
    let more = sum_by_push one ms m in
    let zero : one m ≡ 0 = ap (λ (xs : List ℕ). cond (nat_lt 0 (length xs)) 1 0) none in
    omega (arith, more, zero)

-- objects whose wants stay
pub wanting_kept : (old new : List Marked) → length new ≡ length old
    → ((k : ℕ) (d : Marked) → k < length old → (get_or new k d).wants ≡ (get_or old k d).wants) → wanting new ≡ wanting old
wanting_kept [] [] many same = refl
wanting_kept [] (n ∷ new) many same = absurd (omega (arith, many))
wanting_kept (m ∷ old) [] many same = absurd (omega (arith, many))
wanting_kept (m ∷ old) (n ∷ new) many same =
    let rest = wanting_kept old new (omega (arith, many)) (λ k d lt. same (suc k) d (omega (arith, lt))) in
    let first = same_wants m n (same 0 m (omega arith)) in
    omega (arith, rest, first, cons n new, cons m old)

-- another object at a place
pub wanting_set : (ms : List Marked) (i : ℕ) (new d : Marked) → i < length ms → wanting (set ms i new) + one (get_or ms i d) ≡ wanting ms + one new
wanting_set ms i new d lt = sum_by-set one ms i new d lt

pub wanting_same : (ms : List Marked) (i : ℕ) (new d : Marked) → i < length ms → new.wants ≡ (get_or ms i d).wants → wanting (set ms i new) ≡ wanting ms
wanting_same ms i new d lt same = let all = wanting_set ms i new d lt in let here = same_wants (get_or ms i d) new same in omega (arith, all, here)

-- one of them counts for no more than all do
pub wanting_one : (ms : List Marked) (i : ℕ) (d : Marked) → i < length ms → one (get_or ms i d) ≤ wanting ms
wanting_one ms i d lt = get_or-le-sum_by one ms i d lt

-- those of a front and the others
pub wanting_parts : (ms : List Marked) (n : ℕ) → wanting (take n ms) + wanting (drop n ms) ≡ wanting ms
wanting_parts ms n = sum_by-take-drop one ms n

-- those before the last object, and that one
pub wanting_last : (ms : List Marked) (i : ℕ) (d : Marked) → i + 1 ≡ length ms → wanting ms ≡ wanting (take i ms) + one (get_or ms i d)
wanting_last ms i d last =
    ap wanting (sym (take_all (i + 1) ms (omega (arith, last)))) ∙ sum_by_more one ms i d (omega (arith, last))

-- those of a range are no more than all
pub wanting_range : (ms : List Marked) (low n : ℕ) → wanting (take n (drop low ms)) ≤ wanting ms
wanting_range ms low n = let front = sum_by-take-le one (drop low ms) n in omega (arith, front, wanting_parts ms low)

pub wanting_most : (ms : List Marked) → wanting ms ≤ length ms
wanting_most ms = count_by-le-length wanted ms

-- something is wanted of some object
pub any_wanting : (ms : List Marked) → list_any wanted ms ≡ nat_lt 0 (wanting ms)
any_wanting [] = refl
any_wanting (m ∷ ms) = go (nat_lt 0 (length m.wants)) (any_wanting ms) ∙ ap (nat_lt 0) (sym (cons m ms))
  where
    go : (b : Bool) → list_any wanted ms ≡ nat_lt 0 (wanting ms) → (b || list_any wanted ms) ≡ nat_lt 0 (cond b 1 0 + wanting ms)
    go true rest = sym (lt-ltb 0 (1 + wanting ms) (omega arith))
    go false rest = rest ∙ ap (nat_lt 0) (let e : wanting ms ≡ 0 + wanting ms = omega arith in e)

-- nothing is wanted of any
pub none_wanting : (ms : List Marked) (d : Marked) → wanting ms ≡ 0 → (k : ℕ) → k < length ms → (get_or ms k d).wants ≡ []
none_wanting ms d none k lt = not_wanted _ (no _ (let le = wanting_one ms k d lt in let e : one (get_or ms k d) ≡ 0 = omega (arith, le, none) in e))
  where
    no : (b : Bool) → ◌≡◌ {A = ℕ} (cond b 1 0) 0 → b ≡ false
    no true e = absurd (omega (arith, e))
    no false e = refl

-- the objects of a range are closed, and of the others as much is wanted as before
front_closed : (n : ℕ) (ms : List Marked) → ((k : ℕ) (d : Marked) → k < length ms → n ≤ k → IsIdle (get_or ms k d))
    → wanting (map closed_marks ms) + wanting (take n ms) ≡ wanting ms + wanting (take n (map closed_marks ms))
front_closed zero [] idle = refl
front_closed (suc n) [] idle = refl
front_closed zero (m ∷ ms) idle =
    let rest = front_closed zero ms (λ k d lt out. idle (suc k) d (omega arith) (omega arith)) in
    let first = ap one (stays_idle m (idle 0 m (omega arith) (omega arith))) in
    omega (arith, rest, first, cons m ms, cons (closed_marks m) (map closed_marks ms))
front_closed (suc n) (m ∷ ms) idle =
    let rest = front_closed n ms (λ k d lt out. idle (suc k) d (omega arith) (omega arith)) in
    omega (arith, rest, cons m ms, cons (closed_marks m) (map closed_marks ms), cons m (take n ms), cons (closed_marks m) (take n (map closed_marks ms)))

pub wanting_closed : (low n : ℕ) (ms : List Marked) → AreIdle low (low + n) ms
    → wanting (map closed_marks ms) + wanting (take n (drop low ms)) ≡ wanting ms + wanting (take n (drop low (map closed_marks ms)))
wanting_closed zero n ms idle = front_closed n ms (λ k d lt out. idle k d lt (inr (omega arith)))
wanting_closed (suc low) n [] idle = refl
wanting_closed (suc low) n (m ∷ ms) idle =
    let rest = wanting_closed low n ms (λ k d lt out. idle (suc k) d (omega arith) (on out)) in
    let first = ap one (stays_idle m (idle 0 m (omega arith) (inl (omega arith)))) in
    omega (arith, rest, first, cons m ms, cons (closed_marks m) (map closed_marks ms))
  where
    on : {k : ℕ} → (k < low) ⊎ (low + n ≤ k) → (suc k < suc low) ⊎ (suc low + n ≤ suc k)
    on (inl lt) = inl (omega arith)
    on (inr le) = inr (omega arith)
