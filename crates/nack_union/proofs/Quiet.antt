-- Objects of which nothing is wanted.
use Rattle.std.proofs.Common.{◌≡◌, ℕ, zero, suc, cond, ◌+◌, ◌^◌, ◌<◌, ◌≤◌, ◌⊎◌, inl, inr, List, [], ◌∷◌, ◌++◌, length, set, get_or, Bool, true, false, refl, sym, ap, ◌∙◌, arith, subst}
use Rattle.std.specs.Prelude.{nat_lt, position, Some, None, map, min, replicate}
use Rattle.std.proofs.lemmas.Bool.{cases_lt, cases_eq, lt-ltb, le-ltb}
use Rattle.std.proofs.lemmas.List.{length-append, length-map, length-set, get_or-set_same, get_or-set_other}
use Rattle.std.proofs.lemmas.List.Quantifiers.{position-Some}
use Rattle.std.proofs.lemmas.List.Sums.{position_or_len_is}
use Rattle.nack_union.specs.Kept.{Marked, closed_marks}
use Rattle.nack_union.specs.CollectionSound.{IsIdle, AreIdle, AreQuiet}
use Rattle.nack_union.proofs.Idle.{at_front, stays_idle}
use Rattle.nack_union.proofs.Collections.{any_default}

-- something is wanted of an object
abbrev pub wanted : Marked → Bool
wanted m = nat_lt 0 (length m.wants)

unwanted : (ms : List Marked) (quiet k : ℕ) (d : Marked) → AreQuiet quiet ms → k < length ms → k < quiet → wanted (get_or ms k d) ≡ false
unwanted ms quiet k d none lt below = ap (λ (xs : List ℕ). nat_lt 0 (length xs)) (none k d lt below)

-- the first object of which something is wanted, and none
pub first_is : (ms : List Marked) (i : ℕ) (d : Marked) → AreQuiet i ms → i < length ms → wanted (get_or ms i d) ≡ true → position wanted ms ≡ Some i
first_is ms i d none lt here =
    ap (λ n. cond (nat_lt n (length ms)) (Some n) None) (position_or_len_is wanted ms i d (omega arith) (λ k below. unwanted ms i k d none (omega arith) below) (λ within. here))
    ∙ ap (λ b. cond b (Some i) None) (lt-ltb i (length ms) lt)

pub none_is : (ms : List Marked) (i : ℕ) (d : Marked) → AreQuiet i ms → length ms ≤ i → position wanted ms ≡ None
none_is ms i d none past =
    ap (λ n. cond (nat_lt n (length ms)) (Some n) None)
    (position_or_len_is wanted ms (length ms) d (omega arith) (λ k below. unwanted ms i k d none below (omega arith)) (λ within. absurd (omega arith)))
    ∙ ap (λ b. cond b (Some (length ms)) None) (le-ltb (length ms) (length ms) (omega arith))

not_wanted : (xs : List ℕ) → nat_lt 0 (length xs) ≡ false → xs ≡ []
not_wanted [] e = refl
not_wanted (x ∷ xs) e = let f = lt-ltb 0 (suc (length xs)) (omega arith) in absurd (cc)

-- an object that joins at the end, of which nothing is wanted
pub quiet_pushed : (quiet : ℕ) (ms : List Marked) (m : Marked) → AreQuiet quiet ms → m.wants ≡ [] → AreQuiet quiet (ms ++ m ∷ [])
quiet_pushed quiet ms m none new k d lt below = go (cases_lt k (length ms))
  where
    last : (xs : List Marked) (j : ℕ) → j ≡ length xs → get_or (xs ++ m ∷ []) j d ≡ m
    last [] zero e = refl
    last [] (suc j) e = absurd (omega (arith, e))
    last (x ∷ xs) zero e = absurd (omega (arith, e))
    last (x ∷ xs) (suc j) e = last xs j (omega (arith, e))

    go : (k < length ms) ⊎ (length ms ≤ k) → (get_or (ms ++ m ∷ []) k d).wants ≡ []
    go (inl less) = ap (λ (x : Marked). x.wants) (at_front ms m k d less) ∙ none k d less below
    go (inr more) = ap (λ (x : Marked). x.wants) (last ms k (omega (arith, lt, more, length-append ms (m ∷ [])))) ∙ new

-- a round that closes adds no want before the place from which it asks for anything
get_map : (ms : List Marked) (k : ℕ) (d : Marked) → k < length ms → get_or (map closed_marks ms) k d ≡ closed_marks (get_or ms k d)
get_map [] k d lt = absurd (omega arith)
get_map (m ∷ ms) zero d lt = refl
get_map (m ∷ ms) (suc k) d lt = get_map ms k d (omega arith)

pub quiet_closed : (quiet low high new : ℕ) (ms : List Marked) → AreQuiet quiet ms → AreIdle low high ms → new ≡ min quiet low → AreQuiet new (map closed_marks ms)
quiet_closed quiet low high new ms none idle is k d lt below =
    let within : k < length ms = omega (arith, lt, length-map ms closed_marks) in
    ap (λ (x : Marked). x.wants) (get_map ms k d within ∙ stays_idle (get_or ms k d) (idle k d within (inl (omega (arith, is, below)))))
    ∙ none k d within (omega (arith, is, below))

-- objects whose wants stay
pub quiet_kept : (quiet : ℕ) (old new : List Marked) → length new ≡ length old
    → ((k : ℕ) (d : Marked) → k < length old → (get_or new k d).wants ≡ (get_or old k d).wants) → AreQuiet quiet old → AreQuiet quiet new
quiet_kept quiet old new many same none k d lt below =
    let within : k < length old = omega (arith, lt, many) in same k d within ∙ none k d within below

-- the first object of which something is wanted, and its place
pub quiet_before : (ms : List Marked) (i : ℕ) → position wanted ms ≡ Some i → AreQuiet i ms
quiet_before ms i is k d lt below = not_wanted _ ((position-Some wanted ms i d is).2 k below)

-- an object at a place of which nothing before is wanted
pub quiet_set : (ms : List Marked) (i : ℕ) (new : Marked) → AreQuiet i ms → AreQuiet i (set ms i new)
quiet_set ms i new none k d lt below =
    ap (λ (m : Marked). m.wants) (get_or-set_other ms i k new d (λ e. omega (arith, e, below))) ∙ none k d (omega (arith, lt, length-set {A = Marked})) below

-- an object of which as much is wanted as before
pub quiet_same : (quiet : ℕ) (ms : List Marked) (i : ℕ) (new d : Marked) → i < length ms → new.wants ≡ (get_or ms i d).wants → AreQuiet quiet ms → AreQuiet quiet (set ms i new)
quiet_same quiet ms i new d lt wants none = quiet_kept quiet ms (set ms i new) (length-set ms i new) (λ k x within. by k x (cases_eq k i)) none
  where
    by : (k : ℕ) (x : Marked) → (k ≡ i) ⊎ (k ≡ i → ⊥) → (get_or (set ms i new) k x).wants ≡ (get_or ms k x).wants
    by k x (inl e) =
        ap (λ j. (get_or (set ms i new) j x).wants) e ∙ ap (λ (m : Marked). m.wants) (get_or-set_same ms i new x lt) ∙ wants
        ∙ ap (λ (m : Marked). m.wants) (any_default ms i d x lt) ∙ ap (λ j. (get_or ms j x).wants) (sym e)
    by k x (inr ne) = ap (λ (m : Marked). m.wants) (get_or-set_other ms i k new x ne)

-- an object of which the round asks for as much as before
pub idle_set : (low high i : ℕ) (ms : List Marked) (new d : Marked) → i < length ms → new.asked ≡ (get_or ms i d).asked → new.counts ≡ (get_or ms i d).counts
    → AreIdle low high ms → AreIdle low high (set ms i new)
idle_set low high i ms new d lt asked counts idle k x within out = go (cases_eq k i)
  where
    go : (k ≡ i) ⊎ (k ≡ i → ⊥) → IsIdle (get_or (set ms i new) k x)
    go (inl e) =
        subst (λ j. IsIdle (get_or (set ms i new) j x)) (sym e)
        (subst IsIdle (sym (get_or-set_same ms i new x lt))
        (by (idle i d lt (subst (λ j. (j < low) ⊎ (high ≤ j)) e out))))
      where
        by : IsIdle (get_or ms i d) → IsIdle new
        by old = (asked ∙ old.0, counts ∙ old.1 ∙ ap (λ (cs : List ℕ). replicate (length cs) 0) (sym counts))
    go (inr ne) = subst IsIdle (sym (get_or-set_other ms i k new x ne)) (idle k x (omega (arith, within, length-set {A = Marked})) out)

pub few_set : (first : ℕ) (ms : List Marked) (i : ℕ) (new : Marked) → first + length ms ≤ 2 ^ 32 → first + length (set ms i new) ≤ 2 ^ 32
few_set first ms i new few = omega (arith, few, length-set {A = Marked})
