-- Objects of which the open round asks for nothing.
use Rattle.std.proofs.Common.{◌≡◌, ℕ, zero, suc, ◌+◌, ◌<◌, ◌≤◌, ◌⊎◌, inl, inr, List, [], ◌∷◌, ◌++◌, map, length, get_or, take, drop, replicate, ◌-◌, Bool, refl, sym, ap, ◌∙◌, arith, subst}
use Rattle.std.specs.Prelude.{min}
use Rattle.std.specs.List.{AllByRecursion}
use Rattle.std.proofs.lemmas.Bool.{cases_lt}
use Rattle.std.proofs.lemmas.List.{length-append, length-replicate}
use Rattle.fec_plan.specs.Partition.{Cut, blocks}
use Rattle.nack_union.specs.Kept.{Marked, IsFresh, admitted, admitted_stream, closed_marks, IsCounted}
use Rattle.nack_union.specs.Rounds.{new_wants}
use Rattle.nack_union.specs.CollectionSound.{IsIdle, AreIdle}
use Rattle.nack_union.proofs.Closings.{idle_stays}

pub at_front : (ms : List Marked) (m : Marked) (k : ℕ) (d : Marked) → k < length ms → get_or (ms ++ m ∷ []) k d ≡ get_or ms k d
at_front [] m k d lt = absurd (omega arith)
at_front (x ∷ ms) m zero d lt = refl
at_front (x ∷ ms) m (suc k) d lt = at_front ms m k d (omega arith)

pub at_end : (ms : List Marked) (m d : Marked) → get_or (ms ++ m ∷ []) (length ms) d ≡ m
at_end [] m d = refl
at_end (x ∷ ms) m d = at_end ms m d

-- one more object, of which nothing is asked
pub idle_pushed : (low high : ℕ) (ms : List Marked) (m : Marked) → AreIdle low high ms → IsIdle m → AreIdle low high (ms ++ m ∷ [])
idle_pushed low high ms m idle new k d lt out = go (cases_lt k (length ms))
  where
    go : (k < length ms) ⊎ (length ms ≤ k) → IsIdle (get_or (ms ++ m ∷ []) k d)
    go (inl less) = subst IsIdle (sym (at_front ms m k d less)) (idle k d less out)
    go (inr more) =
        subst (λ i. IsIdle (get_or (ms ++ m ∷ []) i d)) (let e : length ms ≡ k = omega (arith, lt, more, length-append ms (m ∷ [])) in e)
        (subst IsIdle (sym (at_end ms m d)) new)

-- of an object as it is admitted nothing is wanted, sent or asked for
pub fresh_object : (cut : Cut) (info : Bool) → IsFresh (admitted cut info)
fresh_object cut info = record { first = refl; wants = refl; sent = refl; asked = refl; counts = ap (λ k. replicate k 0) (sym (length-replicate {A = ℕ} (blocks cut) 0)) }

pub fresh_stream : (cut : Cut) (room : ℕ) → IsFresh (admitted_stream cut room)
fresh_stream cut room = record { first = refl; wants = refl; sent = refl; asked = refl; counts = ap (λ k. replicate k 0) (sym (length-replicate {A = ℕ} room 0)) }

-- an object of which nothing is asked stays as its round closes
pub stays_idle : (m : Marked) → IsIdle m → closed_marks m ≡ m
stays_idle m idle = sym (idle_stays m (length m.counts) idle.0 idle.1)

-- one that is closed is idle
pub closed_is_idle : (m : Marked) → IsIdle (closed_marks m)
closed_is_idle m = (refl, ap (λ k. replicate k 0) (sym (length-replicate (length m.counts) 0)))

pub closed_are_idle : (ms : List Marked) (k : ℕ) (d : Marked) → k < length (map closed_marks ms) → IsIdle (get_or (map closed_marks ms) k d)
closed_are_idle [] k d lt = absurd (omega arith)
closed_are_idle (m ∷ ms) zero d lt = closed_is_idle m
closed_are_idle (m ∷ ms) (suc k) d lt = closed_are_idle ms k d (omega arith)

-- the objects of a range are closed, and the others stay
closed_front : (ms : List Marked) (n : ℕ) → ((k : ℕ) (d : Marked) → k < length ms → n ≤ k → IsIdle (get_or ms k d))
    → map closed_marks (take n ms) ++ drop n ms ≡ map closed_marks ms
closed_front [] zero idle = refl
closed_front [] (suc n) idle = refl
closed_front (m ∷ ms) zero idle =
    ap (λ x. x ∷ ms) (sym (stays_idle m (idle 0 m (omega arith) (omega arith))))
    ∙ ap (λ xs. closed_marks m ∷ xs) (closed_front ms zero (λ k d lt out. idle (suc k) d (omega arith) (omega arith)))
closed_front (m ∷ ms) (suc n) idle =
    ap (λ xs. closed_marks m ∷ xs) (closed_front ms n (λ k d lt out. idle (suc k) d (omega arith) (omega arith)))

pub closed_range : (low n : ℕ) (ms : List Marked) → AreIdle low (low + n) ms
    → take low ms ++ (map closed_marks (take n (drop low ms)) ++ drop n (drop low ms)) ≡ map closed_marks ms
closed_range zero n ms idle = closed_front ms n (λ k d lt out. idle k d lt (inr (omega arith)))
closed_range (suc low) n [] idle = closed_front [] n (λ k d lt out. absurd (omega arith))
closed_range (suc low) n (m ∷ ms) idle =
    ap (λ xs. m ∷ xs) (closed_range low n ms (λ k d lt out. idle (suc k) d (omega arith) (on out)))
    ∙ ap (λ x. x ∷ map closed_marks ms) (sym (stays_idle m (idle 0 m (omega arith) (inl (omega arith)))))
  where
    on : {k : ℕ} → (k < low) ⊎ (low + n ≤ k) → (suc k < suc low) ⊎ (suc low + n ≤ suc k)
    on (inl lt) = inl (omega arith)
    on (inr le) = inr (omega arith)

-- they alone have new wants
none_new : (m : Marked) (rest : ℕ) → IsIdle m → (length (closed_marks m).wants - length m.wants) + rest ≡ rest
none_new m rest idle = let same = ap (λ (x : Marked). length x.wants) (stays_idle m idle) in omega (arith, same)

new_front : (ms : List Marked) (n : ℕ) → ((k : ℕ) (d : Marked) → k < length ms → n ≤ k → IsIdle (get_or ms k d)) → new_wants (take n ms) ≡ new_wants ms
new_front [] zero idle = refl
new_front [] (suc n) idle = refl
new_front (m ∷ ms) zero idle =
    new_front ms zero (λ k d lt out. idle (suc k) d (omega arith) (omega arith)) ∙ sym (none_new m (new_wants ms) (idle 0 m (omega arith) (omega arith)))
new_front (m ∷ ms) (suc n) idle =
    ap (λ k. (length (closed_marks m).wants - length m.wants) + k) (new_front ms n (λ k d lt out. idle (suc k) d (omega arith) (omega arith)))

pub new_range : (low n : ℕ) (ms : List Marked) → AreIdle low (low + n) ms → new_wants (take n (drop low ms)) ≡ new_wants ms
new_range zero n ms idle = new_front ms n (λ k d lt out. idle k d lt (inr (omega arith)))
new_range (suc low) n [] idle = new_front [] n (λ k d lt out. absurd (omega arith))
new_range (suc low) n (m ∷ ms) idle =
    new_range low n ms (λ k d lt out. idle (suc k) d (omega arith) (on out))
    ∙ sym (none_new m (new_wants ms) (idle 0 m (omega arith) (inl (omega arith))))
  where
    on : {k : ℕ} → (k < low) ⊎ (low + n ≤ k) → (suc k < suc low) ⊎ (suc low + n ≤ suc k)
    on (inl lt) = inl (omega arith)
    on (inr le) = inr (omega arith)

pub zeros : (n k : ℕ) → get_or {A = ℕ} (replicate n 0) k 0 ≡ 0
zeros zero k = refl
zeros (suc n) zero = refl
zeros (suc n) (suc k) = zeros n k

-- an object of which nothing is asked has no counted block
pub idle_counted : (m : Marked) → IsIdle m → IsCounted m
idle_counted m idle block some =
    let none : get_or m.counts block 0 ≡ 0 = ap (λ (cs : List ℕ). get_or cs block 0) idle.1 ∙ zeros (length m.counts) block in
    absurd (omega (arith, none, some))

counted_front : (ms : List Marked) (n : ℕ) → ((k : ℕ) (d : Marked) → k < length ms → n ≤ k → IsIdle (get_or ms k d)) → AllByRecursion IsCounted (take n ms)
    → AllByRecursion IsCounted ms
counted_front [] n idle all = tt
counted_front (m ∷ ms) zero idle all =
    (idle_counted m (idle 0 m (omega arith) (omega arith)), counted_front ms zero (λ k d lt out. idle (suc k) d (omega arith) (omega arith)) tt)
counted_front (m ∷ ms) (suc n) idle all =
    (all.0, counted_front ms n (λ k d lt out. idle (suc k) d (omega arith) (omega arith)) all.1)

pub counted_range : (low n : ℕ) (ms : List Marked) → AreIdle low (low + n) ms → AllByRecursion IsCounted (take n (drop low ms)) → AllByRecursion IsCounted ms
counted_range zero n ms idle all = counted_front ms n (λ k d lt out. idle k d lt (inr (omega arith))) all
counted_range (suc low) n [] idle all = tt
counted_range (suc low) n (m ∷ ms) idle all =
    (idle_counted m (idle 0 m (omega arith) (inl (omega arith))), counted_range low n ms (λ k d lt out. idle (suc k) d (omega arith) (on out)) all)
  where
    on : {k : ℕ} → (k < low) ⊎ (low + n ≤ k) → (suc k < suc low) ⊎ (suc low + n ≤ suc k)
    on (inl lt) = inl (omega arith)
    on (inr le) = inr (omega arith)

-- the range that is closed
pub idle_outside : (low high a b : ℕ) (ms : List Marked) → a ≡ min low b → b ≡ min high (length ms) → AreIdle low high ms → AreIdle a (a + (b - a)) ms
idle_outside low high a b ms first last idle k d lt (inl before) = idle k d lt (inl (omega (arith, first, before)))
idle_outside low high a b ms first last idle k d lt (inr behind) = idle k d lt (inr (omega (arith, first, last, behind, lt)))
