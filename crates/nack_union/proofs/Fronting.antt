-- A collection whose first object moves on.
use Rattle.std.proofs.Common.{◌≡◌, ℕ, zero, suc, ◌+◌, ◌-◌, ◌<◌, ◌≤◌, ◌⊎◌, List, [], ◌∷◌, map, length, set, get_or, replicate, Bool, true, false, refl, sym, ap, ◌∙◌, arith}
use Rattle.std.specs.Prelude.{not, filter, nat_lt}
use Rattle.std.specs.List.{range_with_len, list_any}
use Rattle.std.proofs.lemmas.List.{length-replicate, length-map, get_or-map, ext_get_or}
use Rattle.std.proofs.lemmas.List.FromFn.{length-range_with_len}
use Rattle.nack_union.specs.Slots.{stands_from}
use Rattle.nack_union.specs.Kept.{Marked, moved_on, moved_front, any_gone, from_block}
use Rattle.nack_union.specs.CollectionSound.{IsIdle, AreIdle, AreQuiet}
use Rattle.nack_union.proofs.Idle.{zeros}

pub set_front : (block : ℕ) (ms : List Marked) (m new : Marked) → 0 < block → 0 < length ms → m ≡ get_or ms 0 m → new ≡ moved_on block m → set ms 0 new ≡ moved_front block ms
set_front zero ms m new later some is moved = absurd (omega (arith, later))
set_front (suc block) [] m new later some is moved = absurd (omega (arith, some))
set_front (suc block) (x ∷ ms) m new later some is moved = ap (λ y. y ∷ ms) (moved ∙ ap (moved_on (suc block)) is)

pub gone_front : (block : ℕ) (ms : List Marked) (m : Marked) → 0 < block → 0 < length ms → m ≡ get_or ms 0 m
    → list_any (λ slot. not (stands_from block slot)) m.wants ≡ any_gone block ms
gone_front zero ms m later some is = absurd (omega (arith, later))
gone_front (suc block) [] m later some is = absurd (omega (arith, some))
gone_front (suc block) (x ∷ ms) m later some is = ap (λ (y : Marked). list_any (λ slot. not (stands_from (suc block) slot)) y.wants) is

-- an object of which nothing is asked stays one
idle_moved : (block : ℕ) (m : Marked) → IsIdle m → IsIdle (moved_on block m)
idle_moved block m idle = (ap (filter (stands_from block)) idle.0, ext_get_or 0 (map test (range_with_len 0 all)) (replicate (length (map test (range_with_len 0 all))) 0) (sym (length-replicate {A = ℕ} (length (map test (range_with_len 0 all))) 0)) each)
  where
    all : ℕ
    all = length m.counts + (block - m.first)

    test : ℕ → ℕ
    test i = from_block block i (get_or m.counts i 0)

    by : (b : Bool) (n : ℕ) → n ≡ 0 → (elim b as (λ _. ℕ) [ true ↦ 0 | false ↦ n ]) ≡ 0
    by true n e = refl
    by false n e = e

    none : (i : ℕ) → get_or m.counts i 0 ≡ 0
    none i = ap (λ (xs : List ℕ). get_or xs i 0) idle.1 ∙ zeros (length m.counts) i

    each : (i : ℕ) → i < length (map test (range_with_len 0 all)) → get_or (map test (range_with_len 0 all)) i 0 ≡ get_or {A = ℕ} (replicate (length (map test (range_with_len 0 all))) 0) i 0
    each i lt =
        let many = length-map (range_with_len 0 all) test in
        let range = length-range_with_len 0 all in
        get_or-map test (range_with_len 0 all) i 0 0 (omega (arith, lt, many))
        ∙ by (nat_lt (get_or (range_with_len 0 all) i 0) block) _ (none (get_or (range_with_len 0 all) i 0))
        ∙ sym (zeros (length (map test (range_with_len 0 all))) i)

pub idle_front : (block low high : ℕ) (ms : List Marked) → AreIdle low high ms → AreIdle low high (moved_front block ms)
idle_front zero low high ms idle = idle
idle_front (suc block) low high [] idle = idle
idle_front (suc block) low high (m ∷ ms) idle = λ k d lt out. by k d lt out
  where
    by : (k : ℕ) (d : Marked) → k < length (moved_on (suc block) m ∷ ms) → (k < low) ⊎ (high ≤ k) → IsIdle (get_or (moved_on (suc block) m ∷ ms) k d)
    by zero d lt out = idle_moved (suc block) m (idle zero d (omega arith) out)
    by (suc k) d lt out = idle (suc k) d (omega (arith, lt)) out

pub quiet_front : (block quiet : ℕ) (ms : List Marked) → AreQuiet quiet ms → AreQuiet quiet (moved_front block ms)
quiet_front zero quiet ms none = none
quiet_front (suc block) quiet [] none = none
quiet_front (suc block) quiet (m ∷ ms) none = λ k d lt below. by k d lt below
  where
    by : (k : ℕ) (d : Marked) → k < length (moved_on (suc block) m ∷ ms) → k < quiet → (get_or (moved_on (suc block) m ∷ ms) k d).wants ≡ []
    by zero d lt below = ap (filter (stands_from (suc block))) (none zero d (omega arith) below)
    by (suc k) d lt below = none (suc k) d (omega (arith, lt)) below
