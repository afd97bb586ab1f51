-- What answers say of what is held: which blocks are done, and how many symbols are lacking; and which indices a position leaves.
use Rattle.std.proofs.Common.{◌≡◌, ℕ, zero, suc, cond, ◌+◌, ◌<◌, ◌≤◌, ◌⊎◌, inl, inr, Bool, true, false, refl, sym, ap, ◌∙◌, subst, arith, Option, Some, None, ◌∷◌}
use Rattle.std.specs.Prelude.{filter, not, nat_lt, ◌==◌, ◌&&◌, ◌||◌, slice_get, IfSome, MatchOption}
use Rattle.std.specs.List.{range_with_len}
use Rattle.std.proofs.lemmas.Bool.{cases_lt, lt-ltb}
use Rattle.fec_plan.specs.Partition.{blocks}
use Rattle.fec_plan.specs.Points.{point_of, point_before}
use Rattle.fec_plan.specs.declared.position.Position.{Position}
use Rattle.norm_receive_rules.specs.Holding.{Holding, Plan}
use Rattle.norm_receive_rules.specs.Plans.{cut_of_plan, plan_of, is_done}
use Rattle.norm_receive_rules.specs.declared.words.Missing.TheVariants as missing
use Rattle.rx_hold.specs.Told.{IsFirstShort, first_short_at, missing_by, short_of}

-- a position that is not before a block is of its object or a later one
pub not_earlier : (at point : Position) → point_before (point_of at) (point_of point) ≡ false → point.index ≤ at.index
not_earlier at point e = go (cases_lt at.index point.index)
  where
    earlier : (a b : Bool) → a ≡ true → (a || b) ≡ false → ⊥
    earlier true b e f = cc
    earlier false b e f = cc

    go : (at.index < point.index) ⊎ (point.index ≤ at.index) → point.index ≤ at.index
    go (inl lt) =
        absurd (earlier (nat_lt at.index point.index) (at.index == point.index && nat_lt at.block point.block) (lt-ltb at.index point.index lt) e)
    go (inr le) = le

-- the first of a range that passes a test
first_of : (test : ℕ → Bool) (from n : ℕ)
    → MatchOption (slice_get (filter test (range_with_len from n)) 0) ((k : ℕ) → from ≤ k → k < from + n → test k ≡ false)
    (λ k. (from ≤ k) × (k < from + n) × (test k ≡ true) × ((j : ℕ) → from ≤ j → j < k → test j ≡ false))
first_of test from zero = λ k le lt. absurd (omega arith)
first_of test from (suc n) = go (test from) refl (first_of test (from + 1) n)
  where
    here : (j : ℕ) → from ≤ j → (j ≡ from) ⊎ (from + 1 ≤ j)
    here j le = elim (cases_lt from j) [ inl lt ↦ inr (omega arith) | inr ge ↦ inl (omega arith) ]

    later : (found : Option ℕ) → MatchOption found ((k : ℕ) → from + 1 ≤ k → k < from + 1 + n → test k ≡ false)
        (λ k. (from + 1 ≤ k) × (k < from + 1 + n) × (test k ≡ true) × ((j : ℕ) → from + 1 ≤ j → j < k → test j ≡ false))
        → test from ≡ false
        → MatchOption found ((k : ℕ) → from ≤ k → k < from + suc n → test k ≡ false)
        (λ k. (from ≤ k) × (k < from + suc n) × (test k ≡ true) × ((j : ℕ) → from ≤ j → j < k → test j ≡ false))
    later None h e = λ k le lt. elim (here k le) [ inl is ↦ ap test is ∙ e | inr more ↦ h k more (omega arith) ]
    later (Some k) h e = (
      (let z = h.0 in omega arith),
      (let z = h.1 in omega arith),
      h.2,
      λ j le lt. elim (here j le) [ inl is ↦ ap test is ∙ e | inr more ↦ h.3 j more lt ],
    )

    go : (b : Bool) → test from ≡ b
        → MatchOption (slice_get (filter test (range_with_len (from + 1) n)) 0) ((k : ℕ) → from + 1 ≤ k → k < from + 1 + n → test k ≡ false)
        (λ k. (from + 1 ≤ k) × (k < from + 1 + n) × (test k ≡ true) × ((j : ℕ) → from + 1 ≤ j → j < k → test j ≡ false))
        → MatchOption (slice_get (cond b (from ∷ filter test (range_with_len (from + 1) n)) (filter test (range_with_len (from + 1) n))) 0)
        ((k : ℕ) → from ≤ k → k < from + suc n → test k ≡ false)
        (λ k. (from ≤ k) × (k < from + suc n) × (test k ≡ true) × ((j : ℕ) → from ≤ j → j < k → test j ≡ false))
    go true e more = ((omega arith), (omega arith), e, λ j le lt. absurd (omega arith))
    go false e more = later (slice_get (filter test (range_with_len (from + 1) n)) 0) more e

not_not : (b : Bool) → not b ≡ false → b ≡ true
not_not true e = refl
not_not false e = cc

not_so : (b : Bool) → not b ≡ true → b ≡ false
not_so true e = cc
not_so false e = refl

-- what the first block that is not done says
pub first_short_says : (s : Holding) (plan : Plan) (first : Option ℕ) → first ≡ slice_get (short_of s plan) 0 → IsFirstShort s plan first
first_short_says s plan first is = go first (subst Told (sym is) (first_of (λ block. not (is_done s plan block)) 0 (blocks (cut_of_plan plan))))
  where
    Told : Option ℕ → Type 0
    Told found = MatchOption found ((k : ℕ) → 0 ≤ k → k < 0 + blocks (cut_of_plan plan) → not (is_done s plan k) ≡ false)
        (λ k. (0 ≤ k) × (k < 0 + blocks (cut_of_plan plan)) × (not (is_done s plan k) ≡ true) × ((j : ℕ) → 0 ≤ j → j < k → not (is_done s plan j) ≡ false))

    go : (found : Option ℕ) → Told found → IsFirstShort s plan found
    go None h = record { before = (λ block lt. not_not (is_done s plan block) (h block (omega arith) (omega arith))); short = tt }
    go (Some k) h = record {
      before = (λ block lt. not_not (is_done s plan block) (h.3 block (omega arith) lt));
      short = ((let z = h.1 in omega arith), not_so (is_done s plan k) h.2);
    }

-- the same of a state's plan, where there is one
pub first_says : (s : Holding) (index : ℕ) (first : Option ℕ) → first ≡ first_short_at s index
    → IfSome (plan_of s index) (λ plan. IsFirstShort s plan first)
first_says s index first is = go (plan_of s index) refl
  where
    go : (found : Option Plan) → plan_of s index ≡ found → IfSome found (λ plan. IsFirstShort s plan first)
    go None e = tt
    go (Some plan) e =
        first_short_says s plan first (is ∙ ap (λ (o : Option Plan). elim o [ Some plan ↦ slice_get (short_of s plan) 0 | None ↦ None ]) e)

-- so many symbols are lacking
pub short_word : (n : ℕ) → (n ≡ 0 → ⊥) → missing.Short n ≡ missing_by n
short_word zero some = absurd (some refl)
short_word (suc n) some = refl
