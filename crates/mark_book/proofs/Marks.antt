-- The numbers of the watermarks whose outcome is to be told.
use Rattle.std.proofs.Common.{◌≡◌, ℕ, ◌+◌, ◌<◌, List, [], ◌∷◌, ◌++◌, length, map, Bool, true, false, refl, sym, ap, ◌∙◌, cond, arith, fold}
use Rattle.std.specs.Prelude.{◌&&◌, nat_lt, filter, is_none, Some}
use Rattle.norm_order.specs.Sets.{with_member}
use Rattle.norm_order.proofs.SetLemmas.{in_front, again, behind, alone}
use Rattle.norm_send_rules.specs.declared.news.Outcome.{Outcome}
use Rattle.mark_book.specs.BookState.{Kept, untold_marks}
use Rattle.mark_book.specs.BookMoves.{ended_where}
use Rattle.mark_book.specs.BookSound.{AreNumbered}

-- one more number
abbrev pub more_of : List ℕ → ℕ → List ℕ
more_of marks m = with_member nat_lt m marks

-- the numbers of the watermarks that pass a test
abbrev pub marks_where : (Kept → Bool) → List Kept → List ℕ
marks_where test ks = map (λ (k : Kept). k.mark) (filter test ks)

first_below : (m n : ℕ) (ks : List Kept) → AreNumbered n ks → m < n → with_member nat_lt m (untold_marks ks) ≡ m ∷ untold_marks ks
first_below m n [] all lt = alone m
first_below m n (k ∷ ks) all lt = go k.untold (first_below m (n + 1) ks all.1 (omega arith))
  where
    lower : m < k.mark
    lower = let e : k.mark ≡ n = all.0 in omega arith

    go : (b : Bool) → with_member nat_lt m (untold_marks ks) ≡ m ∷ untold_marks ks
        → with_member nat_lt m (map (λ (k : Kept). k.mark) (cond b (k ∷ filter (λ k. k.untold) ks) (filter (λ k. k.untold) ks)))
        ≡ m ∷ map (λ (k : Kept). k.mark) (cond b (k ∷ filter (λ k. k.untold) ks) (filter (λ k. k.untold) ks))
    go true rest = in_front m k.mark (untold_marks ks) lower
    go false rest = rest

fold_behind : (test : Kept → Bool) (m n : ℕ) (ks : List Kept) (u : List ℕ) → AreNumbered n ks → m < n
    → fold more_of (m ∷ u) (marks_where test ks) ≡ m ∷ fold more_of u (marks_where test ks)
fold_behind test m n [] u all lt = refl
fold_behind test m n (k ∷ ks) u all lt = go (test k) (λ v. fold_behind test m (n + 1) ks v all.1 (omega arith))
  where
    lower : m < k.mark
    lower = let e : k.mark ≡ n = all.0 in omega arith

    go : (b : Bool) → ((v : List ℕ) → fold more_of (m ∷ v) (marks_where test ks) ≡ m ∷ fold more_of v (marks_where test ks))
        → fold more_of (m ∷ u) (map (λ (k : Kept). k.mark) (cond b (k ∷ filter test ks) (filter test ks)))
        ≡ m ∷ fold more_of u (map (λ (k : Kept). k.mark) (cond b (k ∷ filter test ks) (filter test ks)))
    go true rest = ap (λ v. fold more_of v (marks_where test ks)) (behind m k.mark u lower) ∙ rest (with_member nat_lt k.mark u)
    go false rest = rest u

-- a watermark after it ended or did not
abbrev ended_if : Bool → Outcome → Kept → Kept
ended_if b outcome k = elim b [ true ↦ record k { ended = Some outcome; untold = true } | false ↦ k ]

-- where watermarks end, their numbers join those to be told
pub marks_after : (test : Kept → Bool) (outcome : Kept → Outcome) (n : ℕ) (ks : List Kept) → AreNumbered n ks
    → untold_marks (map (ended_where test outcome) ks) ≡ fold more_of (untold_marks ks) (marks_where (λ k. is_none k.ended && test k) ks)
marks_after test outcome n [] all = refl
marks_after test outcome n (k ∷ ks) all = go (is_none k.ended && test k) k.untold (marks_after test outcome (n + 1) ks all.1)
  where
    ends : Kept → Bool
    ends k = is_none k.ended && test k

    next : k.mark < n + 1
    next = let e : k.mark ≡ n = all.0 in omega arith

    go : (b c : Bool)
        → untold_marks (map (ended_where test outcome) ks) ≡ fold more_of (untold_marks ks) (marks_where (λ k. is_none k.ended && test k) ks)
        → untold_marks (ended_if b (outcome k) (record k { untold = c }) ∷ map (ended_where test outcome) ks)
        ≡ fold more_of (untold_marks (record k { untold = c } ∷ ks)) (map (λ (k : Kept). k.mark) (cond b (k ∷ filter (λ k. is_none k.ended && test k) ks) (filter (λ k. is_none k.ended && test k) ks)))
    go true true rest =
        ap (λ u. k.mark ∷ u) rest
        ∙ sym (fold_behind (λ k. is_none k.ended && test k) k.mark (n + 1) ks (untold_marks ks) all.1 next)
        ∙ ap (λ v. fold more_of v (marks_where (λ k. is_none k.ended && test k) ks)) (sym (again k.mark (untold_marks ks)))
    go true false rest =
        ap (λ u. k.mark ∷ u) rest
        ∙ sym (fold_behind (λ k. is_none k.ended && test k) k.mark (n + 1) ks (untold_marks ks) all.1 next)
        ∙ ap (λ v. fold more_of v (marks_where (λ k. is_none k.ended && test k) ks)) (sym (first_below k.mark (n + 1) ks all.1 next))
    go false true rest =
        ap (λ u. k.mark ∷ u) rest
        ∙ sym (fold_behind (λ k. is_none k.ended && test k) k.mark (n + 1) ks (untold_marks ks) all.1 next)
    go false false rest = rest

-- watermarks that end keep their numbers
pub numbered_after : (test : Kept → Bool) (outcome : Kept → Outcome) (n : ℕ) (ks : List Kept) → AreNumbered n ks → AreNumbered n (map (ended_where test outcome) ks)
numbered_after test outcome n [] all = tt
numbered_after test outcome n (k ∷ ks) all = (go (is_none k.ended && test k), numbered_after test outcome (n + 1) ks all.1)
  where
    go : (b : Bool) → (ended_if b (outcome k) k).mark ≡ n
    go true = all.0
    go false = all.0

-- one more watermark has the next number
pub numbered_push : (n : ℕ) (ks : List Kept) (k : Kept) → AreNumbered n ks → k.mark ≡ n + length ks → AreNumbered n (ks ++ k ∷ [])
numbered_push n [] k all is = (omega (arith, is), tt)
numbered_push n (j ∷ ks) k all is = (all.0, numbered_push (n + 1) ks k all.1 (omega (arith, is)))
