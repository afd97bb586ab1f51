-- The telling of outcomes.
use Rattle.std.proofs.Common.{◌≡◌, ℕ, ◌+◌, ◌<◌, ◌≤◌, List, [], ◌∷◌, ◌++◌, length, map, take, drop, get_or, set, Bool, true, false, refl, sym, ap, ◌∙◌, cond, arith, suc, add-one}
use Rattle.std.specs.Prelude.{◌==◌, filter, find, Option, None, Some}
use Rattle.std.proofs.lemmas.Bool.{eq-eqb, ne_eqb}
use Rattle.std.proofs.lemmas.List.{drop_more, set_split}
use Rattle.mark_book.specs.BookState.{MarkState, Kept, kept_state, untold_marks}
use Rattle.mark_book.specs.BookMoves.{told_first}
use Rattle.mark_book.specs.BookSound.{AreNumbered}

untold_head : (k : Kept) (ks : List Kept) → k.untold ≡ true → told_first (k ∷ ks) ≡ record k { untold = false } ∷ ks
untold_head k ks e = go k.untold e
  where
    go : (b : Bool) → b ≡ true → elim b as (λ _. List Kept) [ true ↦ record k { untold = false } ∷ ks | false ↦ k ∷ told_first ks ] ≡ record k { untold = false } ∷ ks
    go true e = refl
    go false e = absurd (cc)

-- a write at the first place whose outcome is to be told
pub told_here : (ks now : List Kept) (i : ℕ) (k new d : Kept) → i < length ks → now ≡ ks → k ≡ get_or now i d → k.untold ≡ true → new ≡ record k { untold = false }
    → take i ks ++ told_first (drop i ks) ≡ told_first ks → set now i new ≡ told_first ks
told_here ks now i k new d lt same at untold is so_far =
    ap (λ (xs : List Kept). set xs i new) same
    ∙ set_split ks i new lt
    ∙ ap (λ (y : Kept). take i ks ++ y ∷ drop (suc i) ks) is
    ∙ ap (λ (ys : List Kept). take i ks ++ ys) (sym (untold_head k (drop (suc i) ks) untold))
    ∙ ap (λ (y : Kept). take i ks ++ told_first (y ∷ drop (suc i) ks)) (at ∙ ap (λ (xs : List Kept). get_or xs i d) same)
    ∙ ap (λ (ys : List Kept). take i ks ++ told_first ys) (sym (drop_next ks i d lt))
    ∙ so_far
  where
    drop_next : (xs : List Kept) (i : ℕ) (d : Kept) → i < length xs → drop i xs ≡ get_or xs i d ∷ drop (suc i) xs
    drop_next xs i d lt = drop_more xs i d lt ∙ ap (λ n. get_or xs i d ∷ drop n xs) (add-one i)

-- Telling keeps the watermarks, their order and their numbers.
pub told_keeps : (ks : List Kept) → map kept_state (told_first ks) ≡ map kept_state ks
told_keeps [] = refl
told_keeps (k ∷ ks) = go k.untold (told_keeps ks)
  where
    go : (b : Bool) → map kept_state (told_first ks) ≡ map kept_state ks
        → map kept_state (elim b as (λ _. List Kept) [ true ↦ record k { untold = false } ∷ ks | false ↦ k ∷ told_first ks ]) ≡ kept_state k ∷ map kept_state ks
    go true rest = refl
    go false rest = ap (λ (xs : List MarkState). kept_state k ∷ xs) rest

pub told_numbered : (n : ℕ) (ks : List Kept) → AreNumbered n ks → AreNumbered n (told_first ks)
told_numbered n [] all = tt
told_numbered n (k ∷ ks) all = go k.untold (told_numbered (n + 1) ks all.1)
  where
    go : (b : Bool) → AreNumbered (n + 1) (told_first ks)
        → AreNumbered n (elim b as (λ _. List Kept) [ true ↦ record k { untold = false } ∷ ks | false ↦ k ∷ told_first ks ])
    go true rest = (all.0, all.1)
    go false rest = (all.0, rest)

pub told_length : (ks : List Kept) → length (told_first ks) ≡ length ks
told_length [] = refl
told_length (k ∷ ks) = go k.untold (told_length ks)
  where
    go : (b : Bool) → length (told_first ks) ≡ length ks
        → length (elim b as (λ _. List Kept) [ true ↦ record k { untold = false } ∷ ks | false ↦ k ∷ told_first ks ]) ≡ suc (length ks)
    go true rest = refl
    go false rest = ap suc rest

-- Where nothing is to be told there is no number, and else the first one goes.
pub none_untold : (ks : List Kept) → find (λ (k : Kept). k.untold) ks ≡ None → untold_marks ks ≡ []
none_untold [] e = refl
none_untold (k ∷ ks) e = go k.untold (none_untold ks) e
  where
    go : (b : Bool) → (find (λ (k : Kept). k.untold) ks ≡ None → untold_marks ks ≡ []) → cond b (Some k) (find (λ (k : Kept). k.untold) ks) ≡ None
        → map (λ (k : Kept). k.mark) (cond b (k ∷ filter (λ k. k.untold) ks) (filter (λ k. k.untold) ks)) ≡ []
    go true rest e = absurd (cc)
    go false rest e = rest e

pub first_goes : (ks : List Kept) (k : Kept) → find (λ (k : Kept). k.untold) ks ≡ Some k → untold_marks ks ≡ k.mark ∷ untold_marks (told_first ks)
first_goes [] k e = absurd (cc)
first_goes (j ∷ ks) k e = go j.untold refl (first_goes ks k) e
  where
    go : (b : Bool) → j.untold ≡ b → (find (λ (k : Kept). k.untold) ks ≡ Some k → untold_marks ks ≡ k.mark ∷ untold_marks (told_first ks))
        → cond b (Some j) (find (λ (k : Kept). k.untold) ks) ≡ Some k
        → map (λ (k : Kept). k.mark) (cond b (j ∷ filter (λ k. k.untold) ks) (filter (λ k. k.untold) ks))
        ≡ k.mark ∷ untold_marks (elim b as (λ _. List Kept) [ true ↦ record j { untold = false } ∷ ks | false ↦ j ∷ told_first ks ])
    go true is rest e = ap (λ (x : Kept). x.mark ∷ untold_marks ks) (let same : j ≡ k = cc in same)
    go false is rest e = rest e ∙ ap (λ xs. k.mark ∷ xs) (not_told j (told_first ks) is)
      where
        not_told : (j : Kept) (xs : List Kept) → j.untold ≡ false → untold_marks xs ≡ untold_marks (j ∷ xs)
        not_told j xs e = ap (λ b. map (λ (k : Kept). k.mark) (cond b (j ∷ filter (λ k. k.untold) xs) (filter (λ k. k.untold) xs))) (sym e)

-- what is found by a test has its own number, and is found by it
number_from : (test : Kept → Bool) (n : ℕ) (ks : List Kept) (k : Kept) → AreNumbered n ks → find test ks ≡ Some k → n ≤ k.mark
number_from test n [] k all e = absurd (cc)
number_from test n (j ∷ ks) k all e = go (test j) (number_from test (n + 1) ks k all.1) e
  where
    go : (b : Bool) → (find test ks ≡ Some k → n + 1 ≤ k.mark) → cond b (Some j) (find test ks) ≡ Some k → n ≤ k.mark
    go true rest e = let same : j ≡ k = cc in let m = ap (λ (x : Kept). x.mark) same in let is : j.mark ≡ n = all.0 in omega (arith, m, is)
    go false rest e = let le = rest e in omega (arith, le)

pub found_by_number : (test : Kept → Bool) (n : ℕ) (ks : List Kept) (k : Kept) → AreNumbered n ks → find test ks ≡ Some k
    → find (λ (j : Kept). j.mark == k.mark) ks ≡ Some k
found_by_number test n [] k all e = absurd (cc)
found_by_number test n (j ∷ ks) k all e = go (test j) (number_from test (n + 1) ks k all.1) (found_by_number test (n + 1) ks k all.1) e
  where
    here : (b : Bool) → b ≡ true → (rest : Option Kept) → cond b (Some j) rest ≡ Some j
    here true e rest = refl
    here false e rest = absurd (cc)

    there : (b : Bool) → b ≡ false → (rest : Option Kept) → cond b (Some j) rest ≡ rest
    there true e rest = absurd (cc)
    there false e rest = refl

    go : (b : Bool) → (find test ks ≡ Some k → n + 1 ≤ k.mark) → (find test ks ≡ Some k → find (λ (j : Kept). j.mark == k.mark) ks ≡ Some k)
        → cond b (Some j) (find test ks) ≡ Some k
        → cond (j.mark == k.mark) (Some j) (find (λ (j : Kept). j.mark == k.mark) ks) ≡ Some k
    go true above rest e = let same : j ≡ k = cc in here (j.mark == k.mark) (eq-eqb j.mark k.mark (ap (λ (x : Kept). x.mark) same)) _ ∙ ap Some same
    go false above rest e =
        let le = above e in let is : j.mark ≡ n = all.0 in
        there (j.mark == k.mark) (ne_eqb j.mark k.mark (λ same. omega (arith, le, is))) _ ∙ rest e

-- where nothing is to be told, telling changes nothing
pub first_stays : (ks : List Kept) → find (λ (k : Kept). k.untold) ks ≡ None → told_first ks ≡ ks
first_stays [] e = refl
first_stays (k ∷ ks) e = go k.untold (first_stays ks) e
  where
    go : (b : Bool) → (find (λ (k : Kept). k.untold) ks ≡ None → told_first ks ≡ ks) → cond b (Some k) (find (λ (k : Kept). k.untold) ks) ≡ None
        → elim b as (λ _. List Kept) [ true ↦ record k { untold = false } ∷ ks | false ↦ k ∷ told_first ks ] ≡ k ∷ ks
    go true rest e = absurd (cc)
    go false rest e = ap (λ (xs : List Kept). k ∷ xs) (rest e)
