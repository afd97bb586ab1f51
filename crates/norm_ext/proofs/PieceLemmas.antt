-- Lists of pieces: the pieces put together again are the list, and a list put together of pieces has these.
use Rattle.std.proofs.Common.{◌≡◌, ℕ, zero, suc, ◌+◌, ◌-◌, ◌<◌, ◌≤◌, List, [], ◌∷◌, ◌++◌, length, get_or, take, drop, Result, Ok, Err, refl, sym, ap, ◌∙◌, arith, add-zero, length-append, inl, inr}
use Rattle.std.specs.List.{AllByRecursion}
use Rattle.std.specs.List.{flat_map}
use Rattle.std.proofs.lemmas.List.{drop_at, take-append-drop, get_or-drop, get_or-take, get_or_past, length-take}
use Rattle.std.proofs.lemmas.Bool.{cases_lt}
use Rattle.norm_base.specs.Octets.{AreOctets}
use Rattle.norm_ext.specs.Pieces.{pieces_behind, checked_then, checked_behind}

pub octets-drop : (n : ℕ) (octets : List ℕ) → AreOctets octets → AreOctets (drop n octets)
octets-drop n octets h i = rw get_or-drop (h (n + i))

pub octets-take : (n : ℕ) (octets : List ℕ) → AreOctets octets → AreOctets (take n octets)
octets-take n octets h i =
    elim (cases_lt i n) [
      | inl lt ↦ rw (get_or-take n octets i 0 lt) (h i)
      | inr le ↦ rw (get_or_past (take n octets) i 0 (omega (arith, length-take n octets))) (omega arith)
    ]

pub behind_drop : {A : Type 0} (first : List ℕ → A) (len : List ℕ → ℕ) (skip : ℕ) (xs : List ℕ) → pieces_behind first len skip xs ≡ pieces_behind first len 0 (drop skip xs)
behind_drop first len zero xs = refl
behind_drop first len (suc skip) [] = refl
behind_drop first len (suc skip) (x ∷ xs) = behind_drop first len skip xs

pub checked_drop : {E : Type 0} (check : ℕ → List ℕ → Result (Unit {0}) E) (len : List ℕ → ℕ) (at skip : ℕ) (xs : List ℕ) → skip ≤ length xs → checked_behind check len at skip xs ≡ checked_behind check len (at + skip) 0 (drop skip xs)
checked_drop check len at zero xs h = rw add-zero refl
checked_drop check len at (suc skip) [] h = absurd (omega arith)
checked_drop check len at (suc skip) (x ∷ xs) h =
    checked_drop check len (suc at) skip xs (omega arith) ∙ ap (λ (n : ℕ). checked_behind check len n 0 (drop skip xs)) (let e : suc at + skip ≡ at + suc skip = omega arith in e)

-- the tests of two parts
pub both_checked : {E : Type 0} (a b : Result (Unit {0}) E) → checked_then a b ≡ Ok tt → (a ≡ Ok tt) × (b ≡ Ok tt)
both_checked (Ok x) b e = (refl, e)
both_checked (Err f) b e = absurd cc

pub first_checked : {E : Type 0} (a b : Result (Unit {0}) E) → a ≡ Ok tt → checked_then a b ≡ b
first_checked (Ok x) b e = refl
first_checked (Err f) b e = absurd cc

pub first_failed : {E : Type 0} (a b : Result (Unit {0}) E) (f : E) → a ≡ Err f → checked_then a b ≡ Err f
first_failed (Ok x) b f e = absurd cc
first_failed (Err g) b f e = cc

-- What a kind of piece has to say: its octets, which of them can be spelled, the piece at the front and its length,
-- and what is looked at there.
pub record IsKind {A E : Type 0} (octets_of : A → List ℕ) (Fits : A → Type 0) (first : List ℕ → A) (len : List ℕ → ℕ) (check : ℕ → List ℕ → Result (Unit {0}) E) : Type 0 where
  pub some : (at : ℕ) (xs : List ℕ) → check at xs ≡ Ok tt → 0 < len xs
  pub within : (at : ℕ) (xs : List ℕ) → check at xs ≡ Ok tt → len xs ≤ length xs
  pub anywhere : (at other : ℕ) (xs : List ℕ) → check at xs ≡ Ok tt → check other xs ≡ Ok tt
  pub spelled : (at : ℕ) (xs : List ℕ) → AreOctets xs → check at xs ≡ Ok tt → octets_of (first xs) ≡ take (len xs) xs
  pub fits : (at : ℕ) (xs : List ℕ) → AreOctets xs → check at xs ≡ Ok tt → Fits (first xs)
  pub again_some : (a : A) → Fits a → 0 < length (octets_of a)
  pub again_len : (a : A) (rest : List ℕ) → Fits a → len (octets_of a ++ rest) ≡ length (octets_of a)
  pub again_first : (a : A) (rest : List ℕ) → Fits a → first (octets_of a ++ rest) ≡ a
  pub again_checked : (a : A) (rest : List ℕ) (at : ℕ) → Fits a → check at (octets_of a ++ rest) ≡ Ok tt

pub drop_pred : (n : ℕ) (x : ℕ) (xs : List ℕ) → 0 < n → drop (n - 1) xs ≡ drop n (x ∷ xs)
drop_pred zero x xs h = absurd (omega arith)
drop_pred (suc n) x xs h = let e : suc n - 1 ≡ n = omega arith in rw e refl

-- the first piece of a list, and the others
pub unroll : {A : Type 0} (first : List ℕ → A) (len : List ℕ → ℕ) (xs : List ℕ) → 0 < length xs → 0 < len xs → pieces_behind first len 0 xs ≡ first xs ∷ pieces_behind first len 0 (drop (len xs) xs)
unroll first len [] some long = absurd (omega arith)
unroll first len (x ∷ xs) some long =
    ap (λ (p : List _). first (x ∷ xs) ∷ p) (behind_drop first len (len (x ∷ xs) - 1) xs ∙ ap (pieces_behind first len 0) (drop_pred (len (x ∷ xs)) x xs long))

pub unroll_checked : {E : Type 0} (check : ℕ → List ℕ → Result (Unit {0}) E) (len : List ℕ → ℕ) (at : ℕ) (xs : List ℕ) → 0 < length xs → 0 < len xs → len xs ≤ length xs
    → checked_behind check len at 0 xs ≡ checked_then (check at xs) (checked_behind check len (at + len xs) 0 (drop (len xs) xs))
unroll_checked check len at [] some long within = absurd (omega arith)
unroll_checked check len at (x ∷ xs) some long within =
    let e : suc at + (len (x ∷ xs) - 1) ≡ at + len (x ∷ xs) = omega arith in
    ap (checked_then (check at (x ∷ xs)))
    (checked_drop check len (suc at) (len (x ∷ xs) - 1) xs (omega arith)
    ∙ rw (e, drop_pred (len (x ∷ xs)) x xs long) refl)

-- a list in which nothing is wrong
pub ok_first : {E : Type 0} (check : ℕ → List ℕ → Result (Unit {0}) E) (len : List ℕ → ℕ) (at : ℕ) (xs : List ℕ) → 0 < length xs → checked_behind check len at 0 xs ≡ Ok tt → check at xs ≡ Ok tt
ok_first check len at [] some ok = absurd (omega arith)
ok_first check len at (x ∷ xs) some ok = (both_checked (check at (x ∷ xs)) (checked_behind check len (suc at) (len (x ∷ xs) - 1) xs) ok).0

pub ok_anywhere : {A E : Type 0} {octets_of : A → List ℕ} {Fits : A → Type 0} {first : List ℕ → A} (len : List ℕ → ℕ) (check : ℕ → List ℕ → Result (Unit {0}) E) (kind : IsKind octets_of Fits first len check) (at other skip : ℕ) (xs : List ℕ)
    → checked_behind check len at skip xs ≡ Ok tt → checked_behind check len other skip xs ≡ Ok tt
ok_anywhere len check kind at other skip [] ok = refl
ok_anywhere len check kind at other zero (x ∷ xs) ok =
    let both = both_checked (check at (x ∷ xs)) (checked_behind check len (suc at) (len (x ∷ xs) - 1) xs) ok in
    first_checked (check other (x ∷ xs)) (checked_behind check len (suc other) (len (x ∷ xs) - 1) xs) (kind.anywhere at other (x ∷ xs) both.0)
    ∙ ok_anywhere len check kind (suc at) (suc other) (len (x ∷ xs) - 1) xs both.1
ok_anywhere len check kind at other (suc skip) (x ∷ xs) ok = ok_anywhere len check kind (suc at) (suc other) skip xs ok

-- what is left behind the first piece
pub ok_rest : {A E : Type 0} {octets_of : A → List ℕ} {Fits : A → Type 0} {first : List ℕ → A} (len : List ℕ → ℕ) (check : ℕ → List ℕ → Result (Unit {0}) E) (kind : IsKind octets_of Fits first len check) (at other : ℕ) (xs : List ℕ)
    → 0 < length xs → checked_behind check len at 0 xs ≡ Ok tt → checked_behind check len other 0 (drop (len xs) xs) ≡ Ok tt
ok_rest len check kind at other xs some ok =
    let here = ok_first check len at xs some ok in
    let both = both_checked (check at xs) (checked_behind check len (at + len xs) 0 (drop (len xs) xs)) (sym (unroll_checked check len at xs some (kind.some at xs here) (kind.within at xs here)) ∙ ok) in
    ok_anywhere len check kind (at + len xs) other 0 (drop (len xs) xs) both.1

-- the pieces put together again are the list
pub together : {A E : Type 0} (octets_of : A → List ℕ) {Fits : A → Type 0} (first : List ℕ → A) (len : List ℕ → ℕ) (check : ℕ → List ℕ → Result (Unit {0}) E) (kind : IsKind octets_of Fits first len check) (at skip : ℕ) (xs : List ℕ)
    → AreOctets xs → skip ≤ length xs → checked_behind check len at skip xs ≡ Ok tt → flat_map octets_of (pieces_behind first len skip xs) ≡ drop skip xs
together octets_of first len check kind at zero [] fits h ok = refl
together octets_of first len check kind at (suc skip) [] fits h ok = refl
together octets_of first len check kind at zero (x ∷ xs) fits h ok =
    let both = both_checked (check at (x ∷ xs)) (checked_behind check len (suc at) (len (x ∷ xs) - 1) xs) ok in
    let long = kind.some at (x ∷ xs) both.0 in
    let within = kind.within at (x ∷ xs) both.0 in
    let front = kind.spelled at (x ∷ xs) fits both.0 in
    let rest = together octets_of first len check kind (suc at) (len (x ∷ xs) - 1) xs (λ i. fits (suc i)) (omega arith) both.1 in
    rw (front, rest, drop_pred (len (x ∷ xs)) x xs long) (take-append-drop (len (x ∷ xs)) (x ∷ xs))
together octets_of first len check kind at (suc skip) (x ∷ xs) fits h ok =
    together octets_of first len check kind (suc at) skip xs (λ i. fits (suc i)) (omega arith) ok

-- each of them can be spelled
pub all_fit : {A E : Type 0} {octets_of : A → List ℕ} (Fits : A → Type 0) (first : List ℕ → A) (len : List ℕ → ℕ) (check : ℕ → List ℕ → Result (Unit {0}) E) (kind : IsKind octets_of Fits first len check) (at skip : ℕ) (xs : List ℕ)
    → AreOctets xs → checked_behind check len at skip xs ≡ Ok tt → AllByRecursion Fits (pieces_behind first len skip xs)
all_fit Fits first len check kind at zero [] fits ok = tt
all_fit Fits first len check kind at (suc skip) [] fits ok = tt
all_fit Fits first len check kind at zero (x ∷ xs) fits ok =
    let both = both_checked (check at (x ∷ xs)) (checked_behind check len (suc at) (len (x ∷ xs) - 1) xs) ok in
    (kind.fits at (x ∷ xs) fits both.0, all_fit Fits first len check kind (suc at) (len (x ∷ xs) - 1) xs (λ i. fits (suc i)) both.1)
all_fit Fits first len check kind at (suc skip) (x ∷ xs) fits ok = all_fit Fits first len check kind (suc at) skip xs (λ i. fits (suc i)) ok

-- a list put together of pieces has these
pub pieces_again : {A E : Type 0} (octets_of : A → List ℕ) (Fits : A → Type 0) (first : List ℕ → A) (len : List ℕ → ℕ) (check : ℕ → List ℕ → Result (Unit {0}) E) (kind : IsKind octets_of Fits first len check) (list : List A)
    → AllByRecursion Fits list → pieces_behind first len 0 (flat_map octets_of list) ≡ list
pieces_again octets_of Fits first len check kind [] all = refl
pieces_again octets_of Fits first len check kind (a ∷ more) all =
    let rest : List ℕ = flat_map octets_of more in
    let long = kind.again_some a all.0 in
    let len-is = kind.again_len a rest all.0 in
    unroll first len (octets_of a ++ rest) (omega (arith, length-append (octets_of a) rest)) (omega arith)
    ∙ rw (kind.again_first a rest all.0, len-is, drop_at (octets_of a) rest (length (octets_of a)) refl) (ap (λ (p : List _). a ∷ p) (pieces_again octets_of Fits first len check kind more all.1))

pub checked_again : {A E : Type 0} (octets_of : A → List ℕ) (Fits : A → Type 0) (first : List ℕ → A) (len : List ℕ → ℕ) (check : ℕ → List ℕ → Result (Unit {0}) E) (kind : IsKind octets_of Fits first len check) (at : ℕ) (list : List A)
    → AllByRecursion Fits list → checked_behind check len at 0 (flat_map octets_of list) ≡ Ok tt
checked_again octets_of Fits first len check kind at [] all = refl
checked_again octets_of Fits first len check kind at (a ∷ more) all =
    let rest : List ℕ = flat_map octets_of more in
    let long = kind.again_some a all.0 in
    let len-is = kind.again_len a rest all.0 in
    unroll_checked check len at (octets_of a ++ rest) (omega (arith, length-append (octets_of a) rest)) (omega arith) (omega (arith, length-append (octets_of a) rest))
    ∙ first_checked (check at (octets_of a ++ rest)) _ (kind.again_checked a rest at all.0)
    ∙ rw (len-is, drop_at (octets_of a) rest (length (octets_of a)) refl) (checked_again octets_of Fits first len check kind (at + length (octets_of a)) more all.1)
