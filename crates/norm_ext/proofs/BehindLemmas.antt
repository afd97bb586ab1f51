-- The first piece of a list that is wrong: behind which whole pieces it begins.
use Rattle.std.proofs.Common.{◌≡◌, ℕ, zero, suc, ◌+◌, ◌-◌, ◌<◌, ◌≤◌, List, [], ◌∷◌, ◌++◌, length, take, drop, Result, Ok, Err, refl, sym, ap, ◌∙◌, arith, length-append, append_assoc}
use Rattle.std.specs.List.{AllByRecursion, flat_map}
use Rattle.std.proofs.lemmas.List.{drop_at, take-append-drop, length-take}
use Rattle.norm_ext.specs.Pieces.{checked_then, checked_behind}
use Rattle.norm_base.specs.Octets.{AreOctets}
use Rattle.norm_ext.proofs.PieceLemmas.{IsKind, first_checked, first_failed, unroll_checked, drop_pred}

pub record Found {A E : Type 0} (octets_of : A → List ℕ) (Fits : A → Type 0) (check : ℕ → List ℕ → Result (Unit {0}) E) (from : ℕ) (list : List ℕ) (fault : E) : Type 0 where
  pub before : List A
  pub rest : List ℕ
  pub whole : AllByRecursion Fits before
  pub joined : list ≡ flat_map octets_of before ++ rest
  pub some : 0 < length rest
  pub at : ℕ
  pub place : at ≡ from + length (flat_map octets_of before)
  pub wrong : check at rest ≡ Err fault

err_same : {E : Type 0} (r : Result (Unit {0}) E) (f g : E) → r ≡ Err f → r ≡ Err g → f ≡ g
err_same r f g a b = cc

-- at the front, or behind the piece at the front
front_or_rest : {A E : Type 0} (octets_of : A → List ℕ) (Fits : A → Type 0) (first : List ℕ → A) (len : List ℕ → ℕ) (check : ℕ → List ℕ → Result (Unit {0}) E) (kind : IsKind octets_of Fits first len check)
    → (from : ℕ) (x : ℕ) (xs : List ℕ) (fault : E) → AreOctets (x ∷ xs) → (r : Result (Unit {0}) E) → check from (x ∷ xs) ≡ r
    → checked_then r (checked_behind check len (suc from) (len (x ∷ xs) - 1) xs) ≡ Err fault
    → (len (x ∷ xs) - 1 ≤ length xs → checked_behind check len (suc from) (len (x ∷ xs) - 1) xs ≡ Err fault → Found octets_of Fits check (suc from + (len (x ∷ xs) - 1)) (drop (len (x ∷ xs) - 1) xs) fault)
    → Found octets_of Fits check from (x ∷ xs) fault
front_or_rest octets_of Fits first len check kind from x xs fault fits (Err f) is e behind =
    record { before = []; rest = x ∷ xs; whole = tt; joined = refl; some = omega arith; at = from; place = omega arith; wrong = is ∙ e }
front_or_rest octets_of Fits first len check kind from x xs fault fits (Ok u) is e behind =
    let long = kind.some from (x ∷ xs) is in
    let within = kind.within from (x ∷ xs) is in
    let n : ℕ = len (x ∷ xs) in
    let f = behind (omega (arith, long, within)) e in
    let front = kind.spelled from (x ∷ xs) fits is in
    let size : length (octets_of (first (x ∷ xs))) ≡ n = ap length front ∙ omega (arith, length-take n (x ∷ xs), within) in
    record {
      before = first (x ∷ xs) ∷ f.before;
      rest = f.rest;
      whole = (kind.fits from (x ∷ xs) fits is, f.whole);
      joined =
          sym (take-append-drop n (x ∷ xs))
          ∙ ap (λ (t : List ℕ). take n (x ∷ xs) ++ t) (sym (drop_pred n x xs long) ∙ f.joined)
          ∙ ap (λ (t : List ℕ). t ++ (flat_map octets_of f.before ++ f.rest)) (sym front)
          ∙ sym (append_assoc (octets_of (first (x ∷ xs))) (flat_map octets_of f.before) f.rest);
      some = f.some;
      at = f.at;
      place = omega (arith, f.place, size, long, length-append (octets_of (first (x ∷ xs))) (flat_map octets_of f.before));
      wrong = f.wrong;
    }

pub found : {A E : Type 0} (octets_of : A → List ℕ) (Fits : A → Type 0) (first : List ℕ → A) (len : List ℕ → ℕ) (check : ℕ → List ℕ → Result (Unit {0}) E) (kind : IsKind octets_of Fits first len check)
    → (from skip : ℕ) (xs : List ℕ) (fault : E) → AreOctets xs → skip ≤ length xs → checked_behind check len from skip xs ≡ Err fault
    → Found octets_of Fits check (from + skip) (drop skip xs) fault
found octets_of Fits first len check kind from zero [] fault fits h e = absurd cc
found octets_of Fits first len check kind from (suc skip) [] fault fits h e = absurd cc
found octets_of Fits first len check kind from zero (x ∷ xs) fault fits h e =
    let start : from ≡ from + zero = omega arith in
    let f = front_or_rest octets_of Fits first len check kind from x xs fault fits (check from (x ∷ xs)) refl e
    (λ within behind. found octets_of Fits first len check kind (suc from) (len (x ∷ xs) - 1) xs fault (λ i. fits (suc i)) within behind) in
    record { before = f.before; rest = f.rest; whole = f.whole; joined = f.joined; some = f.some; at = f.at; place = omega (arith, f.place); wrong = f.wrong }
found octets_of Fits first len check kind from (suc skip) (x ∷ xs) fault fits h e =
    let f = found octets_of Fits first len check kind (suc from) skip xs fault (λ i. fits (suc i)) (omega arith) e in
    record { before = f.before; rest = f.rest; whole = f.whole; joined = f.joined; some = f.some; at = f.at; place = omega (arith, f.place); wrong = f.wrong }

-- what is wrong behind whole pieces is the first that is wrong
pub failed : {A E : Type 0} (octets_of : A → List ℕ) (Fits : A → Type 0) (first : List ℕ → A) (len : List ℕ → ℕ) (check : ℕ → List ℕ → Result (Unit {0}) E) (kind : IsKind octets_of Fits first len check)
    → (from : ℕ) (before : List A) (rest : List ℕ) (fault : E) (at : ℕ) → AllByRecursion Fits before → 0 < length rest → at ≡ from + length (flat_map octets_of before) → check at rest ≡ Err fault
    → checked_behind check len from 0 (flat_map octets_of before ++ rest) ≡ Err fault
failed octets_of Fits first len check kind from [] [] fault at whole some place wrong = absurd (omega arith)
failed octets_of Fits first len check kind from [] (y ∷ ys) fault at whole some place wrong =
    let here : at ≡ from = omega (arith, place) in
    first_failed (check from (y ∷ ys)) _ fault (ap (λ (n : ℕ). check n (y ∷ ys)) (sym here) ∙ wrong)
failed octets_of Fits first len check kind from (a ∷ more) rest fault at whole some place wrong =
    let tail : List ℕ = flat_map octets_of more ++ rest in
    let long = kind.again_some a whole.0 in
    let len-is = kind.again_len a tail whole.0 in
    let size = length-append (octets_of a) tail in
    let there : at ≡ from + length (octets_of a) + length (flat_map octets_of more) = omega (arith, place, length-append (octets_of a) (flat_map octets_of more)) in
    ap (checked_behind check len from 0) (append_assoc (octets_of a) (flat_map octets_of more) rest)
    ∙ unroll_checked check len from (octets_of a ++ tail) (omega (arith, size)) (omega arith) (omega (arith, size))
    ∙ first_checked (check from (octets_of a ++ tail)) _ (kind.again_checked a tail from whole.0)
    ∙ rw (len-is, drop_at (octets_of a) tail (length (octets_of a)) refl) (failed octets_of Fits first len check kind (from + length (octets_of a)) more rest fault at whole.1 some there wrong)
