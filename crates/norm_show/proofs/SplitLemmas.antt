-- The lines of a text that comes in pieces.
use Rattle.std.proofs.Common.{◌≡◌, ℕ, Bool, true, false, cond, nat_eq, List, [], ◌∷◌, ◌++◌, Option, Some, None, refl, ap, eqb-true}
use Rattle.std.specs.Option.{option_map}
use Rattle.norm_script.specs.Text.{split_at_first, text_lines, onto_first}

-- a list without a line feed
pub record NoFeed (x : ℕ) (xs : List ℕ) : Type 0 where
  pub here : nat_eq x 10 ≡ false
  pub behind : split_at_first 10 xs ≡ None

-- how a text is cut at its first line feed
abbrev at_feed : List ℕ → Option (List ℕ × List ℕ)
at_feed xs = Some ([], xs)

abbrev onto_front : ℕ → List ℕ × List ℕ → List ℕ × List ℕ
onto_front x p = (x ∷ p.0, p.1)

none_of : (x : ℕ) (xs : List ℕ) (b : Bool) → nat_eq x 10 ≡ b → cond b (at_feed xs) (option_map (onto_front x) (split_at_first 10 xs)) ≡ None → NoFeed x xs
none_of x xs true e none = absurd cc
none_of x xs false e none =
    elim (split_at_first 10 xs) as (λ o. option_map (onto_front x) o ≡ None → split_at_first 10 xs ≡ o → NoFeed x xs) [
      | None ↦ λ h same. record { here = e; behind = same }
      | Some p ↦ λ h same. absurd cc
    ] none refl

pub no_feed : (x : ℕ) (xs : List ℕ) → split_at_first 10 (x ∷ xs) ≡ None → NoFeed x xs
no_feed x xs none = none_of x xs (nat_eq x 10) refl none

pub none-append : (xs ys : List ℕ) → split_at_first 10 xs ≡ None → split_at_first 10 ys ≡ None → split_at_first 10 (xs ++ ys) ≡ None
none-append [] ys none more = more
none-append (x ∷ xs) ys none more =
    let n = no_feed x xs none in
    rw n.here (ap (option_map (onto_front x)) (none-append xs ys n.behind more))

-- a line that ends
pub line_ends : (xs more : List ℕ) → split_at_first 10 xs ≡ None → text_lines (xs ++ 10 ∷ more) ≡ xs ∷ text_lines more
line_ends [] more none = refl
line_ends (x ∷ xs) more none =
    let n = no_feed x xs none in
    rw n.here (ap (onto_first false x) (line_ends xs more n.behind))

-- a line goes on with what follows it
pub record GoesOn (x : ℕ) (xs : List ℕ) (lines : List (List ℕ)) : Type 0 where
  pub tail : List ℕ
  pub others : List (List ℕ)
  pub is : lines ≡ (x ∷ (xs ++ tail)) ∷ others

onto : (x : ℕ) (lines : List (List ℕ)) → GoesOn x [] (onto_first false x lines)
onto x [] = record { tail = []; others = []; is = refl }
onto x (line ∷ lines) = record { tail = line; others = lines; is = refl }

pub goes_on_with : (x : ℕ) (xs more : List ℕ) → split_at_first 10 (x ∷ xs) ≡ None → GoesOn x xs (text_lines ((x ∷ xs) ++ more))
goes_on_with x [] more none =
    let n = no_feed x [] none in
    rw n.here (onto x (text_lines more))
goes_on_with x (y ∷ ys) more none =
    let n = no_feed x (y ∷ ys) none in
    let rest = goes_on_with y ys more n.behind in
    rw n.here (record { tail = rest.tail; others = rest.others; is = ap (onto_first false x) rest.is })

-- the octets before the first line feed, and those after it
pub record Parts (xs front behind : List ℕ) : Type 0 where
  pub are : xs ≡ front ++ 10 ∷ behind
  pub none : split_at_first 10 front ≡ None

some_of : (x : ℕ) (xs front behind : List ℕ) (b : Bool) (o : Option (List ℕ × List ℕ)) → nat_eq x 10 ≡ b → split_at_first 10 xs ≡ o
    → ((f g : List ℕ) → o ≡ Some (f, g) → Parts xs f g)
    → cond b (at_feed xs) (option_map (onto_front x) o) ≡ Some (front, behind) → Parts (x ∷ xs) front behind
some_of x xs front behind true o e is rest some =
    let same : ([], xs) ≡ (front, behind) = cc in
    let first : [] ≡ front = ap (λ (p : List ℕ × List ℕ). p.0) same in
    let second : xs ≡ behind = ap (λ (p : List ℕ × List ℕ). p.1) same in
    let ten : x ≡ 10 = eqb-true x 10 e in
    rw (← first, ← second, ten) (record { are = refl; none = refl })
some_of x xs front behind false None e is rest some = absurd cc
some_of x xs front behind false (Some p) e is rest some =
    let same : (x ∷ p.0, p.1) ≡ (front, behind) = cc in
    let first : x ∷ p.0 ≡ front = ap (λ (q : List ℕ × List ℕ). q.0) same in
    let second : p.1 ≡ behind = ap (λ (q : List ℕ × List ℕ). q.1) same in
    let parts = rest p.0 p.1 refl in
    rw (← first, ← second) (record { are = ap (λ (t : List ℕ). x ∷ t) parts.are; none = rw (e, parts.none) refl })

pub split_parts : (xs front behind : List ℕ) → split_at_first 10 xs ≡ Some (front, behind) → Parts xs front behind
split_parts [] front behind some = absurd cc
split_parts (x ∷ xs) front behind some =
    some_of x xs front behind (nat_eq x 10) (split_at_first 10 xs) refl refl (λ f g e. split_parts xs f g e) some
