-- Numbered commands, how many there are, and a function that is changed at one place.
use Rattle.std.proofs.Common.{◌≡◌, ◌≢◌, ℕ, zero, suc, ◌+◌, ◌*◌, ◌<◌, ◌≤◌, true, false, cond, eqb, List, [], ◌∷◌, ◌++◌, length, take, sym, refl, ap, ◌∙◌, subst, zero-le, add-zero, suc-mul, eq-eqb, ne_eqb, arith}
use mathlib.Core.Logic.{dite}
use native.Mathlib.Decide.{ℕ_discrete}
use Rattle.std.proofs.lemmas.List.Elements.{filter-append}
use Rattle.producer_gate.specs.declared.command.Submitted.{Submitted}
use Rattle.producer_gate.specs.Commands.{of_producer, numbered}
use Rattle.producer_gate.specs.Ring.{total}

abbrev pub command : ℕ → ℕ → ℕ → Submitted
command p n item = record { producer = p; number = n; item = item }

pub numbered-append : (p n : ℕ) (xs ys : List ℕ) → numbered p n (xs ++ ys) ≡ numbered p n xs ++ numbered p (n + length xs) ys
numbered-append p n [] ys = ap (λ (k : ℕ). numbered p k ys) (sym (add-zero n))
numbered-append p n (x ∷ xs) ys =
    let e : (n + 1) + length xs ≡ n + length (x ∷ xs) = omega arith in
    ap (λ (l : List Submitted). command p n x ∷ l) (numbered-append p (n + 1) xs ys ∙ ap (λ (k : ℕ). numbered p (n + 1) xs ++ numbered p k ys) e)

-- a beginning of numbered commands is the numbered beginning
pub front : (p n : ℕ) (xs ys : List Submitted) (items : List ℕ) → xs ++ ys ≡ numbered p n items → (length xs ≤ length items) × (xs ≡ numbered p n (take (length xs) items))
front p n [] ys items e = (zero-le, refl)
front p n (x ∷ xs) ys [] e = absurd (cc)
front p n (x ∷ xs) ys (i ∷ is) e =
    let h : x ≡ command p n i = cc in
    let t : xs ++ ys ≡ numbered p (n + 1) is = cc in
    let r = front p (n + 1) xs ys is t in
    (omega (arith, r.0), λ j. h j ∷ r.1 j)

-- the command behind such a beginning has the next number, and there is an item for it
pub next : (p n : ℕ) (xs : List Submitted) (x : Submitted) (ys : List Submitted) (items : List ℕ) → xs ++ x ∷ ys ≡ numbered p n items → (x.number ≡ n + length xs) × (length xs < length items)
next p n [] x ys [] e = absurd (cc)
next p n [] x ys (i ∷ is) e =
    let h : x ≡ command p n i = cc in
    (ap (λ (c : Submitted). c.number) h ∙ sym (add-zero n), omega arith)
next p n (y ∷ xs) x ys [] e = absurd (cc)
next p n (y ∷ xs) x ys (i ∷ is) e =
    let t : xs ++ x ∷ ys ≡ numbered p (n + 1) is = cc in
    let r = next p (n + 1) xs x ys is t in
    (omega (arith, r.0), omega (arith, r.1))

pub of_here : (p : ℕ) (c : Submitted) (cs : List Submitted) → c.producer ≡ p → of_producer p (c ∷ cs) ≡ c ∷ of_producer p cs
of_here p c cs e = ap (λ b. cond b (c ∷ of_producer p cs) (of_producer p cs)) (eq-eqb c.producer p e)

pub of_else : (p : ℕ) (c : Submitted) (cs : List Submitted) → c.producer ≢ p → of_producer p (c ∷ cs) ≡ of_producer p cs
of_else p c cs e = ap (λ b. cond b (c ∷ of_producer p cs) (of_producer p cs)) (ne_eqb c.producer p e)

pub of_both : (p : ℕ) (xs ys : List Submitted) → of_producer p (xs ++ ys) ≡ of_producer p xs ++ of_producer p ys
of_both p xs ys = filter-append (λ (c : Submitted). eqb c.producer p) xs ys

-- f, with a at p
abbrev pub changed : {A : Type 0} → (ℕ → A) → ℕ → A → ℕ → A
changed f p a k = cond (eqb k p) a (f k)

pub changed_here : {A : Type 0} (f : ℕ → A) (p : ℕ) (a : A) → changed f p a p ≡ a
changed_here f p a = ap (λ b. cond b a (f p)) (eq-eqb p p refl)

pub changed_else : {A : Type 0} (f : ℕ → A) (p : ℕ) (a : A) (k : ℕ) → k ≢ p → changed f p a k ≡ f k
changed_else f p a k ne = ap (λ b. cond b a (f k)) (ne_eqb k p ne)

-- what holds of a, and of f everywhere, holds of the changed f everywhere
pub changed_all : {A : Type 0} (P : A → Type 0) (f : ℕ → A) (p : ℕ) (a : A) → P a → ((k : ℕ) → P (f k)) → (k : ℕ) → P (changed f p a k)
changed_all P f p a here all k = elim (eqb k p) as (λ b. P (cond b a (f k))) [ true ↦ here | false ↦ all k ]

total-same : (f g : ℕ → List ℕ) (n : ℕ) → ((k : ℕ) → k ≤ n → length (g k) ≡ length (f k)) → total g n ≡ total f n
total-same f g zero h = refl
total-same f g (suc n) h =
    let r : total g n ≡ total f n = total-same f g n (λ k le. h k (omega arith)) in
    let e = h (suc n) (omega arith) in
    omega (arith, r, e)

-- one command more of one producer is one more of all
pub total-one : (f g : ℕ → List ℕ) (n p : ℕ) → 0 < p → p ≤ n → length (g p) ≡ length (f p) + 1 → ((k : ℕ) → k ≢ p → length (g k) ≡ length (f k)) → total g n ≡ total f n + 1
total-one f g zero p some_p le here else_ = absurd (omega arith)
total-one f g (suc n) p some_p le here else_ =
    dite (ℕ_discrete (suc n) p)
    (λ e.
    let r : total g n ≡ total f n = total-same f g n (λ k low. else_ k (λ same. absurd (omega arith))) in
    let h : length (g (suc n)) ≡ length (f (suc n)) + 1 = subst (λ (k : ℕ). length (g k) ≡ length (f k) + 1) (sym e) here in
    omega (arith, r, h))
    (λ ne.
    let r : total g n ≡ total f n + 1 = total-one f g n p some_p (omega arith) here else_ in
    let h = else_ (suc n) ne in
    omega (arith, r, h))

pub total-bound : (f : ℕ → List ℕ) (n m : ℕ) → ((k : ℕ) → length (f k) ≤ m) → total f n ≤ n * m
total-bound f zero m h = zero-le
total-bound f (suc n) m h =
    let r = total-bound f n m h in
    let e = h (suc n) in
    omega (arith, r, e, suc-mul n m)
