use Rattle.std.proofs.Common.{◌≡◌, ◌≤◌, ◌<◌, ◌∙◌, ℕ, List, [], ◌∷◌, length, Option, Some, None, refl, true, false, nat_eq, ap, sym, arith}
use Rattle.std.specs.Option.{option_map}
use Rattle.norm_script.specs.Text.{split_at_first, text_lines, onto_first}

pub map_none : {X Y : Type 0} → (f : X → Y) (o : Option X) → option_map f o ≡ None → o ≡ None
map_none f None h = refl
map_none f (Some x) h = absurd (cc)

pub map_some : {X Y : Type 0} → (f : X → Y) (o : Option X) (y : Y) → option_map f o ≡ Some y → (x : X) × ((o ≡ Some x) × (f x ≡ y))
map_some f None y h = absurd (cc)
map_some f (Some x) y h = (x, (refl, cc))

-- a text with no line feed is one line
pub text_lines-none : (x : ℕ) (xs : List ℕ) → split_at_first 10 (x ∷ xs) ≡ None → text_lines (x ∷ xs) ≡ (x ∷ xs) ∷ []
text_lines-none x [] none =
    elim (nat_eq x 10) as (λ b. nat_eq x 10 ≡ b → text_lines (x ∷ []) ≡ (x ∷ []) ∷ []) [
      | true ↦ λ e. let no = rw e at none in absurd (cc)
      | false ↦ λ e. rw e refl
    ] refl
text_lines-none x (y ∷ ys) none =
    elim (nat_eq x 10) as (λ b. nat_eq x 10 ≡ b → text_lines (x ∷ y ∷ ys) ≡ (x ∷ y ∷ ys) ∷ []) [
      | true ↦ λ e. let no = rw e at none in absurd (cc)
      | false ↦ λ e.
          let no = rw e at none in
          rw e (ap (onto_first false x) (text_lines-none y ys (map_none (λ (p : List ℕ × List ℕ). (x ∷ p.0, p.1)) (split_at_first 10 (y ∷ ys)) no)))
    ] refl

-- a text begins with its first line
pub text_lines-some : (xs : List ℕ) (p : List ℕ × List ℕ) → split_at_first 10 xs ≡ Some p → text_lines xs ≡ p.0 ∷ text_lines p.1
text_lines-some [] p some = absurd (cc)
text_lines-some (x ∷ xs) p some =
    elim (nat_eq x 10) as (λ b. nat_eq x 10 ≡ b → text_lines (x ∷ xs) ≡ p.0 ∷ text_lines p.1) [
      | true ↦ λ e.
          let it : Some ([], xs) ≡ Some p = rw e at some in
          let same : ([], xs) ≡ p = cc in
          rw e (ap (λ (q : List ℕ × List ℕ). q.0 ∷ text_lines q.1) same)
      | false ↦ λ e.
          let it = rw e at some in
          let q = map_some (λ (p : List ℕ × List ℕ). (x ∷ p.0, p.1)) (split_at_first 10 xs) p it in
          rw e (ap (onto_first false x) (text_lines-some xs q.0 q.1.0) ∙ ap (λ (r : List ℕ × List ℕ). r.0 ∷ text_lines r.1) q.1.1)
    ] refl

-- what follows the separator is shorter
pub split_shorter : (xs : List ℕ) (p : List ℕ × List ℕ) → split_at_first 10 xs ≡ Some p → length p.1 < length xs
split_shorter [] p some = absurd (cc)
split_shorter (x ∷ xs) p some =
    elim (nat_eq x 10) as (λ b. nat_eq x 10 ≡ b → length p.1 < length (x ∷ xs)) [
      | true ↦ λ e.
          let it : Some ([], xs) ≡ Some p = rw e at some in
          let same : ([], xs) ≡ p = cc in
          let len : length p.1 ≡ length xs = ap (λ (q : List ℕ × List ℕ). length q.1) (sym same) in
          omega (arith, len)
      | false ↦ λ e.
          let it = rw e at some in
          let q = map_some (λ (p : List ℕ × List ℕ). (x ∷ p.0, p.1)) (split_at_first 10 xs) p it in
          let len : length q.0.1 ≡ length p.1 = ap (λ (r : List ℕ × List ℕ). length r.1) q.1.1 in
          omega (arith, len, split_shorter xs q.0 q.1.0)
    ] refl

pub text_whole : (xs : List ℕ) → 1 ≤ length xs → split_at_first 10 xs ≡ None → text_lines xs ≡ xs ∷ []
text_whole [] some none = absurd (omega arith)
text_whole (x ∷ xs) some none = text_lines-none x xs none
