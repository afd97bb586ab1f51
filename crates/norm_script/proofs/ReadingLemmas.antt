-- How a head is read, line by line.
use Rattle.std.proofs.Common.{◌≡◌, ◌+◌, ◌≤◌, ℕ, List, ◌∷◌, Option, Some, None, refl, true, false, ltb, ltb-false}
use Rattle.std.specs.Prelude.{is_some, unwrap_or}
use Rattle.norm_script.specs.Head.{Head, head_line, head_from}

pub none_told : {X : Type 0} → (o : Option X) → is_some o ≡ false → o ≡ None
none_told None h = refl
none_told (Some x) h = absurd (cc)

pub some_told : {X : Type 0} → (o : Option X) (d : X) → is_some o ≡ true → o ≡ Some (unwrap_or o d)
some_told None d h = absurd (cc)
some_told (Some x) d h = refl

-- a head ends before this line
pub head-ends : (h after : Head) (n : ℕ) (line : List ℕ) (lines rest : List (List ℕ)) → rest ≡ line ∷ lines
    → is_some (head_line h n line) ≡ false → after ≡ unwrap_or (head_line h n line) h
    → head_from h n rest ≡ record { head = after; next = n; rest = rest }
head-ends h after n line lines rest whole over is =
    let none = none_told (head_line h n line) over in
    let same : after ≡ h = rw none at is in
    rw (whole, none, same) refl

-- any other line belongs to the head
pub head-goes_on : (h after : Head) (n : ℕ) (line : List ℕ) (lines rest : List (List ℕ)) → rest ≡ line ∷ lines
    → is_some (head_line h n line) ≡ true → after ≡ unwrap_or (head_line h n line) h
    → head_from h n rest ≡ head_from after (n + 1) lines
head-goes_on h after n line lines rest whole on is = rw (whole, some_told (head_line h n line) h on, is) refl

pub number_in_head : (h : Head) (n : ℕ) (line : List ℕ) → is_some (head_line h n line) ≡ true → n ≤ 8192
number_in_head h n line on =
    elim (ltb 8192 n) as (λ b. ltb 8192 n ≡ b → n ≤ 8192) [
      | true ↦ λ e. let over = rw e at on in absurd (cc)
      | false ↦ λ e. ltb-false 8192 n e
    ] refl
