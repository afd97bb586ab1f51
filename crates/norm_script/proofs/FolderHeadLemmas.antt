-- How the head of a folder's input is read, line by line.
use Rattle.std.proofs.Common.{◌≡◌, ◌+◌, ◌≤◌, ℕ, List, ◌∷◌, refl, true, false, ltb, ltb-false}
use Rattle.std.specs.Prelude.{is_some, unwrap_or}
use Rattle.norm_script.specs.Folder.{folder_head_line, folder_head_from}
use Rattle.norm_script.specs.Head.{Head}
use Rattle.norm_script.proofs.ReadingLemmas.{none_told, some_told}

-- a head ends before this line
pub folder_head-ends : (h after : Head) (n : ℕ) (line : List ℕ) (lines rest : List (List ℕ)) → rest ≡ line ∷ lines
    → is_some (folder_head_line h n line) ≡ false → after ≡ unwrap_or (folder_head_line h n line) h
    → folder_head_from h n rest ≡ record { head = after; next = n; rest = rest }
folder_head-ends h after n line lines rest whole over is =
    let none = none_told (folder_head_line h n line) over in
    let same : after ≡ h = rw none at is in
    rw (whole, none, same) refl

-- any other line belongs to the head
pub folder_head-goes_on : (h after : Head) (n : ℕ) (line : List ℕ) (lines rest : List (List ℕ)) → rest ≡ line ∷ lines
    → is_some (folder_head_line h n line) ≡ true → after ≡ unwrap_or (folder_head_line h n line) h
    → folder_head_from h n rest ≡ folder_head_from after (n + 1) lines
folder_head-goes_on h after n line lines rest whole on is = rw (whole, some_told (folder_head_line h n line) h on, is) refl

pub number_in_folder_head : (h : Head) (n : ℕ) (line : List ℕ) → is_some (folder_head_line h n line) ≡ true → n ≤ 8192
number_in_folder_head h n line on =
    elim (ltb 8192 n) as (λ b. ltb 8192 n ≡ b → n ≤ 8192) [
      | true ↦ λ e. let over = rw e at on in absurd (cc)
      | false ↦ λ e. ltb-false 8192 n e
    ] refl
