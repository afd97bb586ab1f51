-- The instances that sends take.
use Rattle.std.proofs.Common.{◌≡◌, ◌<◌, ◌+◌, ◌^◌, ℕ, List, [], ◌∷◌, ◌++◌, length, true, false, Bool, refl, sym, ◌∙◌, ap, subst, arith}
use Rattle.std.specs.Prelude.{◌&&◌, nat_le, if◌then◌else◌, IsUtf8, Result, Ok}
use Rattle.std.specs.Fmt.{decimal}
use Rattle.std.specs.Str.Parse.{ParsesUnsigned}
use Rattle.std.proofs.lemmas.Fmt.{IsAscii-decimal, parse-decimal}
use Rattle.std.proofs.lemmas.List.{length-append, same_from_push}
use Rattle.std.proofs.lemmas.Str.{IsUtf8-from_ascii}
use Rattle.norm_ext.specs.InstanceIds.{rise, most_rise, is_above}
use Rattle.norm_host.specs.Instances.{id_after, number_line}
use Rattle.norm_host.specs.Laws.{NextIsAbove}

-- the id after another is one ahead of it, also where it goes round
one_ahead : (last : ℕ) → last < 65536 → rise last (id_after last) ≡ 1
one_ahead last fits = omega (arith, fits)

after_is_above : (last : ℕ) → last < 65536 → is_above last (id_after last) ≡ true
after_is_above last fits = ap (λ (n : ℕ). nat_le 1 n && nat_le n most_rise) (one_ahead last fits)

pub next_is_above : NextIsAbove
next_is_above last minute fits = go (is_above last minute) refl
  where
    go : (b : Bool) → is_above last minute ≡ b → is_above last (if b then minute else id_after last) ≡ true
    go true is = is
    go false is = after_is_above last fits

-- ---- the line that keeps a number

-- a line of a number ends with a line feed, and before it stand its digits
pub line_parts : (line digits : List ℕ) (end number : ℕ) → line ≡ digits ++ (end ∷ []) → line ≡ number_line number
    → (digits ≡ decimal number) × (end ≡ 10)
line_parts line digits end number parts is = same_from_push digits (decimal number) end 10 (sym parts ∙ is)

-- and so it is not empty
pub line_there : (line : List ℕ) (number : ℕ) → length line ≡ 0 → line ≡ number_line number → ⊥
line_there line number none is =
    let count : length (decimal number ++ (10 ∷ [])) ≡ length (decimal number) + 1 = length-append (decimal number) (10 ∷ []) in
    let same : length line ≡ length (decimal number ++ (10 ∷ [])) = ap length is in
    omega (arith, none, count, same)

-- digits are text
pub digits_are_text : (digits : List ℕ) (number : ℕ) → number < 2 ^ 16 → digits ≡ decimal number → IsUtf8 digits
digits_are_text digits number fits is = subst IsUtf8 (sym is) (IsUtf8-from_ascii (decimal number) (IsAscii-decimal number (omega (arith, fits))))

-- and are read as their number
pub digits_read : {E : Type 0} (digits : List ℕ) (number : ℕ) (found : Result ℕ E) → number < 2 ^ 16 → digits ≡ decimal number
    → ParsesUnsigned 16 10 digits found → found ≡ Ok number
digits_read digits number found fits is parses = parse-decimal 16 number digits found fits (omega (arith, fits)) is parses
