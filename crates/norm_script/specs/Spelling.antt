-- How editors spell a text otherwise than a script is spelt: what is looked for in a line that has no meaning.
use Rattle.std.specs.Prelude.{ℕ, ◌-◌, ◌==◌, ◌||◌, ◌&&◌, Bool, false, List, [], ◌∷◌, length, nat_le, Option, None, Some, if◌then◌else◌, slice_index}
use Rattle.std.specs.List.{list_any}
use Rattle.norm_script.specs.declared.refusal.Why.{Why}
use Rattle.norm_script.specs.declared.refusal.Why.TheVariants as why

-- the byte order mark of UTF-8
abbrev pub begins_with_mark : List ℕ → Bool
begins_with_mark line =
    nat_le 3 (length line) && slice_index line 0 == 239 && slice_index line 1 == 187 && slice_index line 2 == 191

-- an octet that no text in UTF-8 has but for 0, which none has that people read; text in UTF-16 has one of them
abbrev pub is_wide : ℕ → Bool
is_wide octet = octet == 0 || nat_le 254 octet

abbrev pub last_octet : List ℕ → ℕ
last_octet line = slice_index line (length line - 1)

-- two spaces in a row, behind a space or another octet
abbrev pub has_two_spaces : Bool → List ℕ → Bool
has_two_spaces behind [] = false
has_two_spaces behind (octet ∷ rest) = (behind && octet == 32) || has_two_spaces (octet == 32) rest

-- the first of these that a line has
abbrev pub spelling_of : List ℕ → Option Why
spelling_of line =
    if begins_with_mark line then Some why.ByteOrderMark else
    (if list_any is_wide line then Some why.Utf16 else
    (if last_octet line == 13 then Some why.CarriageReturn else
    (if last_octet line == 32 then Some why.SpaceAtEnd else
    (if has_two_spaces false line then Some why.TwoSpaces else None))))
