-- A text without what says nothing: comments, empty lines, and the case of hexadecimal digits.
use Rattle.std.specs.Prelude.{ℕ, ◌||◌, Bool, not, List, ◌∷◌, ◌++◌, codes, filter, map, Option, None, Some, if◌then◌else◌}
use Rattle.std.specs.Char.{to_ascii_lowercase}
use Rattle.norm_script.specs.Meaning.{is_passed_over}
use Rattle.norm_script.specs.Text.{split_at_first, text_lines}
use Rattle.norm_script.specs.Words.{is_text}
use Rattle.norm_script.specs.Written.{ended}

-- the letters A to Z as a to z
abbrev pub lower_case : List ℕ → List ℕ
lower_case word = map to_ascii_lowercase word

-- behind these verbs stand hexadecimal digits
abbrev pub has_digits : List ℕ → Bool
has_digits verb = is_text verb (codes "data") || is_text verb (codes "write")

-- a verb and its words, with hexadecimal digits in lower case
abbrev pub lower_behind : Option (List ℕ × List ℕ) → List ℕ → List ℕ
lower_behind None words = words
lower_behind (Some p) words = if has_digits p.0 then p.0 ++ 32 ∷ lower_case p.1 else words

abbrev pub lower_words : List ℕ → List ℕ
lower_words words = lower_behind (split_at_first 32 words) words

-- a line, where a verb is its second word
abbrev pub lower_line : Option (List ℕ × List ℕ) → List ℕ → List ℕ
lower_line None line = line
lower_line (Some p) line = p.0 ++ 32 ∷ lower_words p.1

abbrev pub plain_line : List ℕ → List ℕ
plain_line line = lower_line (split_at_first 32 line) line

-- the lines that are not passed over
abbrev pub plain_lines : List (List ℕ) → List (List ℕ)
plain_lines lines = map plain_line (filter (λ line. not (is_passed_over line)) lines)

-- a text that says the same, each line ended by a line feed
abbrev pub plain : List ℕ → List ℕ
plain text = ended (plain_lines (text_lines text))
