-- What is shown of a text: a line for each datagram that its lines spell, up to the first line that spells none.
use Rattle.std.specs.Prelude.{ℕ, ◌+◌, ◌%◌, ◌==◌, ◌||◌, Bool, false, List, [], ◌∷◌, ◌++◌, length, nat_le, Option, None, Some, is_err, if◌then◌else◌}
use Rattle.std.specs.Result.{result_ok}
use Rattle.hex.specs.Hex.{decode_of}
use Rattle.norm_ext.specs.Reading.{decoded}
use Rattle.norm_script.specs.Spelling.{spelling_of}
use Rattle.norm_script.specs.Text.{text_lines}
use Rattle.norm_show.specs.Line.{line_of}
use Rattle.norm_show.specs.declared.fault.NoDatagram.{NoDatagram}
use Rattle.norm_show.specs.declared.fault.NoDatagram.TheVariants.{Long, Spelt, Odd, NoDigit}

-- the datagram that a line spells: an even number of hexadecimal digits of either case, at most 3,000
abbrev pub datagram_in : List ℕ → Option (List ℕ)
datagram_in line = if nat_le (length line) 3000 then result_ok (decode_of line) else None

-- why a line of at most 3,000 octets that spells no datagram spells none
abbrev pub why_short : List ℕ → NoDatagram
why_short line = elim (spelling_of line) [ Some why ↦ Spelt why | None ↦ if length line % 2 == 1 then Odd else NoDigit ]

-- why a line that spells no datagram spells none
abbrev pub why_none : List ℕ → NoDatagram
why_none line = if nat_le (length line) 3000 then why_short line else Long

-- What is shown: the printed lines, whether a datagram was refused, and the number of the first line that spells no
-- datagram, behind which nothing is shown, and why it spells none.
pub record Showing : Type 0 where
  pub lines : List (List ℕ)
  pub refused : Bool
  pub stop : Option (ℕ × NoDatagram)

abbrev pub nothing_shown : Showing
nothing_shown = record { lines = []; refused = false; stop = None }

-- these lines, and then the others
abbrev pub beside : List (List ℕ) → Bool → Showing → Showing
beside lines refused s = record { lines = lines ++ s.lines; refused = refused || s.refused; stop = s.stop }

-- line n, which spells a datagram or none, and then the others
abbrev pub shown_or_stops : ℕ → NoDatagram → Option (List ℕ) → Showing → Showing
shown_or_stops n why None s = record { lines = []; refused = false; stop = Some (n, why) }
shown_or_stops n why (Some octets) s = beside (line_of (decoded octets) ∷ []) (is_err (decoded octets)) s

-- line n, and then the others; an empty line is passed over
abbrev pub line_shown : ℕ → List ℕ → Showing → Showing
line_shown n [] s = s
line_shown n (x ∷ xs) s = shown_or_stops n (why_none (x ∷ xs)) (datagram_in (x ∷ xs)) s

-- the lines from number n on
abbrev pub lines_shown : ℕ → List (List ℕ) → Showing
lines_shown n [] = nothing_shown
lines_shown n (line ∷ lines) = line_shown n line (lines_shown (n + 1) lines)

-- a text
abbrev pub shown : List ℕ → Showing
shown text = lines_shown 1 (text_lines text)
