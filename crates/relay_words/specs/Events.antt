-- Which event a line of `relay` is: `up HEX`, `down HEX` or `tick`.
use Rattle.std.specs.Prelude.{ℕ, ◌||◌, Bool, List, [], ◌∷◌, codes, Option, None, Some, if◌then◌else◌}
use Rattle.std.specs.Option.{option_map}
use Rattle.norm_script.specs.Spelling.{spelling_of}
use Rattle.norm_script.specs.Text.{split_at_first}
use Rattle.norm_script.specs.Words.{is_text}
use Rattle.norm_show.specs.Showing.{datagram_in, why_none}
use Rattle.relay_words.specs.declared.event.LineEvent.{LineEvent}
use Rattle.relay_words.specs.declared.event.LineEvent.TheVariants.{Up, Down, Tick}
use Rattle.relay_words.specs.declared.ends.NoEvent.{NoEvent}
use Rattle.relay_words.specs.declared.ends.NoEvent.TheVariants.{Spelt, Form, Digits}

-- the datagram behind `up` or `down`: an even number of hexadecimal digits of either case, 2 to 3,000
abbrev pub digits_in : List ℕ → Option (List ℕ)
digits_in [] = None
digits_in (x ∷ xs) = datagram_in (x ∷ xs)

-- what a line is by its octets before the first space and behind it
abbrev pub event_of : List ℕ × List ℕ → Option LineEvent
event_of parts =
    if is_text parts.0 (codes "up") then option_map Up (digits_in parts.1) else
    (if is_text parts.0 (codes "down") then option_map Down (digits_in parts.1) else None)

abbrev pub tick_in : List ℕ → Option LineEvent
tick_in line = if is_text line (codes "tick") then Some Tick else None

-- the event that a line is
unfoldable pub event_in : List ℕ → Option LineEvent
event_in line = elim (split_at_first 32 line) [ Some parts ↦ event_of parts | None ↦ tick_in line ]

-- a side is named
abbrev pub is_side : List ℕ → Bool
is_side word = is_text word (codes "up") || is_text word (codes "down")

abbrev pub why_digits : List ℕ → NoEvent
why_digits [] = Form
why_digits (x ∷ xs) = Digits (why_none (x ∷ xs))

abbrev pub why_parts : List ℕ × List ℕ → NoEvent
why_parts parts = if is_side parts.0 then why_digits parts.1 else Form

abbrev pub why_form : List ℕ → NoEvent
why_form line = elim (split_at_first 32 line) [ Some parts ↦ why_parts parts | None ↦ Form ]

abbrev pub why_spelt : List ℕ → NoEvent
why_spelt line = elim (spelling_of line) [ Some why ↦ Spelt why | None ↦ why_form line ]

-- why a line that is no event is none
unfoldable pub why_no_event : List ℕ → NoEvent
why_no_event [] = Form
why_no_event (x ∷ xs) = why_spelt (x ∷ xs)
