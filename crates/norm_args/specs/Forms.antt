-- The forms of the words behind a first word, as simple commands of `clap`: which words are of a form, and what is found in them.
use Rattle.std.specs.Prelude.{ℕ, List, [], ◌∷◌, Bool, true, false, Option, None, Some, codes}
use Rattle.clap.specs.Words.{App, Kinds, Row, Rule, new_app, new_rule, with_rule, matches_of, fault_of}

-- an option with one value: `--NAME VALUE`, or `--NAME=VALUE`
abbrev pub option_named : List ℕ → Rule
option_named name = record (new_rule name) { long = Some name }

-- a word that has to be there
abbrev pub word_named : List ℕ → Rule
word_named name = record (new_rule name) { required = true }

-- session [--chance N] [--turns N] [--tail T]
abbrev pub session_form : App
session_form =
    with_rule (with_rule (with_rule (new_app (codes "session")) (option_named (codes "chance"))) (option_named (codes "turns"))) (option_named (codes "tail"))

-- show
abbrev pub show_form : App
show_form = new_app (codes "show")

-- generate N
abbrev pub generate_form : App
generate_form = with_rule (new_app (codes "generate")) (word_named (codes "N"))

-- mirror
abbrev pub mirror_form : App
mirror_form = new_app (codes "mirror")

-- send PROFILE [--instance I] [--group ADDRESS[:PORT]]
abbrev pub send_form : App
send_form =
    with_rule (with_rule (with_rule (new_app (codes "send")) (word_named (codes "PROFILE"))) (option_named (codes "instance"))) (option_named (codes "group"))

-- recv PROFILE NODE [--group ADDRESS[:PORT]]
abbrev pub recv_form : App
recv_form =
    with_rule (with_rule (with_rule (new_app (codes "recv")) (word_named (codes "PROFILE"))) (word_named (codes "NODE"))) (option_named (codes "group"))

-- hub PROFILE
abbrev pub hub_form : App
hub_form = with_rule (new_app (codes "hub")) (word_named (codes "PROFILE"))

-- words of which there have to be so many, at least and at most
abbrev pub words_named : List ℕ → (least most : ℕ) → Rule
words_named name least most = record (word_named name) { range = Some (record { start_inclusive = least; end_inclusive = most }) }

-- gather PROFILE NODE .., one to eight of these pairs
abbrev pub gather_form : App
gather_form = with_rule (new_app (codes "gather")) (words_named (codes "PAIRS") 2 16)

-- relay UP NODE DOWN
abbrev pub relay_words : App
relay_words = with_rule (with_rule (with_rule (new_app (codes "relay")) (word_named (codes "UP"))) (word_named (codes "NODE"))) (word_named (codes "DOWN"))

-- relay UP NODE DOWN [--instance I]
abbrev pub relay_form : App
relay_form = with_rule relay_words (option_named (codes "instance"))

-- no kind of error comes
abbrev pub is_fine : Kinds → Bool
is_fine [] = true
is_fine (kind ∷ kinds) = false

-- What is found in words of a form, of which the first names it. None where they are of another form: one is unknown, one is too many,
-- one is wanted, an option stands twice, or help is asked for.
unfoldable pub found_in : App → List (List ℕ) → Option (List Row)
found_in form words = elim (is_fine (fault_of form words)) [ true ↦ Some (matches_of form words) | false ↦ None ]
