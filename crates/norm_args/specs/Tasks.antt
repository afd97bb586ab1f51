-- What the words of the command line ask for.
use Rattle.std.specs.Prelude.{ℕ, List, [], ◌∷◌, Option, None, Some, codes, if◌then◌else◌, option_and_then}
use Rattle.std.specs.Option.{option_map}
use Rattle.clap.specs.Words.{Row, first_of}
use Rattle.norm_base.specs.Keys.{row_of}
use Rattle.norm_base.specs.declared.key.Key.{Key}
use Rattle.norm_base.specs.declared.key.Key.TheVariants as key
use Rattle.norm_script.specs.Words.{is_text, number_within}
use Rattle.norm_args.specs.Forms.{session_form, show_form, generate_form, mirror_form, found_in}
use Rattle.norm_args.specs.declared.tasks.Options.{Options}
use Rattle.norm_args.specs.declared.tasks.Task.{Task}
use Rattle.norm_args.specs.declared.tasks.Task.TheVariants as task

-- the value of a key that an option may give: none, or a number that the key may have; None where it gives another word
abbrev pub value_given : Key → Option (List ℕ) → Option (Option ℕ)
value_given key None = Some None
value_given key (Some word) = option_map Some (number_within (row_of key).least (row_of key).greatest word)

abbrev pub options_with : (chance turns tail : Option (Option ℕ)) → Option Options
options_with None turns tail = None
options_with (Some chance) None tail = None
options_with (Some chance) (Some turns) None = None
options_with (Some chance) (Some turns) (Some tail) = Some (record { chance = chance; turns = turns; tail = tail })

-- the options of a session; a tail begins after a turn, and so its number is one of the key `turns`
abbrev pub options_in : List Row → Option Options
options_in rows = options_with (value_given key.Chance (first_of (codes "chance") rows)) (value_given key.Turns (first_of (codes "turns") rows))
    (value_given key.Turns (first_of (codes "tail") rows))

abbrev pub session_in : List (List ℕ) → Option Task
session_in words = option_and_then (λ rows. option_map task.Session (options_in rows)) (found_in session_form words)

abbrev pub show_in : List (List ℕ) → Option Task
show_in words = option_map (λ rows. task.Show) (found_in show_form words)

-- the number that a script is made of
abbrev pub number_in : List Row → Option ℕ
number_in rows = option_and_then (number_within 0 4294967295) (first_of (codes "N") rows)

abbrev pub generate_in : List (List ℕ) → Option Task
generate_in words = option_and_then (λ rows. option_map task.Generate (number_in rows)) (found_in generate_form words)

abbrev pub mirror_in : List (List ℕ) → Option Task
mirror_in words = option_map (λ rows. task.Mirror) (found_in mirror_form words)

-- what words ask for whose first is this one
abbrev pub named : List ℕ → List (List ℕ) → Option Task
named word words =
    if is_text word (codes "session") then session_in words else
    (if is_text word (codes "show") then show_in words else
    (if is_text word (codes "generate") then generate_in words else
    (if is_text word (codes "mirror") then mirror_in words else None)))

-- What the words behind the program's name ask for. None where they are of no form of the program.
unfoldable pub task_of : List (List ℕ) → Option Task
task_of [] = None
task_of (word ∷ others) = named word (word ∷ others)
