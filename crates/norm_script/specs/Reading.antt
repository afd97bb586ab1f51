use Rattle.std.specs.Prelude.{ℕ, ◌+◌, ◌==◌, List, [], ◌∷◌, ◌++◌, length, count_by, nat_le, nat_lt, Option, None, Some, Result, Ok, Err, if◌then◌else◌}
use Rattle.norm_base.specs.Settings.{Settings}
use Rattle.norm_script.specs.Commands.{Commands, most_commands}
use Rattle.norm_script.specs.Head.{Begun, head_from, nothing_set, profile_of}
use Rattle.norm_script.specs.Meaning.{meaning_of}
use Rattle.norm_script.specs.Steps.{◌>>=◌, unless}
use Rattle.norm_script.specs.Text.{text_lines}
use Rattle.norm_script.specs.declared.meaning.Meaning.{Meaning}
use Rattle.norm_script.specs.declared.meaning.Meaning.TheVariants.{Nothing, Set, Command}
use Rattle.norm_script.specs.declared.refusal.Refusal.{Refusal}
use Rattle.norm_script.specs.declared.refusal.Why.{Why}
use Rattle.norm_script.specs.declared.refusal.Why.TheVariants as why
use Rattle.norm_script.specs.declared.script.Line.{Line}
use Rattle.norm_script.specs.declared.script.Verb.{Verb}

-- What a script's text says: its profile and its commands, or the first line without meaning.

-- a producer's next command; each producer's are numbered from 1 on
abbrev pub next_line : List Line → ℕ → Verb → Line
next_line before producer verb =
    record { producer = producer; number = count_by (λ l. l.producer == producer) before + 1; verb = verb }

-- why a command is refused behind so many
abbrev pub command_refused : Settings → ℕ → ℕ → Option Why
command_refused profile before producer =
    if nat_le most_commands before then Some why.ManyCommands else
    (if nat_lt profile.producers producer then Some (why.Producer producer profile.producers) else None)

-- a line is taken in behind these commands
abbrev pub take_in : Settings → List Line → Meaning → Result (List Line) Why
take_in profile before Nothing = Ok before
take_in profile before (Set key value) = Err why.AfterCommand
take_in profile before (Command producer verb) =
    unless (command_refused profile (length before) producer) (before ++ next_line before producer verb ∷ [])

-- line n: a script has 8,192 lines
abbrev pub take_line : Settings → List Line → ℕ → List ℕ → Result (List Line) Why
take_line profile before n line =
    if nat_lt 8192 n then Err why.ManyLines else (meaning_of line >>= λ meaning. take_in profile before meaning)

-- the lines from number n on, behind these commands
abbrev pub or_refuses : ℕ → Result (List Line) Why → (List Line → Result (List Line) Refusal) → Result (List Line) Refusal
or_refuses n (Ok lines) go_on = go_on lines
or_refuses n (Err reason) go_on = Err (record { line = n; why = reason })

abbrev pub take_lines : Settings → List Line → ℕ → List (List ℕ) → Result (List Line) Refusal
take_lines profile before n [] = Ok before
take_lines profile before n (line ∷ lines) =
    or_refuses n (take_line profile before n line) (λ after. take_lines profile after (n + 1) lines)

abbrev pub commands_with : Settings → Result (List Line) Refusal → Result Commands Refusal
commands_with profile (Ok lines) = Ok (record { profile = profile; lines = lines })
commands_with profile (Err refusal) = Err refusal

-- the commands from line n on, under a profile
abbrev pub commands_from : Settings → ℕ → List (List ℕ) → Result Commands Refusal
commands_from profile n lines = commands_with profile (take_lines profile [] n lines)

abbrev pub script_from : Begun → Result Commands Refusal
script_from begun = profile_of begun.head >>= λ profile. commands_from profile begun.next begun.rest

-- a script
abbrev pub script_of : List ℕ → Result Commands Refusal
script_of text = script_from (head_from nothing_set 1 (text_lines text))

-- a script for a profile that is given: no line of it sets a key
abbrev pub commands_of : Settings → List ℕ → Result Commands Refusal
commands_of profile text = commands_from profile 1 (text_lines text)
