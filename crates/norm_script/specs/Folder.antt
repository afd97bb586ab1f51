-- What an input of `set` lines and names says: a profile, and the names of a folder's files.
use Rattle.std.specs.Prelude.{ℕ, ◌+◌, ◌==◌, not, List, [], ◌∷◌, ◌++◌, length, nat_le, nat_lt, codes, Option, None, Some, Result, Ok, Err, find, if◌then◌else◌}
use Rattle.std.specs.Option.{option_map}
use Rattle.norm_base.specs.Settings.{Settings}
use Rattle.norm_base.specs.declared.key.Key.{Key}
use Rattle.norm_base.specs.declared.key.Key.TheVariants as key
use Rattle.norm_script.specs.Head.{Head, Begun, nothing_set, head_after, or_ends, profile_of}
use Rattle.norm_script.specs.Meaning.{setting_of, is_passed_over, or_spelling}
use Rattle.norm_script.specs.Spelling.{spelling_of}
use Rattle.norm_script.specs.Steps.{◌>>=◌, unless}
use Rattle.norm_script.specs.Text.{split_at_first, text_lines}
use Rattle.norm_script.specs.Words.{is_text, is_file_name}
use Rattle.norm_script.specs.declared.folder.Named.{Named}
use Rattle.norm_script.specs.declared.meaning.Meaning.{Meaning}
use Rattle.norm_script.specs.declared.meaning.Meaning.TheVariants.{Nothing, Set, Command}
use Rattle.norm_script.specs.declared.refusal.Refusal.{Refusal}
use Rattle.norm_script.specs.declared.refusal.Why.{Why}
use Rattle.norm_script.specs.declared.refusal.Why.TheVariants as why
use Rattle.norm_script.specs.declared.script.Verb.{Verb}
use Rattle.norm_script.specs.declared.script.Verb.TheVariants as verb

-- ---- a line

-- A folder has one producer, and nothing of it is dropped: settings of them have no meaning, but for the mode `hold`.
abbrev pub setting_refused : Key → ℕ → Option Why
setting_refused key.Producers value = Some why.OneProducer
setting_refused key.Mode value = if value == 1 then Some why.NoDrop else None
setting_refused _ value = None

abbrev pub folder_setting : Meaning → Result Meaning Why
folder_setting (Set key value) = unless (setting_refused key value) (Set key value)
folder_setting meaning = Ok meaning

-- a name is the command that sends its file
abbrev pub name_line : List ℕ → Result Meaning Why
name_line line = if is_file_name line then Ok (Command 1 (verb.File line)) else Err why.NoFileName

-- KEY VALUE
abbrev pub folder_set : List ℕ → Result Meaning Why
folder_set words = setting_of words >>= folder_setting

-- `set KEY VALUE`, or a name; `set` by itself is a name
abbrev pub folder_words_in : List ℕ → Option (List ℕ × List ℕ) → Result Meaning Why
folder_words_in line None = name_line line
folder_words_in line (Some p) = if is_text p.0 (codes "set") then folder_set p.1 else name_line line

abbrev pub folder_words : List ℕ → Result Meaning Why
folder_words line = folder_words_in line (split_at_first 32 line)

-- what a line of at most 16,500 octets means
abbrev pub folder_meaning : List ℕ → Result Meaning Why
folder_meaning line =
    if not (nat_le (length line) 16500) then Err (why.LongLine (length line)) else
    (if is_passed_over line then Ok Nothing else or_spelling (spelling_of line) (folder_words line))

-- ---- the head: the lines before the first name

abbrev pub folder_head_line : Head → ℕ → List ℕ → Option Head
folder_head_line h n line = if nat_lt 8192 n then None else head_after h n (folder_meaning line)

abbrev pub folder_head_from : Head → ℕ → List (List ℕ) → Begun
folder_head_from h n [] = record { head = h; next = n; rest = [] }
folder_head_from h n (line ∷ lines) =
    or_ends (folder_head_line h n line) (record { head = h; next = n; rest = line ∷ lines })
    (λ after. folder_head_from after (n + 1) lines)

-- ---- the names

-- the line of this name
abbrev pub line_of : List Named → List ℕ → Option ℕ
line_of before name = option_map (λ (x : Named). x.line) (find (λ (x : Named). is_text x.name name) before)

-- why a name is refused behind these
abbrev pub name_refused : List Named → List ℕ → Option Why
name_refused before name =
    elim (line_of before name) [ Some line ↦ Some (why.NameTwice line) | None ↦ (if nat_le 1024 (length before) then Some why.ManyNames else None) ]

-- line n is taken in behind these names
abbrev pub take_verb : List Named → ℕ → Verb → Result (List Named) Why
take_verb before n (verb.File name) =
    unless (name_refused before name) (before ++ record { name = name; line = n } ∷ [])
take_verb before n other = Ok before

abbrev pub take_name : List Named → ℕ → Meaning → Result (List Named) Why
take_name before n Nothing = Ok before
take_name before n (Set key value) = Err why.AfterName
take_name before n (Command producer verb) = take_verb before n verb

abbrev pub take_name_line : List Named → ℕ → List ℕ → Result (List Named) Why
take_name_line before n line =
    if nat_lt 8192 n then Err why.ManyLines else (folder_meaning line >>= λ meaning. take_name before n meaning)

abbrev pub or_refuses_name : ℕ → Result (List Named) Why → (List Named → Result (List Named) Refusal) → Result (List Named) Refusal
or_refuses_name n (Ok names) go_on = go_on names
or_refuses_name n (Err reason) go_on = Err (record { line = n; why = reason })

-- at least one name has to stand; the line behind the last one lacks it
abbrev pub names_end : List Named → ℕ → Result (List Named) Refusal
names_end names n = if length names == 0 then Err (record { line = n; why = why.NoNames }) else Ok names

abbrev pub take_name_lines : List Named → ℕ → List (List ℕ) → Result (List Named) Refusal
take_name_lines before n [] = names_end before n
take_name_lines before n (line ∷ lines) =
    or_refuses_name n (take_name_line before n line) (λ after. take_name_lines after (n + 1) lines)

-- ---- all lines

-- What an input says: a profile, and the names in the order of their lines.
pub record Folder : Type 0 where
  pub profile : Settings
  pub names : List Named

abbrev pub folder_with : Settings → Result (List Named) Refusal → Result Folder Refusal
folder_with profile (Ok names) = Ok (record { profile = profile; names = names })
folder_with profile (Err refusal) = Err refusal

-- the names from line n on, under a profile
abbrev pub names_from : Settings → ℕ → List (List ℕ) → Result Folder Refusal
names_from profile n lines = folder_with profile (take_name_lines [] n lines)

abbrev pub folder_from : Begun → Result Folder Refusal
folder_from begun = profile_of begun.head >>= λ profile. names_from profile begun.next begun.rest

abbrev pub folder_of : List ℕ → Result Folder Refusal
folder_of text = folder_from (folder_head_from nothing_set 1 (text_lines text))
