use Rattle.std.specs.Prelude.{ℕ, ◌==◌, ◌||◌, Bool, not, List, length, codes, nat_le, Option, None, Some, Result, Ok, Err, if◌then◌else◌, slice_index}
use Rattle.std.specs.Option.{ok_or}
use Rattle.norm_base.specs.Keys.{row_of, keys, key_named, place_of_word}
use Rattle.norm_base.specs.declared.key.Key.{Key}
use Rattle.norm_script.specs.Spelling.{spelling_of}
use Rattle.norm_script.specs.Steps.{◌>>=◌}
use Rattle.norm_script.specs.Text.{split_at_first}
use Rattle.norm_script.specs.Words.{is_text, is_number, value_of, number_within, contents_of, is_name}
use Rattle.norm_script.specs.declared.meaning.Meaning.{Meaning}
use Rattle.norm_script.specs.declared.meaning.Meaning.TheVariants.{Nothing, Set, Command}
use Rattle.norm_script.specs.declared.refusal.Why.{Why}
use Rattle.norm_script.specs.declared.refusal.Why.TheVariants as why
use Rattle.norm_script.specs.declared.script.Verb.{Verb}
use Rattle.norm_script.specs.declared.script.Verb.TheVariants as verb

-- What a line means by itself, or why it means nothing.

-- the number in a key's range that a word spells
abbrev pub number_for : Key → List ℕ → Result ℕ Why
number_for key word =
    if not (is_number word) then Err (why.NoNumber key) else
    (if not (nat_le (value_of word) (row_of key).greatest) then Err (why.Above key) else
    (if not (nat_le (row_of key).least (value_of word)) then Err (why.Below key (value_of word)) else Ok (value_of word)))

-- a key's value: one of the key's words, where it has some, or a number in its range
abbrev pub value_for : Key → List ℕ → Result ℕ Why
value_for key word =
    if length (row_of key).words == 0 then number_for key word else ok_or (place_of_word word (row_of key).words) (why.NoWord key)

-- KEY VALUE
abbrev pub setting_of : List ℕ → Result Meaning Why
setting_of words = do
  p ← ok_or (split_at_first 32 words) why.NoForm
  key ← ok_or (key_named p.0 keys) why.NoKey
  value ← value_for key p.1
  Ok (Set key value)

abbrev pub contents : List ℕ → Result (List ℕ) Why
contents word = ok_or (contents_of word) why.NoContents

-- HEX, or HEX INFOHEX
abbrev pub data_of : Option (List ℕ × List ℕ) → List ℕ → Result Verb Why
data_of None word = do
  bytes ← contents word
  Ok (verb.Data None bytes)
data_of (Some p) words = do
  bytes ← contents p.0
  info ← contents p.1
  Ok (verb.Data (Some info) bytes)

-- NAME
abbrev pub file_of : List ℕ → Result Verb Why
file_of word = if is_name word then Ok (verb.File word) else Err why.NoName

-- HEX
abbrev pub write_of : List ℕ → Result Verb Why
write_of word = do
  bytes ← contents word
  Ok (verb.Write bytes)

-- I
abbrev pub restart_of : List ℕ → Result Verb Why
restart_of word = do
  instance ← ok_or (number_within 0 65535 word) why.NoInstance
  Ok (verb.Restart instance)

-- Q
abbrev pub mark_of : List ℕ → Result Verb Why
mark_of word = do
  quorum ← ok_or (number_within 1 16 word) why.NoQuorum
  Ok (verb.Mark (Some quorum))

-- R
abbrev pub strike_of : List ℕ → Result Verb Why
strike_of word = do
  node ← ok_or (number_within 1 4294967294 word) why.NoNode
  Ok (verb.Strike node)

-- a verb with words after it
abbrev pub verb_with : List ℕ → List ℕ → Result Verb Why
verb_with name words =
    if is_text name (codes "data") then data_of (split_at_first 32 words) words else
    (if is_text name (codes "file") then file_of words else
    (if is_text name (codes "write") then write_of words else
    (if is_text name (codes "restart") then restart_of words else
    (if is_text name (codes "mark") then mark_of words else
    (if is_text name (codes "strike") then strike_of words else Err why.NoVerb)))))

-- a verb alone
abbrev pub verb_alone : List ℕ → Option Verb
verb_alone word =
    if is_text word (codes "open") then Some verb.Open else
    (if is_text word (codes "close") then Some verb.Close else
    (if is_text word (codes "mark") then Some (verb.Mark None) else None))

abbrev pub verb_of_words : Option Verb → List ℕ → Result Verb Why
verb_of_words (Some verb) words = Ok verb
verb_of_words None words = do
  p ← ok_or (split_at_first 32 words) why.NoVerb
  verb_with p.0 p.1

abbrev pub verb_of : List ℕ → Result Verb Why
verb_of words = verb_of_words (verb_alone words) words

-- P VERB ..
abbrev pub command_of : List ℕ → List ℕ → Result Meaning Why
command_of first words = do
  producer ← ok_or (number_within 1 4294967295 first) why.NoForm
  verb ← verb_of words
  Ok (Command producer verb)

-- `set KEY VALUE`, or `P VERB ..`
abbrev pub meaning_of_words : List ℕ → Result Meaning Why
meaning_of_words line = do
  p ← ok_or (split_at_first 32 line) why.NoForm
  if is_text p.0 (codes "set") then setting_of p.1 else command_of p.0 p.1

-- an empty line, or one that begins with `#`
abbrev pub is_passed_over : List ℕ → Bool
is_passed_over line = length line == 0 || slice_index line 0 == 35

-- where a line that has no meaning is spelt as no script is, that is why
abbrev pub or_spelling : Option Why → Result Meaning Why → Result Meaning Why
or_spelling spelling (Ok meaning) = Ok meaning
or_spelling spelling (Err reason) = Err (elim spelling [ Some other ↦ other | None ↦ reason ])

-- what a line of at most 16,500 octets means
abbrev pub meaning_of : List ℕ → Result Meaning Why
meaning_of line =
    if not (nat_le (length line) 16500) then Err (why.LongLine (length line)) else
    (if is_passed_over line then Ok Nothing else or_spelling (spelling_of line) (meaning_of_words line))
