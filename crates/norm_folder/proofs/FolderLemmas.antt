-- The names of a folder that is read are names of files, as many as a manifest has lines at most.
use Rattle.std.proofs.Common.{◌≡◌, ◌+◌, ◌≤◌, ◌<◌, ◌==◌, ℕ, zero, suc, List, [], ◌∷◌, ◌++◌, length, Option, Some, None, Result, Ok, Err, Bool, true, false, refl, arith, cond, nat_le, nat_lt, length-append}
use Rattle.std.specs.Prelude.{IfOk, IfSome, not, codes}
use Rattle.std.specs.List.{AllByRecursion}
use Rattle.std.specs.Option.{ok_or}
use Rattle.std.proofs.lemmas.Result.{IfOk-at_ok}
use Rattle.norm_base.specs.Given.{profile_given}
use Rattle.norm_base.specs.Keys.{keys, key_named}
use Rattle.norm_base.specs.Settings.{Settings, InRange}
use Rattle.norm_script.specs.Folder.{Folder, folder_setting, setting_refused, name_line, folder_set, folder_words_in, folder_words, folder_meaning, line_of, name_refused, take_verb, take_name, take_name_line, or_refuses_name, names_end, take_name_lines, folder_with, names_from, folder_of, folder_head_from}
use Rattle.norm_script.specs.Head.{nothing_set, profile_of, settled, rule_refusal, given_by}
use Rattle.norm_script.specs.Meaning.{setting_of, value_for, is_passed_over, or_spelling}
use Rattle.norm_script.specs.Spelling.{spelling_of}
use Rattle.norm_script.specs.Steps.{◌>>=◌, unless}
use Rattle.norm_script.specs.Text.{split_at_first, text_lines}
use Rattle.norm_script.specs.Words.{is_text, is_file_name}
use Rattle.norm_script.specs.declared.folder.Named.{Named}
use Rattle.norm_script.specs.declared.meaning.Meaning.{Meaning}
use Rattle.norm_script.specs.declared.meaning.Meaning.TheVariants.{Nothing, Set, Command}
use Rattle.norm_script.specs.declared.refusal.Refusal.{Refusal}
use Rattle.norm_script.specs.declared.refusal.Why.{Why}
use Rattle.norm_script.specs.declared.refusal.Why.TheVariants as why
use Rattle.norm_script.specs.declared.script.Verb.{Verb}
use Rattle.norm_script.specs.declared.script.Verb.TheVariants as verb
use Rattle.norm_script.proofs.TakingLemmas.{given-range}
use Rattle.norm_script.proofs.ChainLemmas.{IfOk-bind, IfOk-cond}
use Rattle.norm_folder.specs.Entries.{IsFolder}

-- a meaning names a file only by a name of a folder's files
abbrev NamesFile : Meaning → Type 0
NamesFile (Command producer (verb.File name)) = is_file_name name ≡ true
NamesFile meaning = Unit {0}

IfOk-any : {X Y E : Type 0} (Q : Y → Type 0) (r : Result X E) (f : X → Result Y E) → ((x : X) → IfOk (f x) Q) → IfOk (r >>= f) Q
IfOk-any Q (Ok x) f h = h x
IfOk-any Q (Err e) f h = tt

setting_names : (words : List ℕ) → IfOk (setting_of words) NamesFile
setting_names words =
    IfOk-any NamesFile (ok_or (split_at_first 32 words) why.NoForm) (λ p. ok_or (key_named p.0 keys) why.NoKey >>= λ key. value_for key p.1 >>= λ value. Ok (Set key value))
    (λ p. IfOk-any NamesFile (ok_or (key_named p.0 keys) why.NoKey) (λ key. value_for key p.1 >>= λ value. Ok (Set key value))
    (λ key. IfOk-any NamesFile (value_for key p.1) (λ value. Ok (Set key value)) (λ value. tt)))

unless_names : (o : Option Why) (m : Meaning) → NamesFile m → IfOk (unless o m) NamesFile
unless_names None m h = h
unless_names (Some e) m h = tt

folder_setting_names : (m : Meaning) → NamesFile m → IfOk (folder_setting m) NamesFile
folder_setting_names Nothing h = h
folder_setting_names (Set key value) h = unless_names (setting_refused key value) (Set key value) tt
folder_setting_names (Command producer verb) h = h

name_names : (line : List ℕ) → IfOk (name_line line) NamesFile
name_names line = IfOk-cond NamesFile (is_file_name line) (Ok (Command 1 (verb.File line))) (Err why.NoFileName) (λ e. e) (λ e. tt)

words_name : (line : List ℕ) (parts : Option (List ℕ × List ℕ)) → IfOk (folder_words_in line parts) NamesFile
words_name line None = name_names line
words_name line (Some p) =
    IfOk-cond NamesFile (is_text p.0 (codes "set")) (folder_set p.1) (name_line line)
    (λ e. IfOk-bind NamesFile NamesFile (setting_of p.1) folder_setting (setting_names p.1) folder_setting_names)
    (λ e. name_names line)

spelt_names : (spelling : Option Why) (r : Result Meaning Why) → IfOk r NamesFile → IfOk (or_spelling spelling r) NamesFile
spelt_names spelling (Ok m) h = h
spelt_names spelling (Err e) h = tt

meaning_names : (line : List ℕ) → IfOk (folder_meaning line) NamesFile
meaning_names line =
    IfOk-cond NamesFile (not (nat_le (length line) 16500)) (Err (why.LongLine (length line)))
    (cond (is_passed_over line) (Ok Nothing) (or_spelling (spelling_of line) (folder_words line)))
    (λ e. tt)
    (λ e. IfOk-cond NamesFile (is_passed_over line) (Ok Nothing) (or_spelling (spelling_of line) (folder_words line)) (λ f. tt)
    (λ f. spelt_names (spelling_of line) (folder_words line) (words_name line (split_at_first 32 line))))

-- ---- the names so far

abbrev IsName : Named → Type 0
IsName x = is_file_name x.name ≡ true

record Taken (names : List Named) : Type 0 where
  few : length names ≤ 1024
  each : AllByRecursion IsName names

each_on : (xs : List Named) (y : Named) → AllByRecursion IsName xs → IsName y → AllByRecursion IsName (xs ++ y ∷ [])
each_on [] y h p = (p, tt)
each_on (x ∷ xs) y h p = (h.0, each_on xs y h.1 p)

-- why another name is refused, by the line on which it stands already
abbrev refused_by : List Named → Option ℕ → Option Why
refused_by before (Some line) = Some (why.NameTwice line)
refused_by before None = cond (nat_le 1024 (length before)) (Some why.ManyNames) None

room : (before : List Named) (name : List ℕ) → name_refused before name ≡ None → length before < 1024
room before name is = go (line_of before name) is
  where
    last : (b : Bool) → nat_le 1024 (length before) ≡ b → ◌≡◌ {A = Option Why} (cond b (Some why.ManyNames) None) None → length before < 1024
    last true e h = absurd (cc)
    last false e h = grind arith

    go : (o : Option ℕ) → refused_by before o ≡ None → length before < 1024
    go (Some line) h = absurd (cc)
    go None h = last (nat_le 1024 (length before)) refl h

add_taken : (before : List Named) (n : ℕ) (name : List ℕ) (o : Option Why) → name_refused before name ≡ o → is_file_name name ≡ true → Taken before
    → IfOk (unless o (before ++ record { name = name; line = n } ∷ [])) Taken
add_taken before n name (Some e) is named t = tt
add_taken before n name None is named t =
    let new : Named = record { name = name; line = n } in
    let below = room before name is in record {
      few = omega (arith, length-append before (new ∷ []), below);
      each = each_on before new t.each named;
    }

verb_taken : (before : List Named) (n p : ℕ) (v : Verb) → NamesFile (Command p v) → Taken before → IfOk (take_verb before n v) Taken
verb_taken before n p (verb.File name) is t = add_taken before n name (name_refused before name) refl is t
verb_taken before n p (verb.Data info bytes) is t = t
verb_taken before n p verb.Open is t = t
verb_taken before n p (verb.Write bytes) is t = t
verb_taken before n p verb.Close is t = t
verb_taken before n p (verb.Mark quorum) is t = t
verb_taken before n p (verb.Restart instance) is t = t
verb_taken before n p (verb.Strike node) is t = t

name_taken : (before : List Named) (n : ℕ) (m : Meaning) → NamesFile m → Taken before → IfOk (take_name before n m) Taken
name_taken before n Nothing is t = t
name_taken before n (Set key value) is t = tt
name_taken before n (Command p v) is t = verb_taken before n p v is t

line_taken : (before : List Named) (n : ℕ) (line : List ℕ) → Taken before → IfOk (take_name_line before n line) Taken
line_taken before n line t =
    IfOk-cond Taken (nat_lt 8192 n) (Err why.ManyLines) (folder_meaning line >>= λ meaning. take_name before n meaning) (λ e. tt)
    (λ e. IfOk-bind NamesFile Taken (folder_meaning line) (take_name before n) (meaning_names line) (λ m is. name_taken before n m is t))

-- what is read in the end
abbrev AreRead : List Named → Type 0
AreRead names = (1 ≤ length names) × Taken names

goes_on : (n : ℕ) (r : Result (List Named) Why) (go_on : List Named → Result (List Named) Refusal) → IfOk r Taken
    → ((names : List Named) → Taken names → IfOk (go_on names) AreRead) → IfOk (or_refuses_name n r go_on) AreRead
goes_on n (Ok names) go_on h k = k names h
goes_on n (Err e) go_on h k = tt

some_names : (count : ℕ) → (count == 0) ≡ false → 1 ≤ count
some_names zero e = absurd (cc)
some_names (suc count) e = omega arith

ends : (names : List Named) (n : ℕ) → Taken names → IfOk (names_end names n) AreRead
ends names n t =
    IfOk-cond AreRead (length names == 0) (Err (record { line = n; why = why.NoNames })) (Ok names) (λ e. tt)
    (λ e. (some_names (length names) e, t))

lines_taken : (before : List Named) (n : ℕ) (lines : List (List ℕ)) → Taken before → IfOk (take_name_lines before n lines) AreRead
lines_taken before n [] t = ends before n t
lines_taken before n (line ∷ lines) t =
    goes_on n (take_name_line before n line) (λ after. take_name_lines after (n + 1) lines) (line_taken before n line t)
    (λ after u. lines_taken after (n + 1) lines u)

folder_is_of : (profile : Settings) (r : Result (List Named) Refusal) → IfOk r AreRead → IfOk (folder_with profile r) IsFolder
folder_is_of profile (Ok names) h = record { some = h.0; few = h.1.few; each = h.1.each }
folder_is_of profile (Err e) h = tt

nothing_taken : Taken []
nothing_taken = record { few = omega arith; each = tt }

folder_fits : (text : List ℕ) → IfOk (folder_of text) IsFolder
folder_fits text =
    let begun = folder_head_from nothing_set 1 (text_lines text) in
    IfOk-any IsFolder (profile_of begun.head) (λ profile. names_from profile begun.next begun.rest)
    (λ profile. folder_is_of profile (take_name_lines [] begun.next begun.rest) (lines_taken [] begun.next begun.rest nothing_taken))

-- a folder that is read has such names
pub folder_is : (text : List ℕ) (folder : Folder) → folder_of text ≡ Ok folder → IsFolder folder
folder_is text folder is = IfOk-at_ok IsFolder is (folder_fits text)

-- ---- its profile

settled_range : (refused : Option Refusal) (profile : Option Settings) (rule : Refusal) → IfSome profile InRange → IfOk (settled refused profile rule) InRange
settled_range None (Some profile) rule h = h
settled_range None None rule h = tt
settled_range (Some refused) (Some profile) rule h = tt
settled_range (Some refused) None rule h = tt

has_range : (profile : Settings) (r : Result (List Named) Refusal) → InRange profile → IfOk (folder_with profile r) (λ folder. InRange folder.profile)
has_range profile (Ok names) h = h
has_range profile (Err e) h = tt

folder_ranges : (text : List ℕ) → IfOk (folder_of text) (λ folder. InRange folder.profile)
folder_ranges text =
    let begun = folder_head_from nothing_set 1 (text_lines text) in
    IfOk-bind InRange (λ folder. InRange folder.profile) (profile_of begun.head) (λ profile. names_from profile begun.next begun.rest)
    (settled_range begun.head.refused (profile_given (given_by begun.head.settings)) (rule_refusal begun.head.settings) (given-range (given_by begun.head.settings)))
    (λ profile h. has_range profile (take_name_lines [] begun.next begun.rest) h)

-- a folder that is read has a profile within its ranges
pub folder_range : (text : List ℕ) (folder : Folder) → folder_of text ≡ Ok folder → InRange folder.profile
folder_range text folder is = IfOk-at_ok (λ (f : Folder). InRange f.profile) is (folder_ranges text)
