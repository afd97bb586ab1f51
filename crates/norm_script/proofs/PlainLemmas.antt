-- A line that has a meaning is, made plain, the line that is written for it.
use Rattle.std.proofs.Common.{◌≡◌, ◌∙◌, sym, ap, ◌≤◌, ◌<◌, ◌==◌, ℕ, suc, List, [], ◌∷◌, ◌++◌, length, Option, Some, None, Result, Ok, Err, Bool, true, false, refl, arith, codes, nat_le, nat_eq, cond, decimal, lit<}
use Rattle.std.specs.Prelude.{not, IfOk, IfSome, slice_index_or}
use Rattle.std.specs.Char.{to_ascii_lowercase}
use Rattle.std.specs.Option.{ok_or, option_map}
use Rattle.std.specs.Cmp.Lexicographic.{pointwise, same_text}
use Rattle.std.proofs.lemmas.List.{map-append}
use Rattle.hex.specs.Hex.{encode_lower}
use Rattle.norm_base.specs.Keys.{row_of, keys, key_named, place_of_word}
use Rattle.norm_base.specs.declared.key.Key.{Key}
use Rattle.norm_base.specs.declared.key.Key.TheVariants as key
use Rattle.norm_script.specs.Meaning.{number_for, value_for, setting_of, contents, data_of, file_of, write_of, restart_of, mark_of, strike_of, verb_with, verb_alone, verb_of_words, verb_of, command_of, meaning_of_words, meaning_of, is_passed_over, or_spelling}
use Rattle.norm_script.specs.Plain.{lower_case, has_digits, lower_behind, lower_words, lower_line, plain_line}
use Rattle.norm_script.specs.Spelling.{spelling_of}
use Rattle.norm_script.specs.Steps.{◌>>=◌}
use Rattle.norm_script.specs.Text.{split_at_first}
use Rattle.norm_script.specs.Words.{is_text, is_number, value_of, number_within, contents_of, is_name}
use Rattle.norm_script.specs.Written.{value_words, setting_line, verb_line, command_line}
use Rattle.norm_script.specs.declared.meaning.Meaning.{Meaning}
use Rattle.norm_script.specs.declared.meaning.Meaning.TheVariants.{Nothing, Set, Command}
use Rattle.norm_script.specs.declared.refusal.Why.{Why}
use Rattle.norm_script.specs.declared.refusal.Why.TheVariants as why
use Rattle.norm_script.specs.declared.script.Verb.{Verb}
use Rattle.norm_script.specs.declared.script.Verb.TheVariants as verb
use Rattle.norm_script.proofs.ChainLemmas.{IfOk-bind, IfOk-ok_or, IfOk-cond, IfSome-cond}
use Rattle.norm_script.proofs.BackLemmas.{split_is, number_is, within_is, contents_are}

same_word : (word text : List ℕ) → is_text word text ≡ true → word ≡ text
same_word word text e = same_text word text (sym e)

-- a word before a space, and what is behind it
abbrev IsSplit : List ℕ → List ℕ × List ℕ → Type 0
IsSplit words p = (split_at_first 32 words ≡ Some p) × (words ≡ p.0 ++ 32 ∷ p.1)

splits : (words : List ℕ) (o : Option (List ℕ × List ℕ)) → split_at_first 32 words ≡ o → IfSome o (IsSplit words)
splits words (Some p) e = (e, split_is 32 words p e)
splits words None e = tt

-- Settings.

greatest_small : (k : Key) → (row_of k).greatest < 10000000000
greatest_small key.Instance = lit< tt
greatest_small _ = lit< tt

-- no key is named as a verb with digits
no_verb : (k : Key) → has_digits (row_of k).name ≡ false
no_verb key.Instance = refl
no_verb _ = refl

named : (name : List ℕ) (known : List Key) → IfSome (key_named name known) (λ k. (row_of k).name ≡ name)
named name [] = tt
named name (k ∷ known) = IfSome-cond (λ j. (row_of j).name ≡ name) (pointwise nat_eq (row_of k).name name) (Some k) (key_named name known)
    (λ e. same_word (row_of k).name name e) (λ e. named name known)

placed : (word : List ℕ) (words : List (List ℕ)) → IfSome (place_of_word word words) (λ i. slice_index_or words i [] ≡ word)
placed word [] = tt
placed word (known ∷ words) = IfSome-cond (λ i. slice_index_or (known ∷ words) i [] ≡ word) (pointwise nat_eq known word) (Some 0) (option_map suc (place_of_word word words))
    (λ e. same_word known word e) (λ e. later (place_of_word word words) (placed word words))
  where
    later : (o : Option ℕ) → IfSome o (λ i. slice_index_or words i [] ≡ word) → IfSome (option_map suc o) (λ i. slice_index_or (known ∷ words) i [] ≡ word)
    later (Some i) h = h
    later None h = tt

-- a key's value, written as it was read
number_as : (k : Key) (word : List ℕ) → IfOk (number_for k word) (λ v. decimal v ≡ word)
number_as k word =
    IfOk-cond P (not (is_number word)) (Err (why.NoNumber k)) above (λ e. tt)
    (λ e. IfOk-cond P (not (nat_le (value_of word) (row_of k).greatest)) (Err (why.Above k)) below (λ f. tt)
    (λ f. IfOk-cond P (not (nat_le (row_of k).least (value_of word))) (Err (why.Below k (value_of word))) (Ok (value_of word)) (λ g. tt)
    (λ g. number_is word (yes (is_number word) e) (let h = most (yes (nat_le (value_of word) (row_of k).greatest) f) in let small = greatest_small k in omega arith))))
  where
    P : ℕ → Type 0
    P v = decimal v ≡ word

    below : Result ℕ Why
    below = cond (not (nat_le (row_of k).least (value_of word))) (Err (why.Below k (value_of word))) (Ok (value_of word))

    above : Result ℕ Why
    above = cond (not (nat_le (value_of word) (row_of k).greatest)) (Err (why.Above k)) below

    yes : (b : Bool) → not b ≡ false → b ≡ true
    yes true h = refl
    yes false h = sym h

    most : nat_le (value_of word) (row_of k).greatest ≡ true → value_of word ≤ (row_of k).greatest
    most h = grind arith

value_as : (k : Key) (word : List ℕ) → IfOk (value_for k word) (λ v. value_words k v ≡ word)
value_as k word = go (length (row_of k).words == 0)
  where
    write : Bool → ℕ → List ℕ
    write b v = cond b (decimal v) (slice_index_or (row_of k).words v [])

    go : (b : Bool) → IfOk (cond b (number_for k word) (ok_or (place_of_word word (row_of k).words) (why.NoWord k))) (λ v. write b v ≡ word)
    go true = number_as k word
    go false = IfOk-ok_or (λ v. slice_index_or (row_of k).words v [] ≡ word) (place_of_word word (row_of k).words) (why.NoWord k) (placed word (row_of k).words)

-- what a line made plain has to be
abbrev pub IsWritten : List ℕ → Meaning → Type 0
IsWritten line Nothing = ⊥
IsWritten line (Set k v) = plain_line line ≡ setting_line k v
IsWritten line (Command p v) = plain_line line ≡ command_line p v

setting_written : (line : List ℕ) (p : List ℕ × List ℕ) → IsSplit line p → p.0 ≡ codes "set" → IfOk (setting_of p.1) (IsWritten line)
setting_written line p split set =
    IfOk-bind (IsSplit p.1) (IsWritten line) (ok_or (split_at_first 32 p.1) why.NoForm)
    (λ q. ok_or (key_named q.0 keys) why.NoKey >>= λ k. value_for k q.1 >>= λ v. Ok (Set k v))
    (IfOk-ok_or (IsSplit p.1) (split_at_first 32 p.1) why.NoForm (splits p.1 (split_at_first 32 p.1) refl))
    (λ q inner. IfOk-bind (λ k. (row_of k).name ≡ q.0) (IsWritten line) (ok_or (key_named q.0 keys) why.NoKey)
    (λ k. value_for k q.1 >>= λ v. Ok (Set k v)) (IfOk-ok_or (λ k. (row_of k).name ≡ q.0) (key_named q.0 keys) why.NoKey (named q.0 keys))
    (λ k name. IfOk-bind (λ v. value_words k v ≡ q.1) (IsWritten line) (value_for k q.1) (λ v. Ok (Set k v)) (value_as k q.1)
    (λ v value. is q inner k name v value)))
  where
    is : (q : List ℕ × List ℕ) → IsSplit p.1 q → (k : Key) → (row_of k).name ≡ q.0 → (v : ℕ) → value_words k v ≡ q.1 → plain_line line ≡ setting_line k v
    is q inner k name v value =
        ap (λ o. lower_line o line) split.0
        ∙ ap (λ o. p.0 ++ 32 ∷ lower_behind o p.1) inner.0
        ∙ ap (λ b. p.0 ++ 32 ∷ cond b (q.0 ++ 32 ∷ lower_case q.1) p.1) (ap has_digits (sym name) ∙ no_verb k)
        ∙ ap (λ words. p.0 ++ 32 ∷ words) inner.1
        ∙ ap (λ word. word ++ 32 ∷ (q.0 ++ 32 ∷ q.1)) set
        ∙ ap (λ word. codes "set" ++ 32 ∷ (word ++ 32 ∷ q.1)) (sym name)
        ∙ ap (λ word. codes "set" ++ 32 ∷ ((row_of k).name ++ 32 ∷ word)) (sym value)

-- Verbs.

abbrev IsVerbLine : List ℕ → Verb → Type 0
IsVerbLine words v = lower_words words ≡ verb_line v

-- the words behind a verb with digits, and behind another
behind_digits : (words : List ℕ) (p : List ℕ × List ℕ) (name : List ℕ) → IsSplit words p → p.0 ≡ name → has_digits name ≡ true
    → lower_words words ≡ name ++ 32 ∷ lower_case p.1
behind_digits words p name split is digits =
    ap (λ o. lower_behind o words) split.0
    ∙ ap (λ b. cond b (p.0 ++ 32 ∷ lower_case p.1) words) (ap has_digits is ∙ digits)
    ∙ ap (λ word. word ++ 32 ∷ lower_case p.1) is

behind_other : (words : List ℕ) (p : List ℕ × List ℕ) (name : List ℕ) → IsSplit words p → p.0 ≡ name → has_digits name ≡ false
    → lower_words words ≡ name ++ 32 ∷ p.1
behind_other words p name split is other =
    ap (λ o. lower_behind o words) split.0
    ∙ ap (λ b. cond b (p.0 ++ 32 ∷ lower_case p.1) words) (ap has_digits is ∙ other)
    ∙ split.1
    ∙ ap (λ word. word ++ 32 ∷ p.1) is

contents_as : (word : List ℕ) → IfOk (contents word) (λ bytes. encode_lower bytes ≡ lower_case word)
contents_as word = IfOk-ok_or (λ bytes. encode_lower bytes ≡ lower_case word) (contents_of word) why.NoContents (contents_are word)

data_written : (words : List ℕ) (p : List ℕ × List ℕ) → IsSplit words p → p.0 ≡ codes "data"
    → IfOk (data_of (split_at_first 32 p.1) p.1) (IsVerbLine words)
data_written words p split is = go (split_at_first 32 p.1) refl
  where
    line : lower_words words ≡ codes "data" ++ 32 ∷ lower_case p.1
    line = behind_digits words p (codes "data") split is refl

    go : (o : Option (List ℕ × List ℕ)) → split_at_first 32 p.1 ≡ o → IfOk (data_of o p.1) (IsVerbLine words)
    go None e = IfOk-bind (λ bytes. encode_lower bytes ≡ lower_case p.1) (IsVerbLine words) (contents p.1) (λ bytes. Ok (verb.Data None bytes)) (contents_as p.1)
        (λ bytes same. line ∙ ap (λ word. codes "data" ++ 32 ∷ word) (sym same))
    go (Some q) e = IfOk-bind (λ bytes. encode_lower bytes ≡ lower_case q.0) (IsVerbLine words) (contents q.0)
        (λ bytes. contents q.1 >>= λ info. Ok (verb.Data (Some info) bytes)) (contents_as q.0)
        (λ bytes same. IfOk-bind (λ info. encode_lower info ≡ lower_case q.1) (IsVerbLine words) (contents q.1) (λ info. Ok (verb.Data (Some info) bytes)) (contents_as q.1)
        (λ info also. line
        ∙ ap (λ word. codes "data" ++ 32 ∷ lower_case word) (split_is 32 p.1 q e)
        ∙ ap (λ word. codes "data" ++ 32 ∷ word) (map-append to_ascii_lowercase q.0 (32 ∷ q.1))
        ∙ ap (λ word. codes "data" ++ 32 ∷ word ++ 32 ∷ lower_case q.1) (sym same)
        ∙ ap (λ word. codes "data" ++ 32 ∷ encode_lower bytes ++ 32 ∷ word) (sym also)))

file_written : (words : List ℕ) (p : List ℕ × List ℕ) → IsSplit words p → p.0 ≡ codes "file" → IfOk (file_of p.1) (IsVerbLine words)
file_written words p split is = IfOk-cond (IsVerbLine words) (is_name p.1) (Ok (verb.File p.1)) (Err why.NoName)
    (λ e. behind_other words p (codes "file") split is refl) (λ e. tt)

write_written : (words : List ℕ) (p : List ℕ × List ℕ) → IsSplit words p → p.0 ≡ codes "write" → IfOk (write_of p.1) (IsVerbLine words)
write_written words p split is = IfOk-bind (λ bytes. encode_lower bytes ≡ lower_case p.1) (IsVerbLine words) (contents p.1) (λ bytes. Ok (verb.Write bytes)) (contents_as p.1)
    (λ bytes same. behind_digits words p (codes "write") split is refl ∙ ap (λ word. codes "write" ++ 32 ∷ word) (sym same))

restart_written : (words : List ℕ) (p : List ℕ × List ℕ) → IsSplit words p → p.0 ≡ codes "restart" → IfOk (restart_of p.1) (IsVerbLine words)
restart_written words p split is =
    IfOk-bind (λ n. decimal n ≡ p.1) (IsVerbLine words) (ok_or (number_within 0 65535 p.1) why.NoInstance) (λ instance. Ok (verb.Restart instance))
    (IfOk-ok_or (λ n. decimal n ≡ p.1) (number_within 0 65535 p.1) why.NoInstance (within_is 0 65535 p.1 (lit< tt)))
    (λ n same. behind_other words p (codes "restart") split is refl ∙ ap (λ word. codes "restart" ++ 32 ∷ word) (sym same))

mark_written : (words : List ℕ) (p : List ℕ × List ℕ) → IsSplit words p → p.0 ≡ codes "mark" → IfOk (mark_of p.1) (IsVerbLine words)
mark_written words p split is =
    IfOk-bind (λ n. decimal n ≡ p.1) (IsVerbLine words) (ok_or (number_within 1 16 p.1) why.NoQuorum) (λ quorum. Ok (verb.Mark (Some quorum)))
    (IfOk-ok_or (λ n. decimal n ≡ p.1) (number_within 1 16 p.1) why.NoQuorum (within_is 1 16 p.1 (lit< tt)))
    (λ n same. behind_other words p (codes "mark") split is refl ∙ ap (λ word. codes "mark" ++ 32 ∷ word) (sym same))

strike_written : (words : List ℕ) (p : List ℕ × List ℕ) → IsSplit words p → p.0 ≡ codes "strike" → IfOk (strike_of p.1) (IsVerbLine words)
strike_written words p split is =
    IfOk-bind (λ n. decimal n ≡ p.1) (IsVerbLine words) (ok_or (number_within 1 4294967294 p.1) why.NoNode) (λ node. Ok (verb.Strike node))
    (IfOk-ok_or (λ n. decimal n ≡ p.1) (number_within 1 4294967294 p.1) why.NoNode (within_is 1 4294967294 p.1 (lit< tt)))
    (λ n same. behind_other words p (codes "strike") split is refl ∙ ap (λ word. codes "strike" ++ 32 ∷ word) (sym same))

with_written : (words : List ℕ) (p : List ℕ × List ℕ) → IsSplit words p → IfOk (verb_with p.0 p.1) (IsVerbLine words)
with_written words p split =
    IfOk-cond V (is_text p.0 (codes "data")) (data_of (split_at_first 32 p.1) p.1) fifth (λ e. data_written words p split (same_word p.0 (codes "data") e))
    (λ e. IfOk-cond V (is_text p.0 (codes "file")) (file_of p.1) fourth (λ f. file_written words p split (same_word p.0 (codes "file") f))
    (λ f. IfOk-cond V (is_text p.0 (codes "write")) (write_of p.1) third (λ g. write_written words p split (same_word p.0 (codes "write") g))
    (λ g. IfOk-cond V (is_text p.0 (codes "restart")) (restart_of p.1) second (λ h. restart_written words p split (same_word p.0 (codes "restart") h))
    (λ h. IfOk-cond V (is_text p.0 (codes "mark")) (mark_of p.1) first (λ i. mark_written words p split (same_word p.0 (codes "mark") i))
    (λ i. IfOk-cond V (is_text p.0 (codes "strike")) (strike_of p.1) (Err why.NoVerb) (λ j. strike_written words p split (same_word p.0 (codes "strike") j)) (λ j. tt))))))
  where
    V : Verb → Type 0
    V v = lower_words words ≡ verb_line v

    first : Result Verb Why
    first = cond (is_text p.0 (codes "strike")) (strike_of p.1) (Err why.NoVerb)

    second : Result Verb Why
    second = cond (is_text p.0 (codes "mark")) (mark_of p.1) first

    third : Result Verb Why
    third = cond (is_text p.0 (codes "restart")) (restart_of p.1) second

    fourth : Result Verb Why
    fourth = cond (is_text p.0 (codes "write")) (write_of p.1) third

    fifth : Result Verb Why
    fifth = cond (is_text p.0 (codes "file")) (file_of p.1) fourth

alone_written : (words : List ℕ) → IfSome (verb_alone words) (IsVerbLine words)
alone_written words =
    IfSome-cond V (is_text words (codes "open")) (Some verb.Open) second (λ e. ap lower_words (same_word words (codes "open") e))
    (λ e. IfSome-cond V (is_text words (codes "close")) (Some verb.Close) first (λ f. ap lower_words (same_word words (codes "close") f))
    (λ f. IfSome-cond V (is_text words (codes "mark")) (Some (verb.Mark None)) None (λ g. ap lower_words (same_word words (codes "mark") g)) (λ g. tt)))
  where
    V : Verb → Type 0
    V v = lower_words words ≡ verb_line v

    first : Option Verb
    first = cond (is_text words (codes "mark")) (Some (verb.Mark None)) None

    second : Option Verb
    second = cond (is_text words (codes "close")) (Some verb.Close) first

verb_written : (words : List ℕ) → IfOk (verb_of words) (IsVerbLine words)
verb_written words = go (verb_alone words) (alone_written words)
  where
    go : (o : Option Verb) → IfSome o (IsVerbLine words) → IfOk (verb_of_words o words) (IsVerbLine words)
    go (Some v) h = h
    go None h = IfOk-bind (IsSplit words) (IsVerbLine words) (ok_or (split_at_first 32 words) why.NoVerb) (λ p. verb_with p.0 p.1)
        (IfOk-ok_or (IsSplit words) (split_at_first 32 words) why.NoVerb (splits words (split_at_first 32 words) refl)) (λ p split. with_written words p split)

command_written : (line : List ℕ) (p : List ℕ × List ℕ) → IsSplit line p → IfOk (command_of p.0 p.1) (IsWritten line)
command_written line p split =
    IfOk-bind (λ n. decimal n ≡ p.0) (IsWritten line) (ok_or (number_within 1 4294967295 p.0) why.NoForm)
    (λ producer. verb_of p.1 >>= λ v. Ok (Command producer v))
    (IfOk-ok_or (λ n. decimal n ≡ p.0) (number_within 1 4294967295 p.0) why.NoForm (within_is 1 4294967295 p.0 (lit< tt)))
    (λ n first. IfOk-bind (IsVerbLine p.1) (IsWritten line) (verb_of p.1) (λ v. Ok (Command n v)) (verb_written p.1)
    (λ v words. ap (λ o. lower_line o line) split.0 ∙ ap (λ word. word ++ 32 ∷ lower_words p.1) (sym first) ∙ ap (λ more. decimal n ++ 32 ∷ more) words))

-- Lines.

words_written : (line : List ℕ) → IfOk (meaning_of_words line) (IsWritten line)
words_written line =
    IfOk-bind (IsSplit line) (IsWritten line) (ok_or (split_at_first 32 line) why.NoForm) (λ p. cond (is_text p.0 (codes "set")) (setting_of p.1) (command_of p.0 p.1))
    (IfOk-ok_or (IsSplit line) (split_at_first 32 line) why.NoForm (splits line (split_at_first 32 line) refl))
    (λ p split. IfOk-cond (IsWritten line) (is_text p.0 (codes "set")) (setting_of p.1) (command_of p.0 p.1)
    (λ e. setting_written line p split (same_word p.0 (codes "set") e)) (λ e. command_written line p split))

-- what a line with a meaning is
abbrev pub Says : List ℕ → Meaning → Type 0
Says line Nothing = is_passed_over line ≡ true
Says line (Set k v) = (is_passed_over line ≡ false) × (plain_line line ≡ setting_line k v)
Says line (Command p v) = (is_passed_over line ≡ false) × (plain_line line ≡ command_line p v)

pub line_says : (line : List ℕ) → IfOk (meaning_of line) (Says line)
line_says line = IfOk-cond (Says line) (not (nat_le (length line) 16500)) (Err (why.LongLine (length line)))
    (cond (is_passed_over line) (Ok Nothing) (or_spelling (spelling_of line) (meaning_of_words line))) (λ e. tt)
    (λ e. IfOk-cond (Says line) (is_passed_over line) (Ok Nothing) (or_spelling (spelling_of line) (meaning_of_words line)) (λ f. f)
    (λ f. spelled f (spelling_of line) (meaning_of_words line) (words_written line)))
  where
    counted : is_passed_over line ≡ false → (m : Meaning) → IsWritten line m → Says line m
    counted f Nothing h = absurd h
    counted f (Set k v) h = (f, h)
    counted f (Command p v) h = (f, h)

    spelled : is_passed_over line ≡ false → (s : Option Why) (r : Result Meaning Why) → IfOk r (IsWritten line) → IfOk (or_spelling s r) (Says line)
    spelled f s (Ok m) h = counted f m h
    spelled f s (Err reason) h = tt
