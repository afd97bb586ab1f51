use Rattle.std.proofs.Common.{◌≡◌, sym, ap, ◌+◌, ◌*◌, ◌≤◌, ℕ, List, [], ◌∷◌, length, Option, Some, None, Result, Ok, Err, refl, arith, nat_eq, nat_le, cond, codes}
use Rattle.std.specs.Prelude.{◌&&◌, IfOk, IfSome, not}
use Rattle.std.specs.Option.{ok_or, option_map}
use Rattle.std.specs.Result.{result_ok}
use Rattle.std.specs.Cmp.Lexicographic.{same_text}
use Rattle.hex.specs.Hex.{decode_of}
use Rattle.hex.proofs.HexLemmas.{decode_of-ok}
use Rattle.norm_base.specs.Keys.{keys, key_named}
use Rattle.norm_script.specs.Meaning.{contents, data_of, file_of, write_of, restart_of, mark_of, strike_of, verb_with, verb_alone, verb_of_words, verb_of, command_of, meaning_of_words, meaning_of, is_passed_over, or_spelling, setting_of, value_for}
use Rattle.norm_script.specs.Scripts.{IsContents, IsVerb, IsMeaning}
use Rattle.norm_script.specs.Spelling.{spelling_of}
use Rattle.norm_script.specs.Steps.{◌>>=◌}
use Rattle.norm_script.specs.Text.{split_at_first}
use Rattle.norm_script.specs.Words.{is_text, is_number, value_of, number_within, contents_of, is_name}
use Rattle.norm_script.specs.declared.meaning.Meaning.{Meaning}
use Rattle.norm_script.specs.declared.meaning.Meaning.TheVariants.{Nothing, Set, Command}
use Rattle.norm_script.specs.declared.refusal.Why.{Why}
use Rattle.norm_script.specs.declared.refusal.Why.TheVariants as why
use Rattle.norm_script.specs.declared.script.Verb.{Verb}
use Rattle.norm_script.specs.declared.script.Verb.TheVariants as verb
use Rattle.norm_script.proofs.ChainLemmas.{IfOk-bind, IfOk-ok_or, IfOk-cond, IfSome-cond, IfOk-unit, IfOk-given}

-- What a line means is something that can be said.

abbrev Parted : List ℕ → List ℕ × List ℕ → Type 0
Parted xs p = length xs ≡ length p.0 + 1 + length p.1

abbrev onto : ℕ → List ℕ × List ℕ → List ℕ × List ℕ
onto x p = (x ∷ p.0, p.1)

longer : (x : ℕ) (xs : List ℕ) (o : Option (List ℕ × List ℕ)) → IfSome o (Parted xs) → IfSome (option_map (onto x) o) (Parted (x ∷ xs))
longer x xs None h = tt
longer x xs (Some p) h = omega (arith, h)

-- a separator is one octet of a line
pub split-length : (c : ℕ) (xs : List ℕ) → IfSome (split_at_first c xs) (Parted xs)
split-length c [] = tt
split-length c (x ∷ xs) =
    let first : List ℕ × List ℕ = ([], xs) in
    IfSome-cond (Parted (x ∷ xs)) (nat_eq x c) (Some first) (option_map (onto x) (split_at_first c xs)) (λ e. omega arith)
    (λ e. longer x xs (split_at_first c xs) (split-length c xs))

pub number-some : (low high : ℕ) (word : List ℕ) → IfSome (number_within low high word) (λ n. (low ≤ n) × (n ≤ high) × (1 ≤ length word))
number-some low high word =
    IfSome-cond (λ n. (low ≤ n) × (n ≤ high) × (1 ≤ length word)) (is_number word && nat_le low (value_of word) && nat_le (value_of word) high) (Some (value_of word)) None
    (λ e. grind arith) (λ e. tt)

-- contents are 1 to 8,192 octets, and two digits each
pub record IsSpelled (word bytes : List ℕ) : Type 0 where
  pub is : IsContents bytes
  pub twice : length word ≡ 2 * length bytes

decoded : (word : List ℕ) → 2 ≤ length word → length word ≤ 16384 → IfSome (result_ok (decode_of word)) (IsSpelled word)
decoded word low high =
    elim (decode_of word) as (λ r. decode_of word ≡ r → IfSome (result_ok r) (IsSpelled word)) [
      | Ok bytes ↦ λ e.
          let ok = decode_of-ok word bytes e in
          record { is = record { some = omega (arith, ok.2); most = omega (arith, ok.2); octets = ok.3 }; twice = ok.2 }
      | Err fault ↦ λ e. tt
    ] refl

spelled : (word : List ℕ) → IfSome (contents_of word) (IsSpelled word)
spelled word =
    IfSome-cond (IsSpelled word) (nat_le 2 (length word) && nat_le (length word) 16384) (result_ok (decode_of word)) None
    (λ e. decoded word (grind arith) (grind arith)) (λ e. tt)

pub contents-ok : (word : List ℕ) → IfOk (contents word) (IsSpelled word)
contents-ok word = IfOk-ok_or (IsSpelled word) (contents_of word) why.NoContents (spelled word)

pub data-ok : (words : List ℕ) → IfOk (data_of (split_at_first 32 words) words) (λ verb. length words ≤ 16493 → IsVerb verb)
data-ok words =
    elim (split_at_first 32 words) as (λ o. IfSome o (Parted words) → IfOk (data_of o words) (λ verb. length words ≤ 16493 → IsVerb verb)) [
      | None ↦ λ len. IfOk-bind (IsSpelled words) (λ verb. length words ≤ 16493 → IsVerb verb) (contents words) (λ bytes. Ok (verb.Data None bytes)) (contents-ok words)
          (λ bytes s. λ fits. s.is)
      | Some p ↦ λ len. IfOk-bind (IsSpelled p.0) (λ verb. length words ≤ 16493 → IsVerb verb) (contents p.0)
          (λ bytes. contents p.1 >>= λ info. Ok (verb.Data (Some info) bytes)) (contents-ok p.0)
          (λ bytes s. IfOk-bind (IsSpelled p.1) (λ verb. length words ≤ 16493 → IsVerb verb) (contents p.1)
          (λ info. Ok (verb.Data (Some info) bytes)) (contents-ok p.1)
          (λ info t. λ fits. record { object = s.is; info_is = t.is; fits = omega (arith, len, s.twice, t.twice, fits) }))
    ] (split-length 32 words)

file-ok : (word : List ℕ) → IfOk (file_of word) IsVerb
file-ok word = IfOk-cond IsVerb (is_name word) (Ok (verb.File word)) (Err why.NoName) (λ e. e) (λ e. tt)

write-ok : (word : List ℕ) → IfOk (write_of word) IsVerb
write-ok word = IfOk-bind (IsSpelled word) IsVerb (contents word) (λ bytes. Ok (verb.Write bytes)) (contents-ok word) (λ bytes s. s.is)

restart-ok : (word : List ℕ) → IfOk (restart_of word) IsVerb
restart-ok word =
    IfOk-bind (λ n. (0 ≤ n) × (n ≤ 65535) × (1 ≤ length word)) IsVerb (ok_or (number_within 0 65535 word) why.NoInstance) (λ instance. Ok (verb.Restart instance))
    (IfOk-ok_or (λ n. (0 ≤ n) × (n ≤ 65535) × (1 ≤ length word)) (number_within 0 65535 word) why.NoInstance (number-some 0 65535 word)) (λ n h. omega (arith, h.1))

mark-ok : (word : List ℕ) → IfOk (mark_of word) IsVerb
mark-ok word =
    IfOk-bind (λ n. (1 ≤ n) × (n ≤ 16) × (1 ≤ length word)) IsVerb (ok_or (number_within 1 16 word) why.NoQuorum) (λ quorum. Ok (verb.Mark (Some quorum)))
    (IfOk-ok_or (λ n. (1 ≤ n) × (n ≤ 16) × (1 ≤ length word)) (number_within 1 16 word) why.NoQuorum (number-some 1 16 word)) (λ n h. (h.0, h.1))

strike-ok : (word : List ℕ) → IfOk (strike_of word) IsVerb
strike-ok word =
    IfOk-bind (λ n. (1 ≤ n) × (n ≤ 4294967294) × (1 ≤ length word)) IsVerb (ok_or (number_within 1 4294967294 word) why.NoNode) (λ node. Ok (verb.Strike node))
    (IfOk-ok_or (λ n. (1 ≤ n) × (n ≤ 4294967294) × (1 ≤ length word)) (number_within 1 4294967294 word) why.NoNode (number-some 1 4294967294 word)) (λ n h. (h.0, h.1))

verb_with-ok : (name words : List ℕ) → length name + 1 + length words ≤ 16498 → IfOk (verb_with name words) IsVerb
verb_with-ok name words fits =
    IfOk-cond IsVerb (is_text name (codes "data")) (data_of (split_at_first 32 words) words) fifth
    (λ e.
    let four = ap length (same_text name (codes "data") (sym e)) in
    IfOk-given IsVerb (length words ≤ 16493) (data_of (split_at_first 32 words) words) (data-ok words) (omega (arith, four)))
    (λ e. IfOk-cond IsVerb (is_text name (codes "file")) (file_of words) fourth (λ e. file-ok words)
    (λ e. IfOk-cond IsVerb (is_text name (codes "write")) (write_of words) third (λ e. write-ok words)
    (λ e. IfOk-cond IsVerb (is_text name (codes "restart")) (restart_of words) second (λ e. restart-ok words)
    (λ e. IfOk-cond IsVerb (is_text name (codes "mark")) (mark_of words) first (λ e. mark-ok words)
    (λ e. IfOk-cond IsVerb (is_text name (codes "strike")) (strike_of words) (Err why.NoVerb) (λ e. strike-ok words) (λ e. tt))))))
  where
    first : Result Verb Why
    first = cond (is_text name (codes "strike")) (strike_of words) (Err why.NoVerb)

    second : Result Verb Why
    second = cond (is_text name (codes "mark")) (mark_of words) first

    third : Result Verb Why
    third = cond (is_text name (codes "restart")) (restart_of words) second

    fourth : Result Verb Why
    fourth = cond (is_text name (codes "write")) (write_of words) third

    fifth : Result Verb Why
    fifth = cond (is_text name (codes "file")) (file_of words) fourth

alone-ok : (word : List ℕ) → IfSome (verb_alone word) IsVerb
alone-ok word =
    IfSome-cond IsVerb (is_text word (codes "open")) (Some verb.Open)
    (cond (is_text word (codes "close")) (Some verb.Close) (cond (is_text word (codes "mark")) (Some (verb.Mark None)) None)) (λ e. tt)
    (λ e. IfSome-cond IsVerb (is_text word (codes "close")) (Some verb.Close) (cond (is_text word (codes "mark")) (Some (verb.Mark None)) None) (λ e. tt)
    (λ e. IfSome-cond IsVerb (is_text word (codes "mark")) (Some (verb.Mark None)) None (λ e. tt) (λ e. tt)))

-- a verb and its words, on a line of at most 16,500 octets
verb-ok : (words : List ℕ) → length words ≤ 16498 → IfOk (verb_of words) IsVerb
verb-ok words fits =
    elim (verb_alone words) as (λ o. IfSome o IsVerb → IfOk (verb_of_words o words) IsVerb) [
      | Some verb ↦ λ h. h
      | None ↦ λ h.
          IfOk-bind (Parted words) IsVerb (ok_or (split_at_first 32 words) why.NoVerb) (λ p. verb_with p.0 p.1)
          (IfOk-ok_or (Parted words) (split_at_first 32 words) why.NoVerb (split-length 32 words)) (λ p len. verb_with-ok p.0 p.1 (omega (arith, len)))
    ] (alone-ok words)

command-ok : (first words : List ℕ) → length first + 1 + length words ≤ 16500 → IfOk (command_of first words) IsMeaning
command-ok first words fits =
    IfOk-bind (λ n. (1 ≤ n) × (n ≤ 4294967295) × (1 ≤ length first)) IsMeaning (ok_or (number_within 1 4294967295 first) why.NoForm)
    (λ producer. verb_of words >>= λ verb. Ok (Command producer verb))
    (IfOk-ok_or (λ n. (1 ≤ n) × (n ≤ 4294967295) × (1 ≤ length first)) (number_within 1 4294967295 first) why.NoForm (number-some 1 4294967295 first))
    (λ producer h. IfOk-bind IsVerb IsMeaning (verb_of words) (λ verb. Ok (Command producer verb)) (verb-ok words (omega (arith, h))) (λ verb is. (h.0, is)))

setting-ok : (words : List ℕ) → IfOk (setting_of words) IsMeaning
setting-ok words =
    IfOk-bind (λ p. Unit {0}) IsMeaning (ok_or (split_at_first 32 words) why.NoForm)
    (λ p. ok_or (key_named p.0 keys) why.NoKey >>= λ key. value_for key p.1 >>= λ value. Ok (Set key value)) (IfOk-unit (ok_or (split_at_first 32 words) why.NoForm))
    (λ p u. IfOk-bind (λ key. Unit {0}) IsMeaning (ok_or (key_named p.0 keys) why.NoKey) (λ key. value_for key p.1 >>= λ value. Ok (Set key value)) (IfOk-unit (ok_or (key_named p.0 keys) why.NoKey))
    (λ key u. IfOk-bind (λ value. Unit {0}) IsMeaning (value_for key p.1) (λ value. Ok (Set key value)) (IfOk-unit (value_for key p.1)) (λ value u. tt)))

words-ok : (line : List ℕ) → length line ≤ 16500 → IfOk (meaning_of_words line) IsMeaning
words-ok line fits =
    IfOk-bind (Parted line) IsMeaning (ok_or (split_at_first 32 line) why.NoForm) (λ p. cond (is_text p.0 (codes "set")) (setting_of p.1) (command_of p.0 p.1))
    (IfOk-ok_or (Parted line) (split_at_first 32 line) why.NoForm (split-length 32 line))
    (λ p len. IfOk-cond IsMeaning (is_text p.0 (codes "set")) (setting_of p.1) (command_of p.0 p.1) (λ e. setting-ok p.1) (λ e. command-ok p.0 p.1 (omega (arith, len))))

spelling-ok : (s : Option Why) (r : Result Meaning Why) → IfOk r IsMeaning → IfOk (or_spelling s r) IsMeaning
spelling-ok s (Ok m) h = h
spelling-ok s (Err e) h = tt

pub meaning-ok : (line : List ℕ) → IfOk (meaning_of line) IsMeaning
meaning-ok line =
    IfOk-cond IsMeaning (not (nat_le (length line) 16500)) (Err (why.LongLine (length line)))
    (cond (is_passed_over line) (Ok Nothing) (or_spelling (spelling_of line) (meaning_of_words line))) (λ e. tt)
    (λ e. IfOk-cond IsMeaning (is_passed_over line) (Ok Nothing) (or_spelling (spelling_of line) (meaning_of_words line)) (λ e. tt)
    (λ f. spelling-ok (spelling_of line) (meaning_of_words line) (words-ok line (grind arith))))

pub ruleset laws = (meaning-ok)
