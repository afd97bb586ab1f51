use Rattle.std.proofs.Common.{◌≡◌, sym, ◌+◌, ◌≤◌, ◌<◌, ◌==◌, ℕ, List, [], ◌∷◌, ◌++◌, length, Option, Some, None, Result, Ok, Err, Bool, true, false, refl, arith, cond, nat_le, nat_lt, append_assoc, length-append}
use Rattle.std.proofs.lemmas.List.{append-nil}
use Rattle.std.specs.Prelude.{◌&&◌, IfOk, IfSome, count_by}
use Rattle.std.specs.List.{AllByRecursion}
use Rattle.norm_base.proofs.RangeLemmas.{range_of}
use Rattle.norm_base.specs.Given.{value_in, are_in_range, are_values, meets_rules, profile_given}
use Rattle.norm_base.specs.Keys.{keys}
use Rattle.norm_base.specs.Settings.{Settings, InRange, settings_with}
use Rattle.norm_script.specs.Head.{head_from, nothing_set, profile_of, settled, given_by, rule_refusal}
use Rattle.norm_script.specs.Meaning.{meaning_of}
use Rattle.norm_script.specs.Reading.{next_line, command_refused, take_in, take_line, take_lines, or_refuses, commands_with, commands_from, script_of}
use Rattle.norm_script.specs.Scripts.{IsMeaning, IsLine, AreNumbered, IsScript}
use Rattle.norm_script.specs.Steps.{◌>>=◌, unless}
use Rattle.norm_script.specs.Text.{text_lines}
use Rattle.norm_script.specs.declared.meaning.Meaning.{Meaning}
use Rattle.norm_script.specs.declared.meaning.Meaning.TheVariants.{Nothing, Set, Command}
use Rattle.norm_script.specs.declared.refusal.Refusal.{Refusal}
use Rattle.norm_script.specs.declared.refusal.Why.{Why}
use Rattle.norm_script.specs.declared.refusal.Why.TheVariants as why
use Rattle.norm_script.specs.declared.script.Line.{Line}
use Rattle.norm_script.specs.declared.script.Verb.{Verb}
use Rattle.norm_script.proofs.ChainLemmas.{IfOk-bind}
use Rattle.norm_script.proofs.SoundLemmas.{meaning-ok}

-- What is read is a script.

each-on : {X : Type 0} (P : X → Type 0) (xs : List X) (y : X) → AllByRecursion P xs → P y → AllByRecursion P (xs ++ y ∷ [])
each-on P [] y h p = (p, tt)
each-on P (x ∷ xs) y h p = (h.0, each-on P xs y h.1 p)

numbered-on : (before xs : List Line) (y : Line) → AreNumbered before xs → y.number ≡ count_by (λ l. l.producer == y.producer) (before ++ xs) + 1
    → AreNumbered before (xs ++ y ∷ [])
numbered-on before [] y h e = (rw (append-nil before) at e, tt)
numbered-on before (x ∷ xs) y h e = (h.0, numbered-on (before ++ x ∷ []) xs y h.1 (rw (sym (append_assoc before (x ∷ []) xs)) at e))

-- the lines taken in so far
record Taken (profile : Settings) (lines : List Line) : Type 0 where
  few : length lines ≤ 4096
  each : AllByRecursion (IsLine profile.producers) lines
  numbered : AreNumbered [] lines

-- a command that is not refused
record Allowed (profile : Settings) (n producer : ℕ) : Type 0 where
  room : n < 4096
  known : producer ≤ profile.producers

allowed : (profile : Settings) (n producer : ℕ) → command_refused profile n producer ≡ None → Allowed profile n producer
allowed profile n producer is =
    elim (nat_le 4096 n) as (λ a. nat_le 4096 n ≡ a → cond a (Some why.ManyCommands) (cond (nat_lt profile.producers producer) (Some (why.Producer producer profile.producers)) None) ≡ None → Allowed profile n producer) [
      | true ↦ λ e f. absurd (cc)
      | false ↦ λ e f.
          elim (nat_lt profile.producers producer) as (λ b. nat_lt profile.producers producer ≡ b → cond b (Some (why.Producer producer profile.producers)) None ≡ None → Allowed profile n producer) [
            | true ↦ λ g h. absurd (cc)
            | false ↦ λ g h. record { room = grind arith; known = grind arith }
          ] refl f
    ] refl is

IfOk-unless : {X E : Type 0} (P : X → Type 0) (o : Option E) (x : X) → (o ≡ None → P x) → IfOk (unless o x) P
IfOk-unless P None x h = h refl
IfOk-unless P (Some e) x h = tt

taken-in : (profile : Settings) (before : List Line) (m : Meaning) → IsMeaning m → Taken profile before
    → IfOk (take_in profile before m) (Taken profile)
taken-in profile before Nothing is t = t
taken-in profile before (Set key value) is t = tt
taken-in profile before (Command producer v) is t =
    let line = next_line before producer v in
    IfOk-unless (Taken profile) (command_refused profile (length before) producer) (before ++ line ∷ [])
    (λ e.
    let a = allowed profile (length before) producer e in
    record {
      few = omega (arith, length-append before (line ∷ []), a.room);
      each = each-on (IsLine profile.producers) before line t.each (record { first = is.0; last = a.known; verb = is.1 });
      numbered = numbered-on [] before line t.numbered refl;
    })

line-taken : (profile : Settings) (before : List Line) (n : ℕ) (line : List ℕ) → Taken profile before
    → IfOk (take_line profile before n line) (Taken profile)
line-taken profile before n line t =
    elim (nat_lt 8192 n) as (λ b. IfOk (cond b (Err why.ManyLines) (meaning_of line >>= λ meaning. take_in profile before meaning)) (Taken profile)) [
      | true ↦ tt
      | false ↦
          IfOk-bind IsMeaning (Taken profile) (meaning_of line) (take_in profile before) (meaning-ok line)
          (λ m is. taken-in profile before m is t)
    ]

IfOk-or_refuses : (P : List Line → Type 0) (n : ℕ) (r : Result (List Line) Why) (go_on : List Line → Result (List Line) Refusal) → IfOk r P
    → ((lines : List Line) → P lines → IfOk (go_on lines) P) → IfOk (or_refuses n r go_on) P
IfOk-or_refuses P n (Ok lines) go_on h k = k lines h
IfOk-or_refuses P n (Err reason) go_on h k = tt

lines-taken : (profile : Settings) (before : List Line) (n : ℕ) (lines : List (List ℕ)) → Taken profile before
    → IfOk (take_lines profile before n lines) (Taken profile)
lines-taken profile before n [] t = t
lines-taken profile before n (line ∷ lines) t =
    IfOk-or_refuses (Taken profile) n (take_line profile before n line) (λ after. take_lines profile after (n + 1) lines)
    (line-taken profile before n line t) (λ after u. lines-taken profile after (n + 1) lines u)

nothing-taken : (profile : Settings) → Taken profile []
nothing-taken profile = record { few = omega arith; each = tt; numbered = tt }

script-of-taken : (profile : Settings) (lines : List Line) → InRange profile → Taken profile lines
    → IsScript (record { profile = profile; lines = lines })
script-of-taken profile lines range t = record { range = range; few = t.few; each = t.each; numbered = t.numbered }

commands-are : (profile : Settings) → InRange profile → (r : Result (List Line) Refusal) → IfOk r (Taken profile)
    → IfOk (commands_with profile r) (IsScript)
commands-are profile range (Ok lines) t = script-of-taken profile lines range t
commands-are profile range (Err refusal) t = tt

-- the commands under a profile in its ranges make a script
pub commands-sound : (profile : Settings) (n : ℕ) (lines : List (List ℕ)) → InRange profile
    → IfOk (commands_from profile n lines) (IsScript)
commands-sound profile n lines range =
    commands-are profile range (take_lines profile [] n lines) (lines-taken profile [] n lines (nothing-taken profile))

both : (a b : Bool) → (a && b) ≡ true → (a ≡ true) × (b ≡ true)
both true b h = (refl, cc)
both false b h = absurd (cc)

pub given-range : (given : List (Option ℕ)) → IfSome (profile_given given) InRange
given-range given =
    elim (are_in_range (value_in given)) as (λ b. are_in_range (value_in given) ≡ b → IfSome (cond b (Some (settings_with (value_in given))) None) InRange) [
      | true ↦ λ e.
          let h = both (are_values (value_in given) keys) (meets_rules (value_in given)) e in range_of (value_in given) h.0 h.1
      | false ↦ λ e. tt
    ] refl

settled-range : (refused : Option Refusal) (profile : Option Settings) (rule : Refusal) → IfSome profile InRange → IfOk (settled refused profile rule) InRange
settled-range None (Some profile) rule h = h
settled-range None None rule h = tt
settled-range (Some refused) (Some profile) rule h = tt
settled-range (Some refused) None rule h = tt

-- what is read is a script
pub script-sound : (text : List ℕ) → IfOk (script_of text) (IsScript)
script-sound text =
    let begun = head_from nothing_set 1 (text_lines text) in
    IfOk-bind InRange (IsScript) (profile_of begun.head) (λ profile. commands_from profile begun.next begun.rest)
    (settled-range begun.head.refused (profile_given (given_by begun.head.settings)) (rule_refusal begun.head.settings) (given-range (given_by begun.head.settings)))
    (λ profile range. commands-sound profile begun.next begun.rest range)

pub ruleset script_laws = (script-sound)
