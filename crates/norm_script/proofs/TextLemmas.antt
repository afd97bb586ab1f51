-- A text that means a script is, made plain, settings and the script's commands, written out.
use Rattle.std.proofs.Common.{◌≡◌, ◌∙◌, sym, ap, subst, ◌+◌, ◌==◌, ℕ, List, [], ◌∷◌, ◌++◌, length, Option, Some, None, Result, Ok, Err, Bool, true, false, refl, nat_lt, cond, map, append_assoc, append-nil}
use Rattle.std.specs.Prelude.{not, filter, find, IfOk}
use Rattle.std.specs.List.{IsDistinct, AllByRecursion}
use Rattle.std.proofs.lemmas.List.{map-append}
use Rattle.norm_base.specs.Given.{profile_given}
use Rattle.norm_base.specs.Keys.{row_of}
use Rattle.norm_base.specs.Settings.{Settings}
use Rattle.norm_base.specs.declared.key.Key.{Key}
use Rattle.norm_script.specs.Commands.{Commands}
use Rattle.norm_script.specs.Head.{Head, Begun, nothing_set, refuse, setting_of_key, set_once, head_after, head_line, or_ends, head_from, given_by, rule_refusal, settled, profile_of}
use Rattle.norm_script.specs.Meaning.{is_passed_over, meaning_of}
use Rattle.norm_script.specs.Plain.{plain_line, plain_lines}
use Rattle.norm_script.specs.Reading.{next_line, command_refused, take_in, take_line, or_refuses, take_lines, commands_with, script_of}
use Rattle.norm_script.specs.Steps.{◌>>=◌, unless}
use Rattle.norm_script.specs.Text.{text_lines}
use Rattle.norm_script.specs.Written.{setting_line, command_line}
use Rattle.norm_script.specs.declared.meaning.Meaning.{Meaning}
use Rattle.norm_script.specs.declared.meaning.Meaning.TheVariants.{Nothing, Set, Command}
use Rattle.norm_script.specs.declared.refusal.Refusal.{Refusal}
use Rattle.norm_script.specs.declared.refusal.Why.{Why}
use Rattle.norm_script.specs.declared.refusal.Why.TheVariants as why
use Rattle.norm_script.specs.declared.script.Line.{Line}
use Rattle.norm_script.specs.declared.script.Verb.{Verb}
use Rattle.norm_script.specs.declared.setting.Setting.{Setting}
use Rattle.norm_script.proofs.PlainLemmas.{Says, line_says}

-- Lines that are passed over, and lines that count.

passed_over : (line : List ℕ) (lines : List (List ℕ)) → is_passed_over line ≡ true → plain_lines (line ∷ lines) ≡ plain_lines lines
passed_over line lines e = ap (λ b. map plain_line (cond (not b) (line ∷ rest) rest)) e
  where
    rest : List (List ℕ)
    rest = filter (λ line. not (is_passed_over line)) lines

counted : (line : List ℕ) (lines : List (List ℕ)) → is_passed_over line ≡ false → plain_lines (line ∷ lines) ≡ plain_line line ∷ plain_lines lines
counted line lines e = ap (λ b. map plain_line (cond (not b) (line ∷ rest) rest)) e
  where
    rest : List (List ℕ)
    rest = filter (λ line. not (is_passed_over line)) lines

-- The head.

abbrev pub line_of : Setting → List ℕ
line_of s = setting_line s.key s.value

-- each key is set once
abbrev pub same_set : Setting → Setting → Bool
same_set a b = (row_of a.key).place == (row_of b.key).place

abbrev pub IsOnce : List Setting → Type 0
IsOnce settings = IsDistinct same_set settings

-- one more setting, of a key that was not set
once_more : (settings : List Setting) (new : Setting) → find (λ s. (row_of s.key).place == (row_of new.key).place) settings ≡ None → IsOnce settings
    → IsOnce (settings ++ new ∷ [])
unfolding IsDistinct
once_more [] new e once = (tt, tt)
once_more (s ∷ settings) new e once = go (same_set s new) refl e (λ f. once_more settings new f once.1)
  where
    never : Some s ≡ None → ⊥
    never f = cc

    joins : (xs : List Setting) → AllByRecursion (λ t. same_set s t ≡ false) xs → same_set s new ≡ false → AllByRecursion (λ t. same_set s t ≡ false) (xs ++ new ∷ [])
    joins [] all last = (last, tt)
    joins (x ∷ xs) all last = (all.0, joins xs all.1 last)

    go : (b : Bool) → same_set s new ≡ b → cond b (Some s) (find (λ t. (row_of t.key).place == (row_of new.key).place) settings) ≡ None
        → (find (λ t. (row_of t.key).place == (row_of new.key).place) settings ≡ None → IsOnce (settings ++ new ∷ []))
        → IsOnce ((s ∷ settings) ++ new ∷ [])
    go true is f later = absurd (never f)
    go false is f later = (joins settings once.0 is, later f)

-- what a line of the head adds
record Adds (h after : Head) (line : List ℕ) : Type 0 where
  fine : h.refused ≡ None
  new : List Setting
  settings : after.settings ≡ h.settings ++ new
  lines : (rest : List (List ℕ)) → plain_lines (line ∷ rest) ≡ map line_of new ++ plain_lines rest
  once : IsOnce h.settings → IsOnce after.settings

no_head : (h : Head) → None ≡ Some h → ⊥
no_head h e = cc

same_head : (h after : Head) → Some h ≡ Some after → h ≡ after
same_head h after e = cc

some_refusal : (r : Refusal) → Some r ≡ None → ⊥
some_refusal r e = cc

refuses : (h after : Head) (n : ℕ) (reason : Why) → Some (refuse h n reason) ≡ Some after → after.refused ≡ None → ⊥
refuses h after n reason e none =
    some_refusal _ (ap (λ (x : Head). x.refused) (same_head (refuse h n reason) after e) ∙ none)

adds_set : (h after : Head) (n : ℕ) (line : List ℕ) (k : Key) (v : ℕ) → Says line (Set k v)
    → Some (set_once h (record { key = k; value = v; line = n }) (setting_of_key k h.settings)) ≡ Some after → after.refused ≡ None → Adds h after line
adds_set h after n line k v says e none = go (setting_of_key k h.settings) refl e
  where
    new : Setting
    new = record { key = k; value = v; line = n }

    go : (found : Option Setting) → setting_of_key k h.settings ≡ found → Some (set_once h new found) ≡ Some after → Adds h after line
    go None fresh f =
        let same = same_head (record h { settings = h.settings ++ new ∷ [] }) after f in
        let settings = ap (λ (x : Head). x.settings) (sym same) in
        record {
          fine = ap (λ (x : Head). x.refused) same ∙ none;
          new = new ∷ [];
          settings = settings;
          lines = λ rest. counted line rest says.0 ∙ ap (λ l. l ∷ plain_lines rest) says.1;
          once = λ once. subst IsOnce (sym settings) (once_more h.settings new fresh once);
        }
    go (Some old) fresh f = absurd (refuses h after new.line (why.Twice k old.line) f none)

adds : (h after : Head) (n : ℕ) (line : List ℕ) → head_line h n line ≡ Some after → after.refused ≡ None → Adds h after line
adds h after n line e none = within (nat_lt 8192 n) e
  where
    by : (r : Result Meaning Why) → IfOk r (Says line) → head_after h n r ≡ Some after → Adds h after line
    by (Ok Nothing) says f =
        let same = same_head h after f in
        let settings = ap (λ (x : Head). x.settings) (sym same) in
        record {
          fine = ap (λ (x : Head). x.refused) same ∙ none;
          new = [];
          settings = settings ∙ sym (append-nil h.settings);
          lines = λ rest. passed_over line rest says;
          once = λ once. subst IsOnce (sym settings) once;
        }
    by (Ok (Set k v)) says f = adds_set h after n line k v says f none
    by (Ok (Command p v)) says f = absurd (no_head after f)
    by (Err reason) says f = absurd (refuses h after n reason f none)

    within : (b : Bool) → cond b None (head_after h n (meaning_of line)) ≡ Some after → Adds h after line
    within true f = absurd (no_head after f)
    within false f = by (meaning_of line) (line_says line) f

-- what a head's lines say
record HeadSays (h : Head) (all : List (List ℕ)) (begun : Begun) : Type 0 where
  fine : h.refused ≡ None
  new : List Setting
  settings : begun.head.settings ≡ h.settings ++ new
  lines : plain_lines all ≡ map line_of new ++ plain_lines begun.rest
  once : IsOnce h.settings → IsOnce begun.head.settings

ends_here : (h : Head) (n : ℕ) (lines : List (List ℕ)) → h.refused ≡ None → HeadSays h lines (record { head = h; next = n; rest = lines })
ends_here h n lines none = record { fine = none; new = []; settings = sym (append-nil h.settings); lines = refl; once = λ once. once }

goes_on : (h after : Head) (line : List ℕ) (lines : List (List ℕ)) (begun : Begun) → Adds h after line → HeadSays after lines begun
    → HeadSays h (line ∷ lines) begun
goes_on h after line lines begun first rest = record {
  fine = first.fine;
  new = first.new ++ rest.new;
  settings = rest.settings ∙ ap (λ settings. settings ++ rest.new) first.settings ∙ append_assoc h.settings first.new rest.new;
  lines = first.lines lines ∙ ap (λ more. map line_of first.new ++ more) rest.lines
      ∙ sym (append_assoc (map line_of first.new) (map line_of rest.new) (plain_lines begun.rest))
      ∙ ap (λ all. all ++ plain_lines begun.rest) (sym (map-append line_of first.new rest.new));
  once = λ once. rest.once (first.once once);
}

head_says : (h : Head) (n : ℕ) (lines : List (List ℕ)) → (head_from h n lines).head.refused ≡ None → HeadSays h lines (head_from h n lines)
head_says h n [] none = ends_here h n [] none
head_says h n (line ∷ lines) none = go (head_line h n line) refl none (λ after f. head_says after (n + 1) lines f)
  where
    begun : Option Head → Begun
    begun o = or_ends o (record { head = h; next = n; rest = line ∷ lines }) (λ after. head_from after (n + 1) lines)

    go : (o : Option Head) → head_line h n line ≡ o → (begun o).head.refused ≡ None
        → ((after : Head) → (head_from after (n + 1) lines).head.refused ≡ None → HeadSays after lines (head_from after (n + 1) lines))
        → HeadSays h (line ∷ lines) (begun o)
    go None e f later = ends_here h n (line ∷ lines) f
    go (Some after) e f later =
        let rest = later after f in goes_on h after line lines (head_from after (n + 1) lines) (adds h after n line e rest.fine) rest

-- The commands.

abbrev pub command_of_line : Line → List ℕ
command_of_line l = command_line l.producer l.verb

-- what commands were taken in
abbrev Taken : List Line → List (List ℕ) → List Line → Type 0
Taken before lines all = (more : List Line) × (all ≡ before ++ more) × (plain_lines lines ≡ map command_of_line more)

abbrev TakenLine : List Line → List ℕ → List Line → Type 0
TakenLine before line after = (new : List Line) × (after ≡ before ++ new)
    × ((rest : List (List ℕ)) → plain_lines (line ∷ rest) ≡ map command_of_line new ++ plain_lines rest)

line_taken : (profile : Settings) (before : List Line) (n : ℕ) (line : List ℕ) → IfOk (take_line profile before n line) (TakenLine before line)
line_taken profile before n line = within (nat_lt 8192 n)
  where
    command : (p : ℕ) (v : Verb) → Says line (Command p v) → (o : Option Why) → IfOk (unless o (before ++ next_line before p v ∷ [])) (TakenLine before line)
    command p v says None = (next_line before p v ∷ [], refl, λ rest. counted line rest says.0 ∙ ap (λ l. l ∷ plain_lines rest) says.1)
    command p v says (Some reason) = tt

    by : (r : Result Meaning Why) → IfOk r (Says line) → IfOk (r >>= λ meaning. take_in profile before meaning) (TakenLine before line)
    by (Ok Nothing) says = ([], sym (append-nil before), λ rest. passed_over line rest says)
    by (Ok (Set k v)) says = tt
    by (Ok (Command p v)) says = command p v says (command_refused profile (length before) p)
    by (Err reason) says = tt

    within : (b : Bool) → IfOk (cond b (Err why.ManyLines) (meaning_of line >>= λ meaning. take_in profile before meaning)) (TakenLine before line)
    within true = tt
    within false = by (meaning_of line) (line_says line)

lines_taken : (profile : Settings) (before : List Line) (n : ℕ) (lines : List (List ℕ)) → IfOk (take_lines profile before n lines) (Taken before lines)
lines_taken profile before n [] = ([], sym (append-nil before), refl)
lines_taken profile before n (line ∷ lines) =
    go (take_line profile before n line) (line_taken profile before n line) (λ after. lines_taken profile after (n + 1) lines)
  where
    rest_of : (after : List Line) → TakenLine before line after → (r : Result (List Line) Refusal) → IfOk r (Taken after lines) → IfOk r (Taken before (line ∷ lines))
    rest_of after first (Err refusal) rest = tt
    rest_of after first (Ok all) rest = (
      first.0 ++ rest.0,
      rest.1 ∙ ap (λ front. front ++ rest.0) first.1 ∙ append_assoc before first.0 rest.0,
      first.2 lines ∙ ap (λ more. map command_of_line first.0 ++ more) rest.2 ∙ sym (map-append command_of_line first.0 rest.0),
    )

    go : (r : Result (List Line) Why) → IfOk r (TakenLine before line)
        → ((after : List Line) → IfOk (take_lines profile after (n + 1) lines) (Taken after lines))
        → IfOk (or_refuses n r (λ after. take_lines profile after (n + 1) lines)) (Taken before (line ∷ lines))
    go (Err reason) first later = tt
    go (Ok after) first later = rest_of after first (take_lines profile after (n + 1) lines) (later after)

-- The whole text.

-- what a text of a script is, with the settings as the head has them
pub record Text (text : List ℕ) (script : Commands) : Type 0 where
  pub settings : List Setting
  pub lines : plain_lines (text_lines text) ≡ map line_of settings ++ map command_of_line script.lines
  pub once : IsOnce settings
  pub given : profile_given (given_by settings) ≡ Some script.profile

never_ok : {X E : Type 0} (fault : E) (x : X) → Err fault ≡ Ok x → ⊥
never_ok fault x e = cc

bound : {X Y E : Type 0} (r : Result X E) (f : X → Result Y E) (y : Y) → (r >>= f) ≡ Ok y → (x : X) × (r ≡ Ok x) × (f x ≡ Ok y)
bound (Ok x) f y e = (x, refl, e)
bound (Err fault) f y e = absurd (never_ok fault y e)

was_settled : (refused : Option Refusal) (found : Option Settings) (rule : Refusal) (profile : Settings) → settled refused found rule ≡ Ok profile
    → (refused ≡ None) × (found ≡ Some profile)
was_settled None (Some found) rule profile e = (refl, cc)
was_settled None None rule profile e = absurd (never_ok rule profile e)
was_settled (Some refused) (Some found) rule profile e = absurd (never_ok _ profile e)
was_settled (Some refused) None rule profile e = absurd (never_ok _ profile e)

abbrev as_script : Commands → Result Commands Refusal
as_script c = Ok c

same_script : (a b : Commands) → as_script a ≡ as_script b → a ≡ b
same_script a b f = cc

with_commands : (profile : Settings) (r : Result (List Line) Refusal) (script : Commands) → commands_with profile r ≡ Ok script
    → (r ≡ Ok script.lines) × (profile ≡ script.profile)
with_commands profile (Ok lines) script e =
    let same = same_script (record { profile = profile; lines = lines }) script e in
    (ap (λ (c : Commands). Ok c.lines) same, ap (λ (c : Commands). c.profile) same)
with_commands profile (Err refusal) script e = absurd (never_ok refusal script e)

nothing_once : IsOnce []
unfolding IsDistinct
nothing_once = tt

pub text_of : (text : List ℕ) (script : Commands) → script_of text ≡ Ok script → Text text script
text_of text script e =
    let begun = head_from nothing_set 1 (text_lines text) in
    let first = bound (profile_of begun.head) (λ profile. commands_with profile (take_lines profile [] begun.next begun.rest)) script e in
    let settled_is = was_settled begun.head.refused (profile_given (given_by begun.head.settings)) (rule_refusal begun.head.settings) first.0 first.1 in
    let second = with_commands first.0 (take_lines first.0 [] begun.next begun.rest) script first.2 in
    let taken = subst (λ (r : Result (List Line) Refusal). IfOk r (Taken [] begun.rest)) second.0 (lines_taken first.0 [] begun.next begun.rest) in
    let head = head_says nothing_set 1 (text_lines text) settled_is.0 in
    record {
      settings = begun.head.settings;
      lines = head.lines ∙ ap (λ settings. map line_of settings ++ plain_lines begun.rest) (sym head.settings)
          ∙ ap (λ lines. map line_of begun.head.settings ++ lines) (taken.2 ∙ ap (map command_of_line) (sym taken.1));
      once = head.once nothing_once;
      given = settled_is.1 ∙ ap Some second.1;
    }
