-- The script that sends a folder.
use Rattle.std.proofs.Common.{◌≡◌, ◌∙◌, ℕ, cond, ◌+◌, ◌*◌, ◌<◌, ◌≤◌, List, [], ◌∷◌, ◌++◌, length, take, get_or, None, refl, sym, ap, subst, arith}
use Rattle.std.specs.Prelude.{◌==◌, count_by, map}
use Rattle.std.specs.List.{AllByRecursion}
use Rattle.std.proofs.lemmas.List.{length-map, map-append, take_all, take_more}
use Rattle.std.proofs.lemmas.List.Sums.{sum_by-append}
use Rattle.norm_base.specs.Octets.{AreOctets}
use Rattle.norm_base.specs.Settings.{Settings, InRange}
use Rattle.norm_mirror.specs.Manifest.{Spells, manifest_text}
use Rattle.norm_mirror.specs.declared.entry.Entry.{Entry}
use Rattle.norm_script.specs.Scripts.{AreNumbered, CanOffer, CanRun, CanSubmit}
use Rattle.norm_script.specs.declared.script.Line.{Line}
use Rattle.norm_script.specs.declared.script.Verb.{Verb}
use Rattle.norm_script.specs.declared.script.Verb.TheVariants as verb
use Rattle.norm_arrival.specs.FolderScript.{command, folder_objects, folder_script, with_marks}

-- ---- one object after the other

pub marks_count : (n : ℕ) (objects : List Verb) → length (with_marks n objects) ≡ 2 * length objects
marks_count n [] = refl
marks_count n (v ∷ objects) = let h = marks_count (n + 2) objects in omega (arith, h)

pub marks_append : (n : ℕ) (objects more : List Verb) → with_marks n (objects ++ more) ≡ with_marks n objects ++ with_marks (n + 2 * length objects) more
marks_append n [] more = ap (λ m. with_marks m more) (omega arith)
marks_append n (v ∷ objects) more =
    ap (λ l. command n v ∷ command (n + 1) (verb.Mark None) ∷ l)
    (marks_append (n + 2) objects more ∙ ap (λ m. with_marks (n + 2) objects ++ with_marks m more) (omega arith))

abbrev file_verb : Entry → Verb
file_verb e = verb.File e.name

-- the commands so far
abbrev pub lines_at : List ℕ → List Entry → List Line
lines_at manifest entries = with_marks 1 (verb.Data None manifest ∷ map file_verb entries)

-- the manifest alone
pub lines_first : (manifest text : List ℕ) (entries : List Entry) (before lines : List Line) → text ≡ manifest → before ≡ []
    → lines ≡ before ++ with_marks (length before + 1) (verb.Data None text ∷ []) → lines ≡ lines_at manifest (take 0 entries)
lines_first manifest text entries before lines same none put =
    put ∙ ap (λ b. b ++ with_marks (length b + 1) (verb.Data None text ∷ [])) none ∙ ap (λ t. with_marks 1 (verb.Data None t ∷ [])) same

-- one file more
pub lines_more : (manifest : List ℕ) (entries : List Entry) (i : ℕ) (e : Entry) (name : List ℕ) (lines after : List Line) → i < length entries → e ≡ get_or entries i e
    → lines ≡ lines_at manifest (take i entries) → name ≡ e.name → after ≡ lines ++ with_marks (length lines + 1) (verb.File name ∷ [])
    → after ≡ lines_at manifest (take (i + 1) entries)
lines_more manifest entries i e name lines after lt is at named put =
    let these : take (i + 1) entries ≡ take i entries ++ e ∷ [] = take_more entries i e lt ∙ ap (λ x. take i entries ++ x ∷ []) (sym is) in
    let front = verb.Data None manifest ∷ map file_verb (take i entries) in
    let count : length lines + 1 ≡ 1 + 2 * length front = ap (λ l. length l + 1) at ∙ ap (λ m. m + 1) (marks_count 1 front) ∙ omega arith in
    put ∙ ap (λ l. l ++ with_marks (length lines + 1) (verb.File name ∷ [])) at
    ∙ ap (λ m. with_marks 1 front ++ with_marks m (verb.File name ∷ [])) count
    ∙ ap (λ x. with_marks 1 front ++ with_marks (1 + 2 * length front) (verb.File x ∷ [])) named
    ∙ sym (marks_append 1 front (file_verb e ∷ []))
    ∙ ap (λ l. with_marks 1 (verb.Data None manifest ∷ l)) (sym (map-append file_verb (take i entries) (e ∷ [])))
    ∙ ap (λ l. lines_at manifest l) (sym these)

pub lines_all : (entries : List Entry) (i : ℕ) (lines : List Line) → length entries ≤ i
    → lines ≡ lines_at (manifest_text entries) (take i entries) → lines ≡ with_marks 1 (folder_objects entries)
lines_all entries i lines past at = at ∙ ap (λ l. lines_at (manifest_text entries) l) (take_all i entries past)

-- ---- it can be run

verbs_submit : (producers n : ℕ) (objects : List Verb) → 1 ≤ producers → AllByRecursion CanOffer objects → AllByRecursion (CanSubmit producers) (with_marks n objects)
verbs_submit producers n [] some each = tt
verbs_submit producers n (v ∷ objects) some each = (
  record { first = omega arith; last = some; verb = each.0 },
  (record { first = omega arith; last = some; verb = tt }, verbs_submit producers (n + 2) objects some each.1),
)

files_offer : (entries : List Entry) → AllByRecursion CanOffer (map file_verb entries)
files_offer [] = tt
files_offer (e ∷ entries) = (tt, files_offer entries)

abbrev ones : List Line → ℕ
ones lines = count_by (λ l. l.producer == 1) lines

ones_more : (before : List Line) (n : ℕ) (v : Verb) → ones (before ++ command n v ∷ []) ≡ ones before + 1
ones_more before n v = sum_by-append (λ (l : Line). cond (l.producer == 1) 1 0) before (command n v ∷ [])

numbered : (before : List Line) (n : ℕ) (objects : List Verb) → ones before + 1 ≡ n → AreNumbered before (with_marks n objects)
numbered before n [] at = tt
numbered before n (v ∷ objects) at =
    let one = ones_more before n v in
    let two = ones_more (before ++ command n v ∷ []) (n + 1) (verb.Mark None) in (
      sym at,
      (
        omega (arith, at, one),
        numbered ((before ++ command n v ∷ []) ++ command (n + 1) (verb.Mark None) ∷ []) (n + 2) objects (omega (arith, at, one, two)),
      ),
    )

-- the script of a folder can be run, if its manifest has octets
pub folder_runs : (p : Settings) (entries : List Entry) (text : List ℕ) → InRange p → Spells entries text → AreOctets text → CanRun (folder_script p entries)
folder_runs p entries text range spells octets =
    let objects = folder_objects entries in
    let count = marks_count 1 objects in
    let files = length-map entries file_verb in
    let few = spells.is.front.few in
    let producers = range.producers in record {
      range = range;
      few = omega (arith, count, files, few);
      each = verbs_submit p.producers 1 objects (range.producers.0) (subst AreOctets spells.text octets, files_offer entries);
      numbered = numbered [] 1 objects refl;
    }
