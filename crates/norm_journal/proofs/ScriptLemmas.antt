-- In a script each command has a name of its own.
use Rattle.std.proofs.Common.{◌≡◌, ℕ, ◌+◌, ◌≤◌, ◌<◌, List, [], ◌∷◌, ◌++◌, Bool, true, false, cond, refl, sym, ap, subst, ◌∙◌, arith, append_assoc, append-nil}
use Rattle.std.specs.Prelude.{◌==◌, map, count_by}
use Rattle.std.proofs.lemmas.Bool.{eq-eqb}
use Rattle.std.proofs.lemmas.List.{map-append}
use Rattle.std.proofs.lemmas.List.Sums.{sum_by-append}
use Rattle.norm_base.specs.declared.node.Origin.{Origin}
use Rattle.norm_script.specs.Scripts.{AreNumbered}
use Rattle.norm_script.specs.declared.script.Line.{Line}
use Rattle.norm_safety.specs.Lawful.{same_origin}
use Rattle.norm_journal.specs.Laws.{ScriptsNameOnce}
use Rattle.norm_journal.specs.Pulling.{origin_of}
use Rattle.norm_journal.proofs.NameLemmas.{one_name, count, count_push}

-- the commands of a producer
abbrev many : ℕ → List Line → ℕ
many producer lines = count_by (λ (l : Line). l.producer == producer) lines

many_push : (producer : ℕ) (lines : List Line) (line : Line) → many producer (lines ++ line ∷ []) ≡ many producer lines + (0 + cond (line.producer == producer) 1 0)
many_push producer lines line = sum_by-append (λ (l : Line). cond (l.producer == producer) 1 0) lines (line ∷ [])

names_push : (q : Origin) (lines : List Line) (line : Line)
    → count (same_origin q) (map origin_of (lines ++ line ∷ [])) ≡ count (same_origin q) (map origin_of lines) + (0 + cond (same_origin q (origin_of line)) 1 0)
names_push q lines line = ap (count (same_origin q)) (map-append origin_of lines (line ∷ [])) ∙ count_push (same_origin q) (origin_of line) (map origin_of lines)

-- a producer's commands have numbers up to how many they are, and no name stands twice
record Named (lines : List Line) : Type 0 where
  low : (q : Origin) → many q.producer lines < q.number → count (same_origin q) (map origin_of lines) ≡ 0
  once : (q : Origin) → count (same_origin q) (map origin_of lines) ≤ 1

push_named : (lines : List Line) (line : Line) → line.number ≡ many line.producer lines + 1 → Named lines → Named (lines ++ line ∷ [])
push_named lines line numbered named = record {
  low = λ q above. low_by q (same_origin q (origin_of line)) refl above;
  once = λ q. once_by q (same_origin q (origin_of line)) refl;
} where
  once_by : (q : Origin) (b : Bool) → same_origin q (origin_of line) ≡ b → count (same_origin q) (map origin_of (lines ++ line ∷ [])) ≤ 1
  once_by q true is =
      let same = one_name q (origin_of line) is in
      let number = ap (λ (o : Origin). o.number) same ∙ numbered in
      let producer = ap (λ (o : Origin). many o.producer lines) same in
      let none = named.low q (omega (arith, number, producer)) in
      let sum = names_push q lines line ∙ ap (λ b. count (same_origin q) (map origin_of lines) + (0 + cond b 1 0)) is in
      omega (arith, none, sum)
  once_by q false is =
      let few = named.once q in
      let sum = names_push q lines line ∙ ap (λ b. count (same_origin q) (map origin_of lines) + (0 + cond b 1 0)) is in
      omega (arith, few, sum)

  low_by : (q : Origin) (b : Bool) → same_origin q (origin_of line) ≡ b → many q.producer (lines ++ line ∷ []) < q.number
      → count (same_origin q) (map origin_of (lines ++ line ∷ [])) ≡ 0
  low_by q true is above =
      let same = one_name q (origin_of line) is in
      let number = ap (λ (o : Origin). o.number) same ∙ numbered in
      let producer = ap (λ (o : Origin). many o.producer lines) same in
      let its = eq-eqb line.producer q.producer (ap (λ (o : Origin). o.producer) (sym same)) in
      let sum = many_push q.producer lines line ∙ ap (λ b. many q.producer lines + (0 + cond b 1 0)) its in
      absurd (omega (arith, number, producer, sum, above))
  low_by q false is above =
      let before = many_push q.producer lines line in
      let none = named.low q (omega (arith, before, above)) in
      let sum = names_push q lines line ∙ ap (λ b. count (same_origin q) (map origin_of lines) + (0 + cond b 1 0)) is in
      omega (arith, none, sum)

named_from : (before lines : List Line) → AreNumbered before lines → Named before → Named (before ++ lines)
named_from before [] numbered named = subst Named (sym (append-nil before)) named
named_from before (line ∷ lines) numbered named =
    subst Named (append_assoc before (line ∷ []) lines)
    (named_from (before ++ line ∷ []) lines numbered.1 (push_named before line numbered.0 named))

pub scripts_named : ScriptsNameOnce
scripts_named script is q =
    (named_from [] script.lines is.numbered (record { low = λ q above. refl; once = λ q. omega arith })).once q
