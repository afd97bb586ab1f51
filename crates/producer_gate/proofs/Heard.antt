-- What a seat knows once it took a note in, and the last entry of a mark.
use Rattle.std.proofs.Common.{◌≡◌, ℕ, ◌+◌, ◌<◌, true, false, cond, eqb, List, [], ◌∷◌, ◌++◌, length, take, map, reverse, find, Some, refl, ap, sym, ◌∙◌, subst}
use mathlib.Core.List.{IsPrefix}
use Rattle.std.proofs.lemmas.List.{map-append, reverse-append, take_more}
use Rattle.producer_gate.specs.declared.words.Role.{Role}
use Rattle.producer_gate.specs.declared.words.Role.TheVariants.{Writes, Reads, Gone}
use Rattle.producer_gate.specs.declared.entries.Seen.TheVariants.{Known}
use Rattle.producer_gate.specs.Entries.{Entry, entry_in, outcome_in, found_in, last_of}
use Rattle.producer_gate.specs.Plays.{IsWriter, IsReader, own_in, asked_in, known_in, told_in, noted, heard}
use Rattle.producer_gate.specs.Posts.{words_at}

-- a reader's list, once its note was compared
pub compared : (v r note p : Role) → IsWriter v → IsReader r → note ≡ noted r → p ≡ heard v note → IsPrefix (asked_in p) (own_in p) → IsPrefix (known_in r) (own_in v)
compared (Writes l a b q) (Reads known told) note p h i n e pre =
    let t : p ≡ Writes l a b known = e ∙ (λ j. heard (Writes l a b q) (n j)) in
    subst (λ (z : Role). IsPrefix (asked_in z) (own_in z)) t pre
compared (Writes l a b q) (Writes l' a' b' q') note p h i n e pre = absurd i
compared (Writes l a b q) Gone note p h i n e pre = absurd i
compared (Reads known told) r note p h i n e pre = absurd h
compared Gone r note p h i n e pre = absurd h

-- a reader that took a note in knows what it knew, and was told what the note knows
pub told : (v note p : Role) → IsReader v → p ≡ heard v note → IsReader p × (known_in p ≡ known_in v) × (told_in p ≡ known_in note)
told (Reads known t) note p h e = (subst IsReader (sym e) tt, (λ i. known_in (e i)), λ i. told_in (e i))
told (Writes l a b q) note p h e = absurd h
told Gone note p h e = absurd h

-- a reader that took a note in and then looks sees all of both
pub sees : (v note p w : Role) → IsReader v → p ≡ heard v note → IsPrefix (known_in p) (known_in w) → IsPrefix (told_in p) (known_in w) → IsPrefix (known_in v) (known_in w) × IsPrefix (known_in note) (known_in w)
sees v note p w h e old new =
    let t = told v note p h e in (
      subst (λ (z : List (ℕ × ℕ)). IsPrefix z (known_in w)) t.1 old,
      subst (λ (z : List (ℕ × ℕ)). IsPrefix z (known_in w)) t.2 new,
    )

abbrev entries_to : List (ℕ × ℕ) → ℕ → List Entry
entries_to known k = map entry_in (take k known)

-- the last entry of a mark, among one entry more
pub last_more : (mark : ℕ) (known : List (ℕ × ℕ)) (k : ℕ) → k < length known
    → last_of mark (map entry_in (take (k + 1) known)) ≡ cond (eqb (words_at known k).0 mark) (Known (outcome_in (words_at known k).1)) (last_of mark (map entry_in (take k known)))
last_more mark known k lt =
    let x : ℕ × ℕ = words_at known k in
    let p = λ (e : Entry). eqb e.mark mark in
    let longer : entries_to known (k + 1) ≡ entries_to known k ++ entry_in x ∷ [] =
    ap (map entry_in) (take_more known k (0, 0) lt) ∙ map-append entry_in (take k known) (x ∷ []) in
    let turned : reverse (entries_to known (k + 1)) ≡ entry_in x ∷ reverse (entries_to known k) =
    ap reverse longer ∙ reverse-append (entries_to known k) (entry_in x ∷ []) in
    let before : List Entry = reverse (entries_to known k) in
    ap (λ (z : List Entry). found_in (find p z)) turned
    ∙ elim (eqb x.0 mark) as (λ b. found_in (cond b (Some (entry_in x)) (find p before)) ≡ cond b (Known (outcome_in x.1)) (found_in (find p before))) [
      | true ↦ refl
      | false ↦ refl
    ]
