-- One more name, and the last place of each name is found still.
use Rattle.std.proofs.Common.{◌≡◌, ℕ, ◌+◌, ◌<◌, List, [], ◌∷◌, ◌++◌, length, Option, Some, refl, sym, ap, ◌∙◌, ⊎_elim, arith}
use Rattle.std.proofs.lemmas.List.{get_or_append_left, get_or_at, length-append}
use Rattle.std.proofs.lemmas.Option.{slice_get-get_or, slice_get_within, get_or_from_slice_get}
use Rattle.std.proofs.lemmas.Bool.{cases_eq}
use Rattle.norm_record.specs.Latest.{IsLast, FindsLastBy}

-- the length with one more
longer : {X : Type 0} (xs : List X) (x : X) → length (xs ++ x ∷ []) ≡ length xs + 1
longer xs x = length-append xs (x ∷ [])

-- a name that is last of more names, and not the one that joined, was last before
was_last : (names : List ℕ) (more name at : ℕ) → at < length names → IsLast (names ++ more ∷ []) name at → IsLast names name at
was_last names more name at lt last = record {
  has = slice_get-get_or names at 0 lt
      ∙ ap Some (sym (get_or_append_left names (more ∷ []) 0 at lt) ∙ get_or_from_slice_get (names ++ more ∷ []) at name 0 last.has);
  last = λ later behind within e. last.last later behind (let l = longer names more in omega (arith, l, within))
      (get_or_append_left names (more ∷ []) 0 later within ∙ e);
}

pub one_more_name : (names : List ℕ) (more at : ℕ) (before after : ℕ → Option ℕ) → FindsLastBy names before → at ≡ length names
    → after more ≡ Some at → ((q : ℕ) → (q ≡ more → ⊥) → after q ≡ before q) → FindsLastBy (names ++ more ∷ []) after
one_more_name names more at before after finds is put others =
    λ name place last.
    let within = slice_get_within (names ++ more ∷ []) place name last.has in
    let l = longer names more in
    ⊎_elim
    (λ (e : place ≡ length names).
    ap after (sym (get_or_from_slice_get (names ++ more ∷ []) place name 0 last.has) ∙ get_or_at names more [] 0 place (sym e))
    ∙ put ∙ ap Some (is ∙ sym e))
    (λ (ne : place ≡ length names → ⊥).
    let lt : place < length names = omega (arith, within, l, ne) in
    others name (λ e. last.last (length names) lt (omega (arith, l)) (get_or_at names more [] 0 (length names) refl ∙ sym e))
    ∙ finds name place (was_last names more name place lt last))
    (cases_eq place (length names))
