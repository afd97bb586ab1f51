-- The members that are left of a watermark.
use Rattle.std.proofs.Common.{◌≡◌, ℕ, zero, suc, ◌+◌, ◌≤◌, List, [], ◌∷◌, ◌++◌, length, take, Option, None, Some, refl, sym, ap, ◌∙◌, arith}
use Rattle.std.specs.Prelude.{filter, not, slice_get, option_and_then}
use Rattle.std.proofs.lemmas.List.{take_all, length-map}
use Rattle.mark_book.proofs.Lookups.{filter_at_most}
use Rattle.norm_send_rules.specs.SenderState.{SenderState, Listing, Watermark}
use Rattle.norm_send_rules.specs.Watermarks.{pending, watermark_of, is_past}
use Rattle.norm_sender.specs.SenderKept.{SenderKept, Stands}
use Rattle.norm_turns.specs.Telling.{left_past}

left_get : (s : SenderState) (mark i : ℕ) → option_and_then (λ (w : Watermark). slice_get (pending s w.at) i) (watermark_of s mark) ≡ slice_get (left_past s mark) i
left_get s mark i = go (watermark_of s mark)
  where
    go : (found : Option Watermark) → option_and_then (λ (w : Watermark). slice_get (pending s w.at) i) found
        ≡ slice_get (elim found [ Some w ↦ pending s w.at | None ↦ [] ]) i
    go None = refl
    go (Some w) = refl

take_next : (xs : List ℕ) (i x : ℕ) → slice_get xs i ≡ Some x → take (suc i) xs ≡ take i xs ++ x ∷ []
take_next [] i x e = absurd (cc)
take_next (y ∷ xs) zero x e = ap (λ z. z ∷ []) (same y x e)
  where
    same : (a b : ℕ) → Some a ≡ Some b → a ≡ b
    same a b e = cc
take_next (y ∷ xs) (suc i) x e = ap (λ zs. y ∷ zs) (take_next xs i x e)

none_past : (xs : List ℕ) (i : ℕ) → slice_get xs i ≡ None → length xs ≤ i
none_past [] i e = omega arith
none_past (y ∷ xs) zero e = absurd (cc)
none_past (y ∷ xs) (suc i) e = let le = none_past xs i e in omega (arith, le)

-- one more is put
pub left_more : (s : SenderState) (mark i node : ℕ) (left more : List ℕ) → left ≡ take i (left_past s mark)
    → Some node ≡ option_and_then (λ (w : Watermark). slice_get (pending s w.at) i) (watermark_of s mark) → more ≡ left ++ node ∷ []
    → more ≡ take (i + 1) (left_past s mark)
left_more s mark i node left more so_far next put =
    let one_more : suc i ≡ i + 1 = omega arith in
    put ∙ ap (λ xs. xs ++ node ∷ []) so_far ∙ sym (take_next (left_past s mark) i node (sym (next ∙ left_get s mark i)))
    ∙ ap (λ n. take n (left_past s mark)) one_more

-- none is left behind these
pub left_ends : (s : SenderState) (mark i : ℕ) (left : List ℕ) → left ≡ take i (left_past s mark)
    → None ≡ option_and_then (λ (w : Watermark). slice_get (pending s w.at) i) (watermark_of s mark) → left ≡ left_past s mark
left_ends s mark i left so_far none =
    so_far ∙ take_all i (left_past s mark) (none_past (left_past s mark) i (sym (none ∙ left_get s mark i)))

left_few : (s : SenderState) (mark : ℕ) → length s.listings ≤ 16 → length (left_past s mark) ≤ 16
left_few s mark few = go (watermark_of s mark)
  where
    go : (found : Option Watermark) → length {A = ℕ} (elim found [ Some w ↦ pending s w.at | None ↦ [] ]) ≤ 16
    go None = omega arith
    go (Some w) =
        let same = length-map (filter (λ (l : Listing). not (is_past w.at l)) s.listings) (λ (l : Listing). l.node) in
        let most = filter_at_most (λ (l : Listing). not (is_past w.at l)) s.listings in
        omega (arith, same, most, few)

-- there are at most so many
pub left_all : (k : SenderKept) (s : SenderState) (mark i : ℕ) (left : List ℕ) → Stands k s → 16 ≤ i → left ≡ take i (left_past s mark)
    → left ≡ left_past s mark
left_all k s mark i left stands past so_far =
    let few = left_few s mark stands.reached.book.members in
    so_far ∙ take_all i (left_past s mark) (omega (arith, few, past))
