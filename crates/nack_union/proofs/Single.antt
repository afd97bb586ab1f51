-- A part that asks for something of one object alone.
use Rattle.std.proofs.Common.{◌≡◌, ℕ, ◌+◌, ◌<◌, ◌≤◌, ◌⊎◌, inl, inr, List, length, set, get_or, Bool, true, false, refl, sym, ap, ◌∙◌, arith, subst}
use Rattle.std.specs.Prelude.{◌==◌, min, max}
use Rattle.std.proofs.lemmas.Bool.{cases_eq, eq-eqb, ne_eqb}
use Rattle.std.proofs.lemmas.List.{length-set, get_or-set_same, get_or-set_other}
use Rattle.fec_plan.specs.declared.position.Position.{Position}
use Rattle.nack_union.specs.Kept.{Kept, Marked, symbols_of_marked}
use Rattle.nack_union.specs.CollectionSound.{AreIdle}
use Rattle.nack_union.specs.More.{HasMore, HasPart, MoreOf, Part, count_part, kept_count, count_at}
use Rattle.nack_union.proofs.Collections.{any_default}
use Rattle.nack_union.proofs.Mores.{none_more, more_by}
use Rattle.nack_union.proofs.Outside.{idle_kept}

-- what is asked of one object is asked of all, where nothing is of the others
pub part_single : (part : Part) (u : Kept) (i : ℕ) (new m : Marked) → i < length u.objects → m ≡ get_or u.objects i m → MoreOf part (u.first + i) m new
    → ((k : ℕ) (x : Marked) → (k ≡ i → ⊥) → MoreOf part (u.first + k) x x) → HasPart part u (record u { objects = set u.objects i new })
part_single part u i new m lt was more others = record {
  first = refl;
  objects = length-set u.objects i new;
  each = λ k d within. go k d (cases_eq k i);
}
  where
    go : (k : ℕ) (d : Marked) → (k ≡ i) ⊎ (k ≡ i → ⊥) → MoreOf part (u.first + k) (get_or u.objects k d) (get_or (set u.objects i new) k d)
    go k d (inl e) =
        subst (λ j. MoreOf part (u.first + j) (get_or u.objects j d) (get_or (set u.objects i new) j d)) (sym e)
        (subst (MoreOf part (u.first + i) (get_or u.objects i d)) (sym (get_or-set_same u.objects i new d lt))
        (subst (λ (x : Marked). MoreOf part (u.first + i) x new) (was ∙ any_default u.objects i m d lt) more))
    go k d (inr other) = subst (MoreOf part (u.first + k) (get_or u.objects k d)) (sym (get_or-set_other u.objects i k new d other)) (others k (get_or u.objects k d) other)

-- the range of places of which something is asked is widened to one more
pub idle_single : (low high below above i : ℕ) (ms : List Marked) (new : Marked) → below ≡ min low i → above ≡ max high (i + 1) → AreIdle low high ms → AreIdle below above (set ms i new)
idle_single low high below above i ms new from to idle =
    idle_kept low high i (i + 1) below above ms (set ms i new) from to (length-set ms i new) (λ k d out. get_or-set_other ms i k new d (apart k out)) idle
  where
    apart : (k : ℕ) → (k < i) ⊎ (i + 1 ≤ k) → k ≡ i → ⊥
    apart k (inl lt) e = omega (arith, lt, e)
    apart k (inr le) e = omega (arith, le, e)

abbrev counts_if : Marked → Position → ℕ → Bool → ℕ
counts_if m at block same = elim same [ true ↦ kept_count (symbols_of_marked m) block (count_at at.block at.symbol block) | false ↦ 0 ]

-- a block is counted of the object that has its index
pub counted_there : (at : Position) (index : ℕ) (m new : Marked) → at.index ≡ index
    → HasMore (λ slot. false) (λ block. kept_count (symbols_of_marked m) block (count_at at.block at.symbol block)) m new → MoreOf (count_part at) index m new
counted_there at index m new is more = more_by _ _ _ _ m new more (λ slot. refl) (λ block. sym (ap (counts_if m at block) (eq-eqb at.index index is)))

-- and of no other
pub counted_alone : (at : Position) (first i : ℕ) → at.index ≡ first + i → (k : ℕ) (x : Marked) → (k ≡ i → ⊥) → MoreOf (count_part at) (first + k) x x
counted_alone at first i is k x other =
    none_more (λ slot. false) (λ block. counts_if x at block (at.index == first + k)) x (λ slot kept. refl)
    (λ block low. ap (counts_if x at block) (ne_eqb at.index (first + k) (λ e. other (omega (arith, e, is)))))
