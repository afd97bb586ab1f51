-- What a union collected stays where a call changes nothing of it.
use Rattle.std.proofs.Common.{◌≡◌, ℕ, zero, suc, ◌+◌, ◌<◌, ◌≤◌, ◌⊎◌, inl, inr, List, [], ◌∷◌, length, set, get_or, Option, None, Some, refl, sym, ap, subst, ◌∙◌, arith}
use Rattle.std.specs.Prelude.{IfSome}
use Rattle.std.specs.List.{AllByRecursion}
use Rattle.std.proofs.lemmas.Bool.{cases_eq}
use Rattle.std.proofs.lemmas.List.{get_or-set_same, get_or-set_other, length-set}
use Rattle.norm_base.specs.Settings.{Settings}
use Rattle.fec_plan.specs.Partition.{Cut, symbol_number}
use Rattle.fec_plan.specs.declared.position.Position.{Position}
use Rattle.norm_send_rules.specs.SenderState.{SenderState, Asked}
use Rattle.norm_send_rules.specs.InWindow.{next_index}
use Rattle.nack_union.specs.Kept.{Marked, Kept}
use Rattle.nack_union.specs.Collected.{Collects, IsKnownIn}
use Rattle.nack_union.proofs.Orders.{same_at}

-- what stands at a place does not depend on what is read past the end
pub any_default : (ms : List Marked) (k : ℕ) (d e : Marked) → k < length ms → get_or ms k d ≡ get_or ms k e
any_default [] k d e lt = absurd (omega arith)
any_default (m ∷ ms) zero d e lt = refl
any_default (m ∷ ms) (suc k) d e lt = any_default ms k d e (omega arith)

-- an object's marks become others, of the same cut and with as many closed symbols
known_one : (u : Kept) (k n : ℕ) (new d : Marked) (a : Asked) → k < length u.objects → new.cut ≡ (get_or u.objects k d).cut → new.closed ≡ (get_or u.objects k d).closed
    → IsKnownIn u n a → IsKnownIn (record u { objects = set u.objects k new }) n a
known_one u k n new d a lt cut closed known = record { next = known.next; last = by a.last known.last }
  where
    still : (at : Position) (j : ℕ) (e : Marked) → j < length u.objects → (j ≡ k) ⊎ (j ≡ k → ⊥)
        → symbol_number (get_or u.objects j e).cut at.block at.symbol + 1 ≤ (get_or u.objects j e).closed
        → symbol_number (get_or (set u.objects k new) j e).cut at.block at.symbol + 1 ≤ (get_or (set u.objects k new) j e).closed
    still at j e less (inl same) le =
        let here : get_or (set u.objects k new) j e ≡ new = ap (λ i. get_or (set u.objects k new) i e) same ∙ get_or-set_same u.objects k new e lt in
        let was : get_or u.objects j e ≡ get_or u.objects k d = ap (λ i. get_or u.objects i e) same ∙ any_default u.objects k e d lt in
        let number = ap (λ (m : Marked). symbol_number m.cut at.block at.symbol) here ∙ ap (λ (c : Cut). symbol_number c at.block at.symbol) cut ∙ ap (λ (m : Marked). symbol_number m.cut at.block at.symbol) (sym was) in
        let many = ap (λ (m : Marked). m.closed) here ∙ closed ∙ ap (λ (m : Marked). m.closed) (sym was) in
        omega (arith, le, number, many)
    still at j e less (inr other) le =
        subst (λ (m : Marked). symbol_number m.cut at.block at.symbol + 1 ≤ m.closed) (sym (get_or-set_other u.objects k j new e other)) le

    by : (last : Option Position)
        → IfSome last (λ at. (at.index < n) × ((j : ℕ) (e : Marked) → j < length u.objects → at.index ≡ u.first + j
        → symbol_number (get_or u.objects j e).cut at.block at.symbol + 1 ≤ (get_or u.objects j e).closed))
        → IfSome last (λ at. (at.index < n) × ((j : ℕ) (e : Marked) → j < length (set u.objects k new) → at.index ≡ u.first + j
        → symbol_number (get_or (set u.objects k new) j e).cut at.block at.symbol + 1 ≤ (get_or (set u.objects k new) j e).closed))
    by None h = h
    by (Some at) h = (
      h.0,
      λ j e less is. let within : j < length u.objects = let many = length-set u.objects k new in omega (arith, less, many) in still at j e within (cases_eq j k) (h.1 j e within is),
    )

pub known_kept : (u : Kept) (k n : ℕ) (new d : Marked) (asked : List Asked) → k < length u.objects → new.cut ≡ (get_or u.objects k d).cut → new.closed ≡ (get_or u.objects k d).closed
    → AllByRecursion (IsKnownIn u n) asked → AllByRecursion (IsKnownIn (record u { objects = set u.objects k new }) n) asked
known_kept u k n new d [] lt cut closed known = tt
known_kept u k n new d (a ∷ asked) lt cut closed known = (known_one u k n new d a lt cut closed known.0, known_kept u k n new d asked lt cut closed known.1)

pub collects_kept : (p : Settings) (s : SenderState) (u : Kept) (asked : List Asked) (k : ℕ) (new d : Marked) → k < length u.objects
    → new.asked ≡ (get_or u.objects k d).asked → new.counts ≡ (get_or u.objects k d).counts → new.first ≡ (get_or u.objects k d).first
    → AllByRecursion (IsKnownIn (record u { objects = set u.objects k new }) (next_index s)) asked → Collects p u s asked
    → Collects p (record u { objects = set u.objects k new }) s asked
collects_kept p s u asked k new d lt same_asked same_counts same_first known col = record {
  earliest = col.earliest;
  known = known;
  named = same_at (λ m. m.asked) u.first k u.objects new d lt same_asked ∙ col.named;
  counts = λ j e less block from.
      let within : j < length u.objects = let many = length-set u.objects k new in omega (arith, less, many) in
      at j e within block (cases_eq j k) ∙ col.counts j e within block (subst (λ n. n ≤ block) (front j e within (cases_eq j k)) from);
}
  where
    front : (j : ℕ) (e : Marked) → j < length u.objects → (j ≡ k) ⊎ (j ≡ k → ⊥) → (get_or (set u.objects k new) j e).first ≡ (get_or u.objects j e).first
    front j e less (inl same) =
        ap (λ i. (get_or (set u.objects k new) i e).first) same
        ∙ ap (λ (m : Marked). m.first) (get_or-set_same u.objects k new e lt)
        ∙ same_first
        ∙ ap (λ (m : Marked). m.first) (any_default u.objects k d e lt)
        ∙ ap (λ i. (get_or u.objects i e).first) (sym same)
    front j e less (inr other) = ap (λ (m : Marked). m.first) (get_or-set_other u.objects k j new e other)

    at : (j : ℕ) (e : Marked) → j < length u.objects → (block : ℕ) → (j ≡ k) ⊎ (j ≡ k → ⊥)
        → get_or (get_or (set u.objects k new) j e).counts block 0 ≡ get_or (get_or u.objects j e).counts block 0
    at j e less block (inl same) =
        ap (λ i. get_or (get_or (set u.objects k new) i e).counts block 0) same
        ∙ ap (λ (m : Marked). get_or m.counts block 0) (get_or-set_same u.objects k new e lt)
        ∙ ap (λ cs. get_or cs block 0) same_counts
        ∙ ap (λ (m : Marked). get_or m.counts block 0) (any_default u.objects k d e lt)
        ∙ ap (λ i. get_or (get_or u.objects i e).counts block 0) (sym same)
    at j e less block (inr other) = ap (λ (m : Marked). get_or m.counts block 0) (get_or-set_other u.objects k j new e other)
