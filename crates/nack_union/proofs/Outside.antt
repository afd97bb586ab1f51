-- Objects outside of a named span, of which nothing is asked.
use Rattle.std.proofs.Common.{◌≡◌, ℕ, zero, suc, ◌+◌, ◌-◌, ◌/◌, ◌%◌, ◌<◌, ◌≤◌, ◌⊎◌, inl, inr, List, length, get_or, Bool, true, false, refl, sym, ap, ◌∙◌, arith, subst}
use Rattle.std.specs.Prelude.{◌==◌, ◌&&◌, ◌||◌, min, max}
use Rattle.std.proofs.lemmas.Bool.{cases_lt}
use Rattle.std.proofs.lemmas.Bool.Decides.{nat_tests}
use Rattle.norm_order.specs.Shapes.{Shape}
use Rattle.fec_plan.specs.Points.{position}
use Rattle.norm_ext.specs.Asking.{Span, span, lies_in, has_flag, segment_flag, block_flag, object_flag, info_flag}
use Rattle.nack_union.specs.Kept.{Marked, symbols_of_marked}
use Rattle.nack_union.specs.CollectionSound.{IsIdle, AreIdle}
use Rattle.nack_union.specs.More.{MoreOf, is_source_slot, slot_in, asks_by, named_part}
use Rattle.nack_union.proofs.Mores.{none_more}

lies_out : (i b s fi fb fs li lb ls : ℕ) → (i < fi) ⊎ (li < i) → lies_in (position i b s) (span (position fi fb fs) (position li lb ls)) ≡ false
lies_out i b s fi fb fs li lb ls (inl lt) = grind (arith, nat_tests)
lies_out i b s fi fb fs li lb ls (inr lt) = grind (arith, nat_tests)

slot_out : (i slot fi fb fs li lb ls : ℕ) → (i < fi) ⊎ (li < i) → slot_in i (span (position fi fb fs) (position li lb ls)) slot ≡ false
slot_out i zero fi fb fs li lb ls out = refl
slot_out i (suc n) fi fb fs li lb ls out = lies_out i (n / 256) (n % 256) fi fb fs li lb ls out

all_false : (g b c d e x y z l : Bool) → x ≡ false → y ≡ false → z ≡ false → l ≡ false → ((g && (((b && x) || (c && y)) || (d && z))) || (e && l)) ≡ false
all_false g b c d e x y z l xf yf zf lf =
    ap (λ v. (g && (((b && v) || (c && y)) || (d && z))) || (e && l)) xf ∙ ap (λ v. (g && (((b && false) || (c && v)) || (d && z))) || (e && l)) yf
    ∙ ap (λ v. (g && (((b && false) || (c && false)) || (d && v))) || (e && l)) zf ∙ ap (λ v. (g && (((b && false) || (c && false)) || (d && false))) || (e && v)) lf
    ∙ go g b c d e
  where
    go : (g b c d e : Bool) → ((g && (((b && false) || (c && false)) || (d && false))) || (e && false)) ≡ false
    go false b c d true = refl
    go false b c d false = refl
    go true true true true true = refl
    go true true true true false = refl
    go true true true false true = refl
    go true true true false false = refl
    go true true false true true = refl
    go true true false true false = refl
    go true true false false true = refl
    go true true false false false = refl
    go true false true true true = refl
    go true false true true false = refl
    go true false true false true = refl
    go true false true false false = refl
    go true false false true true = refl
    go true false false true false = refl
    go true false false false true = refl
    go true false false false false = refl

nothing_by : (flags : ℕ) (s : Span) (index : ℕ) (c : Shape) (info : Bool) (slot : ℕ) → (index < s.first.index) ⊎ (s.last.index < index) → asks_by flags s index c info slot ≡ false
nothing_by flags s index c info slot out =
    all_false (is_source_slot c slot) (has_flag flags segment_flag) (has_flag flags block_flag) (has_flag flags object_flag) (has_flag flags info_flag && (info && slot == 0)) _ _ _ _
    (slot_out index slot s.first.index s.first.block s.first.symbol s.last.index s.last.block s.last.symbol out)
    (slot_out index slot s.first.index s.first.block 0 s.last.index s.last.block 255 out)
    (slot_out index slot s.first.index 0 0 s.last.index 16777215 255 out)
    (lies_out index 0 0 s.first.index 0 0 s.last.index 16777215 255 out)

-- a range of places that holds all that the span names
pub named_in_all : (flags : ℕ) (s : Span) (first from to : ℕ) (old new : List Marked) → from ≡ s.first.index - first → to ≡ min (s.last.index + 1 - first) (length old)
    → ((k : ℕ) (d : Marked) → k < length old → from ≤ k → k < to → MoreOf (named_part flags s) (first + k) (get_or old k d) (get_or new k d))
    → ((k : ℕ) (d : Marked) → (k < from) ⊎ (to ≤ k) → get_or new k d ≡ get_or old k d)
    → (k : ℕ) (d : Marked) → k < length old → MoreOf (named_part flags s) (first + k) (get_or old k d) (get_or new k d)
named_in_all flags s first from to old new starts ends each rest k d lt = go (cases_lt k from) (cases_lt k to)
  where
    other : (k < from) ⊎ (to ≤ k) → (first + k < s.first.index) ⊎ (s.last.index < first + k) → MoreOf (named_part flags s) (first + k) (get_or old k d) (get_or new k d)
    other out away =
        subst (MoreOf (named_part flags s) (first + k) (get_or old k d)) (sym (rest k d out))
        (none_more _ (λ block. 0) (get_or old k d) (λ slot kept. nothing_by flags s (first + k) (symbols_of_marked (get_or old k d)) (get_or old k d).info slot away) (λ block low. refl))

    go : (k < from) ⊎ (from ≤ k) → (k < to) ⊎ (to ≤ k) → MoreOf (named_part flags s) (first + k) (get_or old k d) (get_or new k d)
    go (inl before) at = other (inl before) (inl (omega (arith, before, starts)))
    go (inr le) (inl less) = each k d lt le less
    go (inr le) (inr behind) = other (inr behind) (inr (omega (arith, behind, ends, lt)))

-- what is outside of a wider range stays as it was, and idle
pub idle_kept : (low high from to below above : ℕ) (old new : List Marked) → below ≡ min low from → above ≡ max high to → length new ≡ length old
    → ((k : ℕ) (d : Marked) → (k < from) ⊎ (to ≤ k) → get_or new k d ≡ get_or old k d) → AreIdle low high old → AreIdle below above new
idle_kept low high from to below above old new b_is a_is same rest idle k d lt (inl before) =
    subst IsIdle (sym (rest k d (inl (omega (arith, before, b_is))))) (idle k d (omega (arith, lt, same)) (inl (omega (arith, before, b_is))))
idle_kept low high from to below above old new b_is a_is same rest idle k d lt (inr behind) =
    subst IsIdle (sym (rest k d (inr (omega (arith, behind, a_is))))) (idle k d (omega (arith, lt, same)) (inr (omega (arith, behind, a_is))))
