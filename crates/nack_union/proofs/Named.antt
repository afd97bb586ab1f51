-- What flags ask of a named span, part by part, and of the objects of a range.
use Rattle.std.proofs.Common.{◌≡◌, ℕ, ◌+◌, ◌<◌, ◌≤◌, ◌⊎◌, inl, inr, List, length, set, get_or, Bool, true, false, refl, sym, ap, ◌∙◌, arith, subst}
use Rattle.std.specs.Prelude.{◌==◌, ◌&&◌, ◌||◌, max, nat_lt, slice_index}
use Rattle.std.proofs.lemmas.Bool.{cases_eq, cases_lt}
use Rattle.std.proofs.lemmas.Bool.Decides.{nat_tests}
use Rattle.std.proofs.lemmas.List.{get_or-set_same, get_or-set_other, get_or_read}
use Rattle.fec_plan.specs.Points.{position}
use Rattle.norm_ext.specs.Asking.{Span, lies_in, block_span, object_span, has_flag, segment_flag, block_flag, object_flag, info_flag}
use Rattle.norm_order.specs.Sets.{is_member}
use Rattle.norm_order.specs.Shapes.{Shape}
use Rattle.nack_union.specs.Coverage.{HasSourcesFrom}
use Rattle.nack_union.specs.Slots.{stands_from}
use Rattle.symbol_mask.proofs.Puts.{other_is}
use Rattle.nack_union.specs.Kept.{Marked, symbols_of_marked}
use Rattle.nack_union.specs.More.{HasMore, is_source_slot, slot_in, asks_by}
use Rattle.nack_union.proofs.Mores.{more_by, more_twice}

pull : (b g y : Bool) → (b && (g && y)) ≡ (g && (b && y))
pull true g y = refl
pull false true y = refl
pull false false y = refl

dist : (g x y : Bool) → ((g && x) || (g && y)) ≡ (g && (x || y))
dist true x y = refl
dist false x y = refl

with_true : (a l : Bool) → l ≡ true → a ≡ (a && l)
with_true true l e = sym e
with_true false l e = refl

shuffle : (b c d e g x y z i l : Bool) → l ≡ true
    → ((((b && (g && x)) || (c && (g && y))) || (d && (g && z))) || (e && i)) ≡ ((g && (((b && x) || (c && y)) || (d && z))) || ((e && i) && l))
shuffle b c d e g x y z i l yes_l =
    ap (λ v. ((v || (c && (g && y))) || (d && (g && z))) || (e && i)) (pull b g x)
    ∙ ap (λ v. (((g && (b && x)) || v) || (d && (g && z))) || (e && i)) (pull c g y)
    ∙ ap (λ v. (((g && (b && x)) || (g && (c && y))) || v) || (e && i)) (pull d g z)
    ∙ ap (λ v. (v || (g && (d && z))) || (e && i)) (dist g (b && x) (c && y))
    ∙ ap (λ v. v || (e && i)) (dist g ((b && x) || (c && y)) (d && z))
    ∙ ap (λ v. (g && (((b && x) || (c && y)) || (d && z))) || v) (with_true (e && i) l yes_l)

in_objects : (index : ℕ) (s : Span) → s.first.index ≤ index → index ≤ s.last.index → lies_in (position index 0 0) (object_span s) ≡ true
in_objects index s from to = plain s.first.index s.last.index from to
  where
    plain : (i j : ℕ) → i ≤ index → index ≤ j → lies_in (position index 0 0) (record { first = position i 0 0; last = position j 16777215 255 }) ≡ true
    plain i j from to = grind (arith, nat_tests)

-- the parts of what flags ask, one after another
pub named_more : (flags : ℕ) (s : Span) (index : ℕ) (old a b c new : Marked) (f g h i : Bool) → f ≡ has_flag flags segment_flag → g ≡ has_flag flags block_flag
    → h ≡ has_flag flags object_flag → i ≡ has_flag flags info_flag → s.first.index ≤ index → index ≤ s.last.index
    → HasMore (λ slot. f && (is_source_slot (symbols_of_marked old) slot && slot_in index s slot)) (λ block. 0) old a
    → HasMore (λ slot. g && (is_source_slot (symbols_of_marked a) slot && slot_in index (block_span s) slot)) (λ block. 0) a b
    → HasMore (λ slot. h && (is_source_slot (symbols_of_marked b) slot && slot_in index (object_span s) slot)) (λ block. 0) b c
    → HasMore (λ slot. i && (c.info && slot == 0)) (λ block. 0) c new
    → HasMore (asks_by flags s index (symbols_of_marked old) old.info) (λ block. 0) old new
named_more flags s index old a b c new f g h i f_is g_is h_is i_is from to one two three four =
    let cut_a = ap symbols_of_marked one.rest in
    let cut_b = ap symbols_of_marked two.rest ∙ cut_a in
    let info = ap (λ (m : Marked). m.info) three.rest ∙ ap (λ (m : Marked). m.info) two.rest ∙ ap (λ (m : Marked). m.info) one.rest in
    more_by _ _ _ _ old new
    (more_twice _ _ _ _ old c new
    (more_twice _ _ _ _ old b c
    (more_twice _ _ _ _ old a b one
    (subst (λ (cut : Shape). HasMore (λ slot. g && (is_source_slot cut slot && slot_in index (block_span s) slot)) (λ block. 0) a b) cut_a two))
    (subst (λ (cut : Shape). HasMore (λ slot. h && (is_source_slot cut slot && slot_in index (object_span s) slot)) (λ block. 0) b c) cut_b three))
    (subst (λ has. HasMore (λ slot. i && (has && slot == 0)) (λ block. 0) c new) info four))
    (λ slot.
    ap (λ v. (((v && (is_source_slot (symbols_of_marked old) slot && slot_in index s slot)) || (g && (is_source_slot (symbols_of_marked old) slot && slot_in index (block_span s) slot)))
    || (h && (is_source_slot (symbols_of_marked old) slot && slot_in index (object_span s) slot))) || (i && (old.info && slot == 0))) f_is
    ∙ ap (λ v. (((has_flag flags segment_flag && (is_source_slot (symbols_of_marked old) slot && slot_in index s slot)) || (v && (is_source_slot (symbols_of_marked old) slot && slot_in index (block_span s) slot)))
    || (h && (is_source_slot (symbols_of_marked old) slot && slot_in index (object_span s) slot))) || (i && (old.info && slot == 0))) g_is
    ∙ ap (λ v. (((has_flag flags segment_flag && (is_source_slot (symbols_of_marked old) slot && slot_in index s slot)) || (has_flag flags block_flag && (is_source_slot (symbols_of_marked old) slot && slot_in index (block_span s) slot)))
    || (v && (is_source_slot (symbols_of_marked old) slot && slot_in index (object_span s) slot))) || (i && (old.info && slot == 0))) h_is
    ∙ ap (λ v. (((has_flag flags segment_flag && (is_source_slot (symbols_of_marked old) slot && slot_in index s slot)) || (has_flag flags block_flag && (is_source_slot (symbols_of_marked old) slot && slot_in index (block_span s) slot)))
    || (has_flag flags object_flag && (is_source_slot (symbols_of_marked old) slot && slot_in index (object_span s) slot))) || (v && (old.info && slot == 0))) i_is
    ∙ shuffle (has_flag flags segment_flag) (has_flag flags block_flag) (has_flag flags object_flag) (has_flag flags info_flag) (is_source_slot (symbols_of_marked old) slot)
    (slot_in index s slot) (slot_in index (block_span s) slot) (slot_in index (object_span s) slot) (old.info && slot == 0)
    (lies_in (position index 0 0) (object_span s)) (in_objects index s from to))
    (λ block. refl)

-- What flags ask for is asked for already where all closed source symbols are, or no flag asks for them, and the info, or none asks for that.
sought : (g b x c y d z i inf eq l : Bool) → ((g && (((b && x) || (c && y)) || (d && z))) || ((i && (inf && eq)) && l)) ≡ true
    → ((g ≡ true) × (((b || c) || d) ≡ true)) ⊎ ((i ≡ true) × (inf ≡ true) × (eq ≡ true))
sought g b x c y d z i inf eq l e = by g b x c y d z e
  where
    of_info : (i inf eq : Bool) → ((i && (inf && eq)) && l) ≡ true → (i ≡ true) × (inf ≡ true) × (eq ≡ true)
    of_info true true true e = (refl, refl, refl)
    of_info true true false e = absurd (cc)
    of_info true false eq e = absurd (cc)
    of_info false inf eq e = absurd (cc)

    by : (g b x c y d z : Bool) → ((g && (((b && x) || (c && y)) || (d && z))) || ((i && (inf && eq)) && l)) ≡ true
        → ((g ≡ true) × (((b || c) || d) ≡ true)) ⊎ ((i ≡ true) × (inf ≡ true) × (eq ≡ true))
    by true true x c y d z e = inl (refl, refl)
    by true false x true y d z e = inl (refl, refl)
    by true false x false y true z e = inl (refl, refl)
    by true false x false y false z e = inr (of_info i inf eq e)
    by false b x c y d z e = inr (of_info i inf eq e)

none_new : (f : ℕ → Bool) (m : Marked) → ((slot : ℕ) → stands_from m.first slot ≡ true → f slot ≡ true → is_member nat_lt slot m.asked ≡ true) → HasMore f (λ block. 0) m m
none_new f m there = record {
  rest = refl;
  asked = λ slot kept. joined (is_member nat_lt slot m.asked) (f slot) (there slot kept);
  blocks = refl;
  counted = λ block from lt. let e : slice_index m.counts block ≡ max (slice_index m.counts block) 0 = omega arith in e;
}
  where
    joined : (a b : Bool) → (b ≡ true → a ≡ true) → a ≡ (a || b)
    joined true b has = refl
    joined false true has = has refl
    joined false false has = refl

pub settled_more : (flags : ℕ) (m : Marked) (sources info : Bool) → sources ≡ ((has_flag flags segment_flag || has_flag flags block_flag) || has_flag flags object_flag)
    → info ≡ has_flag flags info_flag → (sources ≡ true → HasSourcesFrom m.first (symbols_of_marked m) m.asked)
    → (info ≡ true → m.info ≡ true → is_member nat_lt 0 m.asked ≡ true)
    → (index : ℕ) (s : Span) → HasMore (asks_by flags s index (symbols_of_marked m) m.info) (λ block. 0) m m
settled_more flags m sources info sources_is info_is all has index s = none_new _ m there
  where
    there : (slot : ℕ) → stands_from m.first slot ≡ true → asks_by flags s index (symbols_of_marked m) m.info slot ≡ true → is_member nat_lt slot m.asked ≡ true
    there slot kept asks =
        elim (sought (is_source_slot (symbols_of_marked m) slot) (has_flag flags segment_flag) (slot_in index s slot) (has_flag flags block_flag) (slot_in index (block_span s) slot)
        (has_flag flags object_flag) (slot_in index (object_span s) slot) (has_flag flags info_flag) m.info (slot == 0) (lies_in (position index 0 0) (object_span s)) asks)
        [ inl l ↦ all (sources_is ∙ l.1) slot kept l.0 | inr r ↦ first (cases_eq slot 0) r ]
      where
        first : (slot ≡ 0) ⊎ (slot ≡ 0 → ⊥) → (has_flag flags info_flag ≡ true) × (m.info ≡ true) × ((slot == 0) ≡ true) → is_member nat_lt slot m.asked ≡ true
        first (inl e) r = ap (λ n. is_member nat_lt n m.asked) e ∙ has (info_is ∙ r.0) r.1
        first (inr ne) r = absurd (let f = other_is slot 0 ne in let g = r.2 in cc)

-- a loop over places: one place more
pub place_done : (P : ℕ → Marked → Marked → Type 0) (old now : List Marked) (from place : ℕ) (here new : Marked) → length now ≡ length old → place < length now
    → ((k : ℕ) (d : Marked) → k < length old → from ≤ k → k < place → P k (get_or old k d) (get_or now k d))
    → ((k : ℕ) (d : Marked) → (k < from) ⊎ (place ≤ k) → get_or now k d ≡ get_or old k d)
    → here ≡ get_or now place here → P place (get_or now place here) new
    → (k : ℕ) (d : Marked) → k < length old → from ≤ k → k < place + 1 → P k (get_or old k d) (get_or (set now place new) k d)
place_done P old now from place here new same lt each rest is done k d less le below = go (cases_eq k place)
  where
    go : (k ≡ place) ⊎ (k ≡ place → ⊥) → P k (get_or old k d) (get_or (set now place new) k d)
    go (inl e) =
        subst (λ j. P j (get_or old j d) (get_or (set now place new) j d)) (sym e)
        (subst (P place (get_or old place d)) (sym (get_or-set_same now place new d lt))
        (subst (λ m. P place m new) (sym is ∙ get_or_read now place here lt is d ∙ rest place d (inr (omega arith))) done))
    go (inr ne) =
        subst (P k (get_or old k d)) (sym (get_or-set_other now place k new d ne)) (each k d less le (omega (arith, below, ne)))

pub place_kept : (old now : List Marked) (from place : ℕ) (new : Marked) → from ≤ place
    → ((k : ℕ) (d : Marked) → (k < from) ⊎ (place ≤ k) → get_or now k d ≡ get_or old k d)
    → (k : ℕ) (d : Marked) → (k < from) ⊎ (place + 1 ≤ k) → get_or (set now place new) k d ≡ get_or old k d
place_kept old now from place new le rest k d (inl before) = get_or-set_other now place k new d (λ e. omega (arith, e, before, le)) ∙ rest k d (inl before)
place_kept old now from place new le rest k d (inr behind) = get_or-set_other now place k new d (λ e. omega (arith, e, behind)) ∙ rest k d (inr (omega (arith, behind)))

pub not_in : (k from to place : ℕ) → place ≤ max from to → (k < from) ⊎ (to ≤ k) → (k < from) ⊎ (place ≤ k)
not_in k from to place most (inl before) = inl before
not_in k from to place most (inr behind) = go (cases_lt k from)
  where
    go : (k < from) ⊎ (from ≤ k) → (k < from) ⊎ (place ≤ k)
    go (inl lt) = inl lt
    go (inr le) = inr (omega (arith, most, behind, le))
