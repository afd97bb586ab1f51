-- What is added to what is asked of an object: one slot, nothing, and one part after another.
use Rattle.std.proofs.Common.{◌≡◌, ℕ, ◌<◌, ◌≤◌, ◌⊎◌, inl, inr, List, length, set, get_or, Bool, true, false, refl, sym, ap, ◌∙◌, arith, subst}
use Rattle.std.specs.Prelude.{◌==◌, ◌||◌, nat_lt, max, slice_index}
use Rattle.std.proofs.Math.Bool.{or_assoc}
use Rattle.norm_order.specs.Sets.{with_member, is_member}
use Rattle.nack_union.specs.Slots.{stands_from}
use Rattle.norm_order.specs.Shapes.{closed_in}
use Rattle.std.proofs.lemmas.Bool.{cases_eq, lt-ltb}
use Rattle.std.proofs.lemmas.List.{length-set, get_or-set_same, get_or-set_other}
use Rattle.nack_union.specs.Kept.{Marked, symbols_of_marked}
use Rattle.nack_union.specs.More.{HasMore, kept_count, count_at}
use Rattle.symbol_mask.proofs.Puts.{with_puts, or_false, same_is, other_is}

pub one_slot : (f : ℕ → Bool) (x : ℕ) (old new : Marked) → new ≡ record old { asked = with_member nat_lt x old.asked }
    → ((slot : ℕ) → f slot ≡ (slot == x)) → HasMore f (λ block. 0) old new
one_slot f x old new is same = record {
  rest = is ∙ ap (λ (xs : List ℕ). record old { asked = xs }) (sym (ap (λ (m : Marked). m.asked) is))
      ∙ ap (λ (xs : List ℕ). record old { asked = new.asked; counts = xs }) (sym (ap (λ (m : Marked). m.counts) is));
  asked = λ slot kept. ap (λ (m : Marked). is_member nat_lt slot m.asked) is ∙ with_puts slot x old.asked ∙ ap (λ b. is_member nat_lt slot old.asked || b) (sym (same slot));
  blocks = ap (λ (m : Marked). length m.counts) is;
  counted = λ block from lt. ap (λ (m : Marked). slice_index m.counts block) is ∙ max_zero (slice_index old.counts block);
}
  where
    max_zero : (n : ℕ) → n ≡ max n 0
    max_zero n = omega arith

pub none_more : (f : ℕ → Bool) (g : ℕ → ℕ) (m : Marked) → ((slot : ℕ) → stands_from m.first slot ≡ true → f slot ≡ false) → ((block : ℕ) → m.first ≤ block → g block ≡ 0) → HasMore f g m m
none_more f g m unasked uncounted = record {
  rest = refl;
  asked = λ slot kept. sym (or_false (is_member nat_lt slot m.asked) (f slot) (unasked slot kept));
  blocks = refl;
  counted = λ block from lt. let e = uncounted block from in omega (arith, e);
}

pub more_by : (f f' : ℕ → Bool) (g g' : ℕ → ℕ) (old new : Marked) → HasMore f g old new → ((slot : ℕ) → f slot ≡ f' slot) → ((block : ℕ) → g block ≡ g' block)
    → HasMore f' g' old new
more_by f f' g g' old new more asks counts = record {
  rest = more.rest;
  asked = λ slot kept. more.asked slot kept ∙ ap (λ b. is_member nat_lt slot old.asked || b) (asks slot);
  blocks = more.blocks;
  counted = λ block from lt. more.counted block from lt ∙ ap (max (slice_index old.counts block)) (counts block);
}

pub more_twice : (f f' : ℕ → Bool) (g g' : ℕ → ℕ) (old mid new : Marked) → HasMore f g old mid → HasMore f' g' mid new
    → HasMore (λ slot. f slot || f' slot) (λ block. max (g block) (g' block)) old new
more_twice f f' g g' old mid new one two = record {
  rest = two.rest ∙ ap (λ (m : Marked). record m { asked = new.asked; counts = new.counts }) one.rest;
  asked = λ slot kept.
      two.asked slot (ap (λ n. stands_from n slot) (ap (λ (m : Marked). m.first) one.rest) ∙ kept) ∙ ap (λ b. b || f' slot) (one.asked slot kept) ∙ or_assoc (is_member nat_lt slot old.asked) (f slot) (f' slot);
  blocks = two.blocks ∙ one.blocks;
  counted = λ block from lt.
      two.counted block (subst (λ n. n ≤ block) (sym (ap (λ (m : Marked). m.first) one.rest)) from) (subst (λ n. block < n) (sym one.blocks) lt)
      ∙ ap (λ n. max n (g' block)) (one.counted block from lt)
      ∙ max_assoc (slice_index old.counts block) (g block) (g' block);
}
  where
    max_assoc : (a b c : ℕ) → max (max a b) c ≡ max a (max b c)
    max_assoc a b c = omega arith

-- one block is counted
pub one_count : (block lacking : ℕ) (old new : Marked) → new ≡ record old { counts = set old.counts block (max (slice_index old.counts block) lacking) }
    → 0 < closed_in (symbols_of_marked old) block → block < length old.counts
    → HasMore (λ slot. false) (λ other. kept_count (symbols_of_marked old) other (count_at block lacking other)) old new
one_count block lacking old new is some within = record {
  rest = is ∙ ap (λ (xs : List ℕ). record old { asked = xs; counts = set old.counts block (max (slice_index old.counts block) lacking) }) (sym (ap (λ (m : Marked). m.asked) is))
      ∙ ap (λ (xs : List ℕ). record old { asked = new.asked; counts = xs }) (sym (ap (λ (m : Marked). m.counts) is));
  asked = λ slot kept. ap (λ (m : Marked). is_member nat_lt slot m.asked) is ∙ sym (or_false (is_member nat_lt slot old.asked) false refl);
  blocks = ap (λ (m : Marked). length m.counts) is ∙ length-set old.counts block (max (slice_index old.counts block) lacking);
  counted = λ other from lt. ap (λ (m : Marked). get_or m.counts other 0) is ∙ at other (cases_eq other block);
}
  where
    here : (b t : Bool) → b ≡ true → t ≡ true → lacking ≡ (elim t as (λ _. ℕ) [ true ↦ elim b as (λ _. ℕ) [ true ↦ lacking | false ↦ 0 ] | false ↦ 0 ])
    here true true e f = refl
    here true false e f = absurd (cc)
    here false t e f = absurd (cc)

    there : (b t : Bool) → b ≡ false → 0 ≡ (elim t as (λ _. ℕ) [ true ↦ elim b as (λ _. ℕ) [ true ↦ lacking | false ↦ 0 ] | false ↦ 0 ])
    there true t e = absurd (cc)
    there false true e = refl
    there false false e = refl

    max_zero : (n : ℕ) → n ≡ max n 0
    max_zero n = omega arith

    at : (other : ℕ) → (other ≡ block) ⊎ (other ≡ block → ⊥)
        → get_or (set old.counts block (max (slice_index old.counts block) lacking)) other 0 ≡ max (slice_index old.counts other) (kept_count (symbols_of_marked old) other (count_at block lacking other))
    at other (inl e) =
        ap (λ n. get_or (set old.counts block (max (slice_index old.counts block) lacking)) n 0) e
        ∙ get_or-set_same old.counts block (max (slice_index old.counts block) lacking) 0 within
        ∙ ap (λ n. max (slice_index old.counts n) lacking) (sym e)
        ∙ ap (max (slice_index old.counts other))
        (here (block == other) (nat_lt 0 (closed_in (symbols_of_marked old) other)) (same_is block other (sym e))
        (ap (λ n. nat_lt 0 (closed_in (symbols_of_marked old) n)) e ∙ lt-ltb 0 (closed_in (symbols_of_marked old) block) some))
    at other (inr ne) =
        get_or-set_other old.counts block other (max (slice_index old.counts block) lacking) 0 ne
        ∙ max_zero (slice_index old.counts other)
        ∙ ap (max (slice_index old.counts other)) (there (block == other) (nat_lt 0 (closed_in (symbols_of_marked old) other)) (other_is block other (λ e. ne (sym e))))
