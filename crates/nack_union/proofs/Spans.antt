-- Slots of an object that lie in a span of positions.
use Rattle.std.proofs.Common.{◌≡◌, ℕ, zero, suc, ◌+◌, ◌*◌, ◌/◌, ◌%◌, ◌<◌, ◌≤◌, ◌⊎◌, inl, inr, Bool, true, false, refl, sym, ap, ◌∙◌, arith, subst}
use Rattle.std.specs.Prelude.{◌==◌, ◌&&◌, not, nat_lt}
use Rattle.std.proofs.lemmas.Bool.{cases_eq}
use Rattle.std.proofs.lemmas.Bool.Decides.{nat_tests}
use Rattle.std.proofs.Math.Nat.{div-add-mod}
use Rattle.fec_plan.specs.Partition.{blocks}
use Rattle.norm_order.specs.Shapes.{Shape, closed_in, encoded_in}
use Rattle.fec_plan.specs.Points.{position, position_before}
use Rattle.fec_plan.specs.declared.position.Position.{Position}
use Rattle.norm_ext.specs.Asking.{span, lies_in}
use Rattle.symbol_mask.proofs.Puts.{same_is, other_is}
use borrow.Author.Tests.{ltb-true}
use Rattle.nack_union.specs.Slots.{symbol_slot}
use Rattle.nack_union.specs.More.{is_source_slot, is_encoded_slot, slot_in, slot_from, slot_behind, is_slot_of}
use Rattle.symbol_mask.specs.Words.{in_run}

start_here : (i n fi b s : ℕ) → s < 256 → i ≡ fi
    → not (nat_lt (suc n) (256 * b + s + 1)) ≡ not (position_before (position i (n / 256) (n % 256)) (position fi b s))
start_here i n fi b s low e = grind (arith, nat_tests, div-add-mod n 256)

start_later : (i n fi b s : ℕ) → fi ≤ i → (i ≡ fi → ⊥) → not (nat_lt (suc n) 0) ≡ not (position_before (position i (n / 256) (n % 256)) (position fi b s))
start_later i n fi b s le ne = grind (arith, nat_tests)

end_here : (i n li b s : ℕ) → s < 256 → i ≡ li
    → nat_lt (suc n) (256 * b + s + 1 + 1) ≡ not (position_before (position li b s) (position i (n / 256) (n % 256)))
end_here i n li b s low e = grind (arith, nat_tests, div-add-mod n 256)

end_before : (i n m li b s : ℕ) → i ≤ li → (i ≡ li → ⊥) → n / 256 < m
    → nat_lt (suc n) (256 * m + 1) ≡ not (position_before (position li b s) (position i (n / 256) (n % 256)))
end_before i n m li b s le ne within = grind (arith, nat_tests, div-add-mod n 256)

both : (g x y x' y' : Bool) → x ≡ x' → (g ≡ true → y ≡ y') → (g && (x && y)) ≡ (g && (x' && y'))
both true x y x' y' e f = ap (λ b. b && y) e ∙ ap (λ b. x' && b) (f refl)
both false x y x' y' e f = refl

first_true : (x y : Bool) → (x && y) ≡ true → x ≡ true
first_true true y e = refl
first_true false y e = e

-- where a span begins
start_is : (index n : ℕ) (first : Position) → first.symbol < 256 → first.index ≤ index
    → not (nat_lt (suc n) (slot_from index first)) ≡ not (position_before (position index (n / 256) (n % 256)) first)
start_is index n first low from = go (cases_eq index first.index)
  where
    go : (index ≡ first.index) ⊎ (index ≡ first.index → ⊥)
        → not (nat_lt (suc n) (slot_from index first)) ≡ not (position_before (position index (n / 256) (n % 256)) first)
    go (inl e) =
        ap (λ b. not (nat_lt (suc n) (elim b as (λ _. ℕ) [ true ↦ symbol_slot first.block first.symbol | false ↦ 0 ]))) (same_is index first.index e)
        ∙ start_here index n first.index first.block first.symbol low e
    go (inr ne) =
        ap (λ b. not (nat_lt (suc n) (elim b as (λ _. ℕ) [ true ↦ symbol_slot first.block first.symbol | false ↦ 0 ]))) (other_is index first.index ne)
        ∙ start_later index n first.index first.block first.symbol from ne

-- where it ends
end_is : (index n m : ℕ) (last : Position) → last.symbol < 256 → index ≤ last.index → n / 256 < m
    → nat_lt (suc n) (slot_behind index last (256 * m + 1)) ≡ not (position_before last (position index (n / 256) (n % 256)))
end_is index n m last low to within = go (cases_eq index last.index)
  where
    go : (index ≡ last.index) ⊎ (index ≡ last.index → ⊥)
        → nat_lt (suc n) (slot_behind index last (256 * m + 1)) ≡ not (position_before last (position index (n / 256) (n % 256)))
    go (inl e) =
        ap (λ b. nat_lt (suc n) (elim b as (λ _. ℕ) [ true ↦ symbol_slot last.block last.symbol + 1 | false ↦ 256 * m + 1 ])) (same_is index last.index e)
        ∙ end_here index n last.index last.block last.symbol low e
    go (inr ne) =
        ap (λ b. nat_lt (suc n) (elim b as (λ _. ℕ) [ true ↦ symbol_slot last.block last.symbol + 1 | false ↦ 256 * m + 1 ])) (other_is index last.index ne)
        ∙ end_before index n m last.index last.block last.symbol to ne within

-- by the two ends of a span, in slots
between : (a : Bool) (n m index : ℕ) (first last : Position) → first.symbol < 256 → last.symbol < 256 → first.index ≤ index → index ≤ last.index
    → ((nat_lt (n / 256) m && a) && in_run (slot_from index first) (slot_behind index last (256 * m + 1)) (suc n))
    ≡ ((nat_lt (n / 256) m && a) && lies_in (position index (n / 256) (n % 256)) (span first last))
between a n m index first last low high from to =
    both (nat_lt (n / 256) m && a) _ _ _ _ (start_is index n first low from)
    (λ g. end_is index n m last high to (ltb-true (n / 256) m (first_true (nat_lt (n / 256) m) a g)))

pub in_span : (c : Shape) (index : ℕ) (first last : Position) (slot : ℕ) → first.symbol < 256 → last.symbol < 256 → first.index ≤ index → index ≤ last.index
    → (is_source_slot c slot && in_run (slot_from index first) (slot_behind index last (256 * blocks c.cut + 1)) slot)
    ≡ (is_source_slot c slot && slot_in index (span first last) slot)
in_span c index first last zero low high from to = refl
in_span c index first last (suc n) low high from to =
    between (nat_lt (n % 256) (closed_in c (n / 256))) n (blocks c.cut) index first last low high from to

plain_at : (many k block symbol n : ℕ) → symbol < 256 → block < many → (n / 256 ≡ block → symbol < k)
    → ((nat_lt (n / 256) many && nat_lt (n % 256) k) && (block == n / 256 && symbol == n % 256)) ≡ (suc n == 256 * block + symbol + 1)
plain_at many k block symbol n few within named = go (cases_eq (n / 256) block)
  where
    here : n / 256 ≡ block → symbol < k
        → ((nat_lt (n / 256) many && nat_lt (n % 256) k) && (block == n / 256 && symbol == n % 256)) ≡ (suc n == 256 * block + symbol + 1)
    here e lt = grind (arith, nat_tests, div-add-mod n 256)

    go : (n / 256 ≡ block) ⊎ (n / 256 ≡ block → ⊥)
        → ((nat_lt (n / 256) many && nat_lt (n % 256) k) && (block == n / 256 && symbol == n % 256)) ≡ (suc n == 256 * block + symbol + 1)
    go (inl e) = here e (named e)
    go (inr ne) = grind (arith, nat_tests, div-add-mod n 256)

-- the one slot of an encoded symbol
pub at_symbol : (c : Shape) (block symbol slot : ℕ) → symbol < 256 → block < blocks c.cut → symbol < encoded_in c block
    → (is_encoded_slot c slot && is_slot_of block symbol slot) ≡ (slot == symbol_slot block symbol)
at_symbol c block symbol zero few within named = grind (arith, nat_tests)
at_symbol c block symbol (suc n) few within named =
    plain_at (blocks c.cut) (encoded_in c (n / 256)) block symbol n few within (λ e. subst (λ i. symbol < encoded_in c i) (sym e) named)
