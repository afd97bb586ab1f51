-- Steps along the symbols of a block.
use Rattle.std.proofs.Common.{◌≡◌, ℕ, suc, ◌+◌, ◌-◌, ◌<◌, List, [], ◌∷◌, ◌++◌, map, take, Bool, true, false, refl, sym, ap, ◌∙◌, cond, arith}
use Rattle.std.specs.Prelude.{nat_lt, not, filter}
use Rattle.std.specs.List.{range_with_len}
use Rattle.norm_order.specs.Sets.{is_member, with_member, with_members}
use Rattle.nack_union.specs.Slots.{symbol_slot}
use Rattle.nack_union.specs.Repairs.{fresh_symbols}

-- a range from its first number
pub range_first : (a b : ℕ) → a < b → range_with_len a (b - a) ≡ a ∷ range_with_len (a + 1) (b - (a + 1))
range_first a b lt = ap (range_with_len a) (let e : b - a ≡ suc (b - (a + 1)) = omega arith in e)

filter_first : (t : ℕ → Bool) (a b : ℕ) → a < b
    → filter t (range_with_len a (b - a)) ≡ cond (t a) (a ∷ filter t (range_with_len (a + 1) (b - (a + 1)))) (filter t (range_with_len (a + 1) (b - (a + 1))))
filter_first t a b lt = ap (filter t) (range_first a b lt)

-- the first symbol was never sent
pub fresh_new : (sent : List ℕ) (block a b : ℕ) → a < b → is_member nat_lt (symbol_slot block a) sent ≡ false
    → fresh_symbols sent block a (b - a) ≡ a ∷ fresh_symbols sent block (a + 1) (b - (a + 1))
fresh_new sent block a b lt e =
    filter_first (λ symbol. not (is_member nat_lt (symbol_slot block symbol) sent)) a b lt
    ∙ ap (λ t. cond (not t) (a ∷ fresh_symbols sent block (a + 1) (b - (a + 1))) (fresh_symbols sent block (a + 1) (b - (a + 1)))) e

-- the first symbol was sent
pub fresh_old : (sent : List ℕ) (block a b : ℕ) → a < b → is_member nat_lt (symbol_slot block a) sent ≡ true
    → fresh_symbols sent block a (b - a) ≡ fresh_symbols sent block (a + 1) (b - (a + 1))
fresh_old sent block a b lt e =
    filter_first (λ symbol. not (is_member nat_lt (symbol_slot block symbol) sent)) a b lt
    ∙ ap (λ t. cond (not t) (a ∷ fresh_symbols sent block (a + 1) (b - (a + 1))) (fresh_symbols sent block (a + 1) (b - (a + 1)))) e

-- a set with the members of two lists
pub put_both : {X : Type 0} (before : X → X → Bool) (xs ys set : List X)
    → with_members before (xs ++ ys) set ≡ with_members before ys (with_members before xs set)
put_both before [] ys set = refl
put_both before (x ∷ xs) ys set = put_both before xs ys _

-- so many of the symbols from one on are asked for, where the first was never sent, and where it was
pub asked_new : (sent : List ℕ) (block a b left less : ℕ) (set more : List ℕ) → a < b → is_member nat_lt (symbol_slot block a) sent ≡ false
    → less + 1 ≡ left → more ≡ with_member nat_lt (symbol_slot block a) set
    → with_members nat_lt (map (symbol_slot block) (take less (fresh_symbols sent block (a + 1) (b - (a + 1))))) more
    ≡ with_members nat_lt (map (symbol_slot block) (take left (fresh_symbols sent block a (b - a)))) set
asked_new sent block a b left less set more lt new one is =
    ap (with_members nat_lt (map (symbol_slot block) (take less (fresh_symbols sent block (a + 1) (b - (a + 1)))))) is
    ∙ ap (λ n. with_members nat_lt (map (symbol_slot block) (take n (a ∷ fresh_symbols sent block (a + 1) (b - (a + 1))))) set) (let e : suc less ≡ left = omega (arith, one) in e)
    ∙ ap (λ xs. with_members nat_lt (map (symbol_slot block) (take left xs)) set) (sym (fresh_new sent block a b lt new))

pub asked_old : (sent : List ℕ) (block a b left less : ℕ) (set more : List ℕ) → a < b → is_member nat_lt (symbol_slot block a) sent ≡ true
    → less ≡ left → more ≡ set
    → with_members nat_lt (map (symbol_slot block) (take less (fresh_symbols sent block (a + 1) (b - (a + 1))))) more
    ≡ with_members nat_lt (map (symbol_slot block) (take left (fresh_symbols sent block a (b - a)))) set
asked_old sent block a b left less set more lt old same is =
    ap (with_members nat_lt (map (symbol_slot block) (take less (fresh_symbols sent block (a + 1) (b - (a + 1)))))) is
    ∙ ap (λ n. with_members nat_lt (map (symbol_slot block) (take n (fresh_symbols sent block (a + 1) (b - (a + 1))))) set) same
    ∙ ap (λ xs. with_members nat_lt (map (symbol_slot block) (take left xs)) set) (sym (fresh_old sent block a b lt old))
