-- The source symbols and infos that stand in an order, as members.
use Rattle.std.proofs.Common.{◌≡◌, ℕ, zero, suc, ◌+◌, ◌<◌, ◌≤◌, ◌⊎◌, inl, inr, List, [], ◌∷◌, map, Bool, true, false, Some, None, refl, sym, ap, subst, ◌∙◌, arith}
use Rattle.std.specs.Prelude.{slice_get, ◌||◌}
use Rattle.std.specs.List.{list_any, range_with_len}
use Rattle.std.proofs.lemmas.Bool.{cases_eq}
use Rattle.fec_plan.specs.Points.{position}
use Rattle.fec_plan.specs.declared.position.Position.{Position}
use Rattle.norm_order.specs.Shapes.{Shape, symbols_of, sources_in, closed_in, closed_blocks}
use Rattle.norm_send_rules.specs.Asking.{all_sources}
use Rattle.nack_union.proofs.Lists.{In, in_left, in_right, in_either, in_flat, flat_in}

-- one of a list passes a test
pub any_in : {X : Type 0} (t : X → Bool) (xs : List X) → list_any t xs ≡ true → (x : X) × In x xs × (t x ≡ true)
any_in t [] e = absurd (cc)
any_in {X} t (x ∷ xs) e = go (t x) refl e (any_in t xs)
  where
    go : (b : Bool) → t x ≡ b → (b || list_any t xs) ≡ true → (list_any t xs ≡ true → (y : X) × In y xs × (t y ≡ true)) → (y : X) × ((y ≡ x) ⊎ In y xs) × (t y ≡ true)
    go true f g later = (x, inl refl, f)
    go false f g later = let found = later g in (found.0, inr found.1, found.2)

pub in_any : {X : Type 0} (t : X → Bool) (xs : List X) (x : X) → In x xs → t x ≡ true → list_any t xs ≡ true
in_any t [] x here passes = absurd here
in_any t (y ∷ xs) x (inl same) passes = ap (λ b. b || list_any t xs) (sym (ap t same) ∙ passes)
in_any t (y ∷ xs) x (inr later) passes = go (t y) (in_any t xs x later passes)
  where
    go : (b : Bool) → list_any t xs ≡ true → (b || list_any t xs) ≡ true
    go true e = refl
    go false e = e

-- what is made of members
pub map_in : {X Y : Type 0} (f : X → Y) (x : X) (xs : List X) → In x xs → In (f x) (map f xs)
map_in f x [] here = absurd here
map_in f x (y ∷ xs) (inl same) = inl (ap f same)
map_in f x (y ∷ xs) (inr later) = inr (map_in f x xs later)

pub in_map : {X Y : Type 0} (f : X → Y) (y : Y) (xs : List X) → In y (map f xs) → (x : X) × In x xs × (y ≡ f x)
in_map f y [] here = absurd here
in_map f y (x ∷ xs) (inl same) = (x, inl refl, same)
in_map f y (x ∷ xs) (inr later) = let found = in_map f y xs later in (found.0, inr found.1, found.2)

-- numbers of a range
pub range_in : (i a n : ℕ) → a ≤ i → i < a + n → In i (range_with_len a n)
range_in i a zero le lt = absurd (omega arith)
range_in i a (suc n) le lt = elim (cases_eq i a) [ inl same ↦ inl same | inr other ↦ inr (range_in i (a + 1) n (omega (arith, other)) (omega arith)) ]

pub in_range : (i a n : ℕ) → In i (range_with_len a n) → (a ≤ i) × (i < a + n)
in_range i a zero here = absurd here
in_range i a (suc n) (inl same) = (omega (arith, same), omega (arith, same))
in_range i a (suc n) (inr later) = let rest = in_range i (a + 1) n later in (let l = rest.0 in omega (arith, l), let l = rest.1 in omega (arith, l))

-- a closed source symbol of an object
pub record IsSourceOf (index : ℕ) (s : Shape) (at : Position) : Type 0 where
  pub index_is : at.index ≡ index
  pub block : at.block < closed_blocks s
  pub symbol : at.symbol < closed_in s at.block

pub in_sources : (index : ℕ) (s : Shape) (at : Position) → In at (sources_in index s) → IsSourceOf index s at
in_sources index s at here =
    let b = in_flat (λ block. symbols_of index (closed_in s block) block) at (range_with_len 0 (closed_blocks s)) here in
    let x = in_map (position index b.0) at (range_with_len 0 (closed_in s b.0)) b.2 in
    let block_is : at.block ≡ b.0 = ap (λ (a : Position). a.block) x.2 in
    let symbol_is : at.symbol ≡ x.0 = ap (λ (a : Position). a.symbol) x.2 in
    let few = (in_range b.0 0 (closed_blocks s) b.1).1 in
    let less = (in_range x.0 0 (closed_in s b.0) x.1).1 in
    record {
      index_is = ap (λ (a : Position). a.index) x.2;
      block = omega (arith, few, block_is);
      symbol = subst (λ b. at.symbol < closed_in s b) (sym block_is) (omega (arith, less, symbol_is));
    }

pub sources_have : (index : ℕ) (s : Shape) (at : Position) → IsSourceOf index s at → In at (sources_in index s)
sources_have index s at h =
    flat_in (λ block. symbols_of index (closed_in s block) block) at at.block (range_with_len 0 (closed_blocks s))
    (let lt = h.block in range_in at.block 0 (closed_blocks s) (omega arith) (omega (arith, lt)))
    (subst (λ i. In at (map (position i at.block) (range_with_len 0 (closed_in s at.block)))) h.index_is
    (map_in (position at.index at.block) at.symbol (range_with_len 0 (closed_in s at.block))
    (let lt = h.symbol in range_in at.symbol 0 (closed_in s at.block) (omega arith) (omega (arith, lt)))))

-- a closed source symbol of an order from an index on
pub in_all_sources : (index : ℕ) (shapes : List Shape) (at : Position) → In at (all_sources index shapes)
    → (k : ℕ) × (s : Shape) × (slice_get shapes k ≡ Some s) × IsSourceOf (index + k) s at
unfolding all_sources
in_all_sources index [] at here = absurd here
in_all_sources index (s ∷ shapes) at here =
    go (in_either at (sources_in index s) (all_sources (index + 1) shapes) here) (in_all_sources (index + 1) shapes at)
  where
    go : In at (sources_in index s) ⊎ In at (all_sources (index + 1) shapes)
        → (In at (all_sources (index + 1) shapes) → (k : ℕ) × (x : Shape) × (slice_get shapes k ≡ Some x) × IsSourceOf (index + 1 + k) x at)
        → (k : ℕ) × (x : Shape) × (slice_get (s ∷ shapes) k ≡ Some x) × IsSourceOf (index + k) x at
    go (inl l) later = (0, s, refl, subst (λ i. IsSourceOf i s at) (let e : index ≡ index + 0 = omega arith in e) (in_sources index s at l))
    go (inr r) later =
        let found = later r in
        (suc found.0, found.1, found.2, subst (λ i. IsSourceOf i found.1 at) (let e : index + 1 + found.0 ≡ index + suc found.0 = omega arith in e) found.3)

pub all_sources_have : (index : ℕ) (shapes : List Shape) (at : Position) (k : ℕ) (s : Shape) → slice_get shapes k ≡ Some s → IsSourceOf (index + k) s at
    → In at (all_sources index shapes)
unfolding all_sources
all_sources_have index [] at k s e h = absurd (none e)
  where
    none : None ≡ Some s → ⊥
    none g = cc
all_sources_have index (x ∷ shapes) at zero s e h =
    in_left at (sources_in index x) (all_sources (index + 1) shapes)
    (sources_have index x at (subst (λ i. IsSourceOf i x at) (let f : index + 0 ≡ index = omega arith in f) (subst (λ y. IsSourceOf (index + 0) y at) (sym (same e)) h)))
  where
    same : Some x ≡ Some s → x ≡ s
    same g = cc
all_sources_have index (x ∷ shapes) at (suc k) s e h =
    in_right at (sources_in index x) (all_sources (index + 1) shapes)
    (all_sources_have (index + 1) shapes at k s e (subst (λ i. IsSourceOf i s at) (let f : index + suc k ≡ index + 1 + k = omega arith in f) h))
