-- What the rules say of an object by itself, from what is listed of its blocks.
use Rattle.std.proofs.Common.{◌≡◌, ℕ, zero, suc, ◌+◌, ◌<◌, ◌≤◌, ◌⊎◌, inl, inr, List, [], ◌∷◌, ◌++◌, length, take, cond, Bool, true, false, Option, Some, None, refl, ap, ◌∙◌, arith}
use Rattle.std.specs.Prelude.{◌==◌, ◌≢◌, ◌&&◌, ◌||◌, filter, flat_map, is_some}
use Rattle.std.specs.List.{AllByRecursion, list_any, range_with_len}
use Rattle.std.proofs.lemmas.Bool.{cases_order, eq-eqb, ne_eqb}
use Rattle.std.proofs.lemmas.List.Concat.{flat_map-cons}
use Rattle.std.proofs.lemmas.List.{append-nil}
use Rattle.std.proofs.lemmas.List.Folds.{list_any-append}
use Rattle.std.proofs.lemmas.List.Elements.{filter-append}
use Rattle.fec_plan.specs.Partition.{Cut, blocks, sent_octets}
use Rattle.norm_receive_rules.specs.Holding.{Held}
use Rattle.gf_field.specs.Symbol.{given, encoded_symbol}
use Rattle.rx_object.specs.BlockState.{held_at}
use Rattle.rx_object.specs.Places.{pieces, has_id, free_places, symbol_in}
use Rattle.rx_object.specs.Rows.{held_under, held_in, all_held}
use Rattle.rx_object.proofs.FreePlaces.{length-pieces}
use Rattle.rx_object.proofs.Listed.{all_in, by_ids, under_all, block_all}

-- ---- what passes a test, by slots

passing : (p : Held → Bool) (hs : List Held) → AllByRecursion (λ h. p h ≡ true) hs → filter p hs ≡ hs
passing p [] all = refl
passing p (h ∷ hs) all = ap (λ b. cond b (h ∷ filter p hs) (filter p hs)) all.0 ∙ ap (λ xs. h ∷ xs) (passing p hs all.1)

none_passing : (p : Held → Bool) (hs : List Held) → AllByRecursion (λ h. p h ≡ false) hs → filter p hs ≡ []
none_passing p [] none = refl
none_passing p (h ∷ hs) none = ap (λ b. cond b (h ∷ filter p hs) (filter p hs)) none.0 ∙ none_passing p hs none.1

-- none of the slots passes
slots_none : (p : Held → Bool) (g : ℕ → List Held) (a n : ℕ) → ((m : ℕ) → a ≤ m → m < a + n → AllByRecursion (λ h. p h ≡ false) (g m))
    → filter p (flat_map g (range_with_len a n)) ≡ []
slots_none p g a zero none = refl
slots_none p g a (suc n) none =
    ap (filter p) (flat_map-cons g a (range_with_len (a + 1) n))
    ∙ filter-append p (g a) (flat_map g (range_with_len (a + 1) n))
    ∙ ap (λ xs. xs ++ filter p (flat_map g (range_with_len (a + 1) n))) (none_passing p (g a) (none a (omega arith) (omega arith)))
    ∙ slots_none p g (a + 1) n (λ m le lt. none m (omega arith) (omega arith))

-- one slot passes
slot_passes : (p : Held → Bool) (g : ℕ → List Held) (s a n : ℕ) → a ≤ s → s < a + n → AllByRecursion (λ h. p h ≡ true) (g s)
    → ((m : ℕ) → m ≢ s → AllByRecursion (λ h. p h ≡ false) (g m)) → filter p (flat_map g (range_with_len a n)) ≡ g s
slot_passes p g s a zero le lt here there = absurd (omega arith)
slot_passes p g s a (suc n) le lt here there =
    ap (filter p) (flat_map-cons g a (range_with_len (a + 1) n))
    ∙ filter-append p (g a) (flat_map g (range_with_len (a + 1) n))
    ∙ go (cases_order a s) (λ below. slot_passes p g s (a + 1) n (omega arith) (omega arith) here there)
  where
    go : (a ≡ s) ⊎ ((a < s) ⊎ (s < a)) → (a < s → filter p (flat_map g (range_with_len (a + 1) n)) ≡ g s)
        → filter p (g a) ++ filter p (flat_map g (range_with_len (a + 1) n)) ≡ g s
    go (inl e) more =
        ap (λ m. filter p (g m) ++ filter p (flat_map g (range_with_len (a + 1) n))) e
        ∙ ap (λ xs. xs ++ filter p (flat_map g (range_with_len (a + 1) n))) (passing p (g s) here)
        ∙ ap (λ xs. g s ++ xs) (slots_none p g (a + 1) n (λ m up under. there m (λ f. omega arith)))
        ∙ append-nil (g s)
    go (inr (inl below)) more =
        ap (λ xs. xs ++ filter p (flat_map g (range_with_len (a + 1) n))) (none_passing p (g a) (there a (λ f. omega arith)))
        ∙ more below
    go (inr (inr above)) more = absurd (omega arith)

-- ---- blocks

abbrev OfBlock : ℕ → ℕ → Held → Bool
OfBlock index block h = h.at.index == index && h.at.block == block

of_block : (index block b : ℕ) → b ≡ block → (index == index && b == block) ≡ true
of_block index block b e = ap (λ t. t && b == block) (eq-eqb index index refl) ∙ eq-eqb b block e

of_other : (index block b : ℕ) → b ≢ block → (index == index && b == block) ≡ false
of_other index block b e = ap (λ t. t && b == block) (eq-eqb index index refl) ∙ ne_eqb b block e

-- what is held of a block
pub held_of_block : (index : ℕ) (c : Cut) (f : ℕ → ℕ → Option (List ℕ)) (block : ℕ) → block < blocks c
    → filter (λ (h : Held). h.at.index == index && h.at.block == block) (all_held index c f) ≡ held_in index c f block
held_of_block index c f block lt =
    slot_passes (OfBlock index block) (held_in index c f) block 0 (blocks c) (omega arith) (omega (arith, lt))
    (block_all (λ h. OfBlock index block h ≡ true) index c f block (λ id x there. of_block index block block refl))
    (λ b other. block_all (λ h. OfBlock index block h ≡ false) index c f b (λ id x there. of_other index block b other))

-- nothing is held of a block that the object has not
pub held_of_none : (index : ℕ) (c : Cut) (f : ℕ → ℕ → Option (List ℕ)) (block : ℕ) → blocks c ≤ block
    → filter (λ (h : Held). h.at.index == index && h.at.block == block) (all_held index c f) ≡ []
held_of_none index c f block le =
    slots_none (OfBlock index block) (held_in index c f) 0 (blocks c)
    (λ b up lt. block_all (λ h. OfBlock index block h ≡ false) index c f b (λ id x there. of_other index block b (λ e. omega (arith, e, lt, le))))

-- ---- a symbol

none_any : (p : Held → Bool) (hs : List Held) → AllByRecursion (λ h. p h ≡ false) hs → list_any p hs ≡ false
none_any p [] none = refl
none_any p (h ∷ hs) none = ap (λ b. b || list_any p hs) none.0 ∙ none_any p hs none.1

or_none : (b : Bool) → (b || false) ≡ b
or_none true = refl
or_none false = refl

slot_any : (p : Held → Bool) (g : ℕ → List Held) (s a n : ℕ) → a ≤ s → s < a + n → ((m : ℕ) → m ≢ s → AllByRecursion (λ h. p h ≡ false) (g m))
    → list_any p (flat_map g (range_with_len a n)) ≡ list_any p (g s)
slot_any p g s a zero le lt there = absurd (omega arith)
slot_any p g s a (suc n) le lt there =
    ap (list_any p) (flat_map-cons g a (range_with_len (a + 1) n))
    ∙ list_any-append p (g a) (flat_map g (range_with_len (a + 1) n))
    ∙ go (cases_order a s) (λ below. slot_any p g s (a + 1) n (omega arith) (omega arith) there)
  where
    go : (a ≡ s) ⊎ ((a < s) ⊎ (s < a)) → (a < s → list_any p (flat_map g (range_with_len (a + 1) n)) ≡ list_any p (g s))
        → (list_any p (g a) || list_any p (flat_map g (range_with_len (a + 1) n))) ≡ list_any p (g s)
    go (inl e) more =
        ap (λ b. list_any p (g a) || b)
        (none_any p (flat_map g (range_with_len (a + 1) n)) (all_in (λ h. p h ≡ false) g (a + 1) n (λ m up under. there m (λ f. omega arith))))
        ∙ or_none (list_any p (g a))
        ∙ ap (λ m. list_any p (g m)) e
    go (inr (inl below)) more =
        ap (λ b. b || list_any p (flat_map g (range_with_len (a + 1) n))) (none_any p (g a) (there a (λ f. omega arith)))
        ∙ more below
    go (inr (inr above)) more = absurd (omega arith)

-- a symbol is held where there is one under its id
pub any_in : (index : ℕ) (c : Cut) (f : ℕ → ℕ → Option (List ℕ)) (block symbol : ℕ) → symbol < 255
    → list_any (λ (h : Held). h.at.symbol == symbol) (held_in index c f block) ≡ is_some (f block symbol)
any_in index c f block symbol small =
    by_ids (λ ids. list_any (λ (h : Held). h.at.symbol == symbol) (flat_map (held_under index c block (f block)) ids) ≡ list_any (λ (h : Held). h.at.symbol == symbol) (held_under index c block (f block) symbol))
    (λ n e. slot_any (λ (h : Held). h.at.symbol == symbol) (held_under index c block (f block)) symbol 0 n (omega arith) (omega (arith, e))
    (λ m other. under_all (λ h. (h.at.symbol == symbol) ≡ false) index c block (f block) m (λ x there. ne_eqb m symbol other)))
    ∙ there (f block symbol)
  where
    there : (o : Option (List ℕ))
        → list_any (λ (h : Held). h.at.symbol == symbol) (elim o as (λ _. List Held) [ Some octets ↦ held_at index block symbol (take (sent_octets c block symbol) octets) ∷ [] | None ↦ [] ])
        ≡ is_some o
    there (Some x) = ap (λ b. b || false) (eq-eqb symbol symbol refl)
    there None = refl

-- no symbol has an id past the last
pub none_in : (index : ℕ) (c : Cut) (f : ℕ → ℕ → Option (List ℕ)) (block symbol : ℕ) → 255 ≤ symbol
    → list_any (λ (h : Held). h.at.symbol == symbol) (held_in index c f block) ≡ false
none_in index c f block symbol large =
    none_any (λ (h : Held). h.at.symbol == symbol) (held_in index c f block)
    (by_ids (λ ids. AllByRecursion (λ (h : Held). (h.at.symbol == symbol) ≡ false) (flat_map (held_under index c block (f block)) ids))
    (λ n e. all_in (λ (h : Held). (h.at.symbol == symbol) ≡ false) (held_under index c block (f block)) 0 n
    (λ m le lt. under_all (λ h. (h.at.symbol == symbol) ≡ false) index c block (f block) m (λ x there. ne_eqb m symbol (λ same. omega (arith, e, same, lt, large))))))

-- ---- a symbol under an id

given_some : (id : ℕ) (ids : List ℕ) (xs : List (List ℕ)) → length xs ≡ length ids → is_some (given ids xs id) ≡ has_id id ids
unfolding given
given_some id [] xs long = refl
given_some id (i ∷ is) [] long = absurd (omega arith)
given_some id (i ∷ is) (x ∷ xs) long = go (i == id) (given_some id is xs (omega arith))
  where
    go : (b : Bool) → is_some (given is xs id) ≡ has_id id is → is_some (elim b as (λ _. Option (List ℕ)) [ true ↦ Some x | false ↦ given is xs id ]) ≡ (b || has_id id is)
    go true e = refl
    go false e = e

pub some_in : (size : ℕ) (ids row : List ℕ) (id : ℕ) → is_some (symbol_in size ids row id) ≡ has_id id ids
some_in size ids row id = go (free_places ids == 0) (has_id id ids) refl
  where
    go : (b d : Bool) → has_id id ids ≡ d
        → is_some (elim b as (λ _. Option (List ℕ)) [ true ↦ elim d as (λ _. Option (List ℕ)) [ true ↦ Some (encoded_symbol size (pieces size (length ids) row) id) | false ↦ None ] | false ↦ given ids (pieces size (length ids) row) id ])
        ≡ d
    go true true e = refl
    go true false e = refl
    go false d e = given_some id ids (pieces size (length ids) row) (length-pieces size (length ids) row) ∙ e
