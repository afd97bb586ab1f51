-- An object that is whole: its octets are those of its rows, as far as it goes.
use Rattle.std.proofs.Common.{◌≡◌, ◌-◌, ℕ, zero, suc, ◌+◌, ◌*◌, ◌<◌, ◌≤◌, ◌⊎◌, inl, List, [], ◌∷◌, ◌++◌, length, map, take, get_or, Option, Some, None, Bool, true, false, refl, sym, ap, ◌∙◌, subst, arith}
use Rattle.std.specs.Prelude.{◌==◌, ◌≢◌, flat_map}
use Rattle.std.specs.List.{All, AllPairs, AllByRecursion, concat, range_with_len}
use Rattle.std.proofs.lemmas.Bool.{eqb-true}
use Rattle.std.proofs.lemmas.List.{length-map}
use Rattle.std.proofs.lemmas.List.Concat.{flat_map-cons}
use Rattle.fec_plan.specs.Partition.{Cut, source_symbols, sent_octets, coded_octets}
use Rattle.gf_field.specs.Symbol.{AreIds, given, encoded_symbol, solved_symbol, solved_sources, symbol_at}
use Rattle.gf_field.specs.Power.{power}
use Rattle.norm_receive_rules.specs.Holding.{Holding, Plan, Held}
use Rattle.norm_receive_rules.specs.Plans.{cut_of_plan, held_of, is_done}
use Rattle.norm_receive_rules.specs.BlockValue.{ids_of, octets_of_held, block_value}
use Rattle.norm_receive_rules.specs.HandingUp.{block_octets}
use Rattle.rx_object.specs.BlockState.{held_at}
use Rattle.rx_object.specs.Places.{has_id, encoded_among}
use Rattle.rx_object.specs.Rows.{held_under, held_in}
use Rattle.rx_object.proofs.Listed.{all_in, by_ids, under_all}
use Rattle.rx_object.proofs.SourceLemmas.{length-symbol_at}

-- ---- what the rules hand up of a block

lazily_joined : (f : ℕ → List ℕ) (g : ℕ → List ℕ) → ((j : ℕ) → g j ≡ f j) → (js : List ℕ) → flat_map g js ≡ concat (map f js)
lazily_joined f g same [] = refl
lazily_joined f g same (j ∷ js) =
    flat_map-cons g j js ∙ ap (λ xs. xs ++ flat_map g js) (same j) ∙ ap (λ xs. f j ++ xs) (lazily_joined f g same js)

-- the octets of a source symbol that is there
abbrev there : Option (List ℕ) → List ℕ
there o = elim o [ Some octets ↦ octets | None ↦ [] ]

abbrev whole_or : Bool → List ℕ → Option (List ℕ) → Option (List ℕ)
whole_or done octets other = elim done [ true ↦ Some octets | false ↦ other ]

when_done : (done : Bool) (octets : List ℕ) (other : Option (List ℕ)) → done ≡ true → there (whole_or done octets other) ≡ octets
when_done true octets other e = refl
when_done false octets other e = absurd (cc e)

pub handed_block : (s : Holding) (plan : Plan) (block size : ℕ) (hs : List Held) → held_of s plan.index block ≡ hs → is_done s plan block ≡ true → coded_octets (cut_of_plan plan) ≡ size
    → source_symbols (cut_of_plan plan) block ≡ length hs → block_octets s plan block ≡ concat (solved_sources size (ids_of hs) (octets_of_held hs))
unfolding solved_sources
handed_block s plan block size hs held done wide count =
    lazily_joined (solved_symbol size (ids_of hs) (octets_of_held hs)) (λ j. there (block_value s plan block j))
    (λ j.
    when_done (is_done s plan block) (solved_symbol (coded_octets (cut_of_plan plan)) (ids_of (held_of s plan.index block)) (octets_of_held (held_of s plan.index block)) j) _ done
    ∙ ap (λ n. solved_symbol n (ids_of (held_of s plan.index block)) (octets_of_held (held_of s plan.index block)) j) wide
    ∙ ap (λ (xs : List Held). solved_symbol size (ids_of xs) (octets_of_held xs) j) held)
    (range_with_len 0 (source_symbols (cut_of_plan plan) block))
    ∙ ap (λ n. concat (map (solved_symbol size (ids_of hs) (octets_of_held hs)) (range_with_len 0 n))) (count ∙ sym (length-map hs (λ (h : Held). h.at.symbol)))

-- ---- the ids of what is held of a block

-- ids that rise from this one on
abbrev Rising : ℕ → List ℕ → Type 0
Rising a [] = Unit {0}
Rising a (x ∷ xs) = (a ≤ x) × Rising (x + 1) xs

rising_from : (a b : ℕ) (xs : List ℕ) → a ≤ b → Rising b xs → Rising a xs
rising_from a b [] le r = tt
rising_from a b (x ∷ xs) le r = (let first : b ≤ x = r.0 in omega (arith, le, first), r.1)

rising_slots : (index : ℕ) (c : Cut) (block : ℕ) (f : ℕ → Option (List ℕ)) (a n : ℕ) → Rising a (ids_of (flat_map (held_under index c block f) (range_with_len a n)))
rising_slots index c block f a zero = tt
rising_slots index c block f a (suc n) =
    subst (λ hs. Rising a (ids_of hs)) (sym (flat_map-cons (held_under index c block f) a (range_with_len (a + 1) n)))
    (go (f a) (rising_slots index c block f (a + 1) n))
  where
    go : (o : Option (List ℕ)) → Rising (a + 1) (ids_of (flat_map (held_under index c block f) (range_with_len (a + 1) n)))
        → Rising a (ids_of ((elim o as (λ _. List Held) [ Some octets ↦ held_at index block a (take (sent_octets c block a) octets) ∷ [] | None ↦ [] ]) ++ flat_map (held_under index c block f) (range_with_len (a + 1) n)))
    go (Some x) more = (omega arith, more)
    go None more = rising_from a (a + 1) _ (omega arith) more

above : (a : ℕ) (xs : List ℕ) (i d : ℕ) → Rising a xs → i < length xs → a ≤ get_or xs i d
above a [] i d r lt = absurd (omega arith)
above a (x ∷ xs) zero d r lt = r.0
above a (x ∷ xs) (suc i) d r lt = let first : a ≤ x = r.0 in let more = above (x + 1) xs i d r.1 (omega arith) in omega (arith, first, more)

differ : (a : ℕ) (xs : List ℕ) → Rising a xs → AllPairs (λ x y. x ≢ y) xs
differ a [] r i j d before lt same = absurd (omega arith)
differ a (x ∷ xs) r zero zero d before lt same = absurd (omega arith)
differ a (x ∷ xs) r zero (suc j) d before lt same = let more = above (x + 1) xs j d r.1 (omega arith) in omega (arith, more, same)
differ a (x ∷ xs) r (suc i) zero d before lt same = absurd (omega arith)
differ a (x ∷ xs) r (suc i) (suc j) d before lt same = differ (x + 1) xs r.1 i j d (omega arith) (omega arith) same

rising_in : (index : ℕ) (c : Cut) (f : ℕ → ℕ → Option (List ℕ)) (block : ℕ) → Rising 0 (ids_of (held_in index c f block))
rising_in index c f block = by_ids (λ ids. Rising 0 (ids_of (flat_map (held_under index c block (f block)) ids))) (λ n e. rising_slots index c block (f block) 0 n)

-- what holds of each id below 255
pub block_below : (P : Held → Type 0) (index : ℕ) (c : Cut) (f : ℕ → ℕ → Option (List ℕ)) (block : ℕ)
    → ((id : ℕ) (x : List ℕ) → id < 255 → f block id ≡ Some x → P (held_at index block id (take (sent_octets c block id) x))) → AllByRecursion P (held_in index c f block)
block_below P index c f block each =
    by_ids (λ ids. AllByRecursion P (flat_map (held_under index c block (f block)) ids))
    (λ n e. all_in P (held_under index c block (f block)) 0 n (λ id le lt. under_all P index c block (f block) id (λ x. each id x (omega (arith, e, lt)))))

ids_below : (hs : List Held) → AllByRecursion (λ (h : Held). h.at.symbol < 255) hs → All (λ j. j < 255) (ids_of hs)
ids_below [] all i d lt = absurd (omega arith)
ids_below (h ∷ hs) all zero d lt = all.0
ids_below (h ∷ hs) all (suc i) d lt = ids_below hs all.1 i d (omega arith)

pub held_ids : (index : ℕ) (c : Cut) (f : ℕ → ℕ → Option (List ℕ)) (block k : ℕ) → length (held_in index c f block) ≡ k → AreIds k 255 (ids_of (held_in index c f block))
held_ids index c f block k count = record {
  count = length-map (held_in index c f block) (λ (h : Held). h.at.symbol) ∙ count;
  different = differ 0 (ids_of (held_in index c f block)) (rising_in index c f block);
  below = ids_below (held_in index c f block) (block_below (λ (h : Held). h.at.symbol < 255) index c f block (λ id x small there. small));
}

-- ---- a symbol of a block that is done

pub encoded_some : (size id : ℕ) (ids : List ℕ) (sources : List (List ℕ)) (x : List ℕ) → encoded_among size ids sources id ≡ Some x → x ≡ encoded_symbol size sources id
encoded_some size id ids sources x e = go (has_id id ids) e
  where
    go : (b : Bool) → ◌≡◌ {A = Option (List ℕ)} (elim b [ true ↦ Some (encoded_symbol size sources id) | false ↦ None ]) (Some x) → x ≡ encoded_symbol size sources id
    go true e = sym (cc e)
    go false e = absurd (cc e)

-- ---- the length of a source symbol

given_of : (size far k m : ℕ) (hs : List Held) (s : List ℕ) → AllByRecursion (λ (h : Held). h.at.symbol < k → (length h.octets ≡ size) ⊎ (far - h.at.symbol * size ≤ length h.octets)) hs
    → m < k → given (ids_of hs) (octets_of_held hs) m ≡ Some s → (length s ≡ size) ⊎ (far - m * size ≤ length s)
unfolding given
given_of size far k m [] s all lt e = absurd (cc e)
given_of size far k m (h ∷ hs) s all lt e = go (h.at.symbol == m) refl e (given_of size far k m hs s all.1 lt)
  where
    go : (b : Bool) → (h.at.symbol == m) ≡ b
        → ◌≡◌ {A = Option (List ℕ)} (elim b [ true ↦ Some h.octets | false ↦ given (ids_of hs) (octets_of_held hs) m ]) (Some s)
        → (given (ids_of hs) (octets_of_held hs) m ≡ Some s → (length s ≡ size) ⊎ (far - m * size ≤ length s)) → (length s ≡ size) ⊎ (far - m * size ≤ length s)
    go true same e more =
        subst (λ xs. (length xs ≡ size) ⊎ (far - m * size ≤ length xs)) (some_same e)
        (subst (λ n. (length h.octets ≡ size) ⊎ (far - n * size ≤ length h.octets)) (eqb-true h.at.symbol m same) (all.0 (let is = eqb-true h.at.symbol m same in omega (arith, is, lt))))
      where
        some_same : ◌≡◌ {A = Option (List ℕ)} (Some h.octets) (Some s) → h.octets ≡ s
        some_same e = cc e
    go false same e more = more e

pub solved_reaches : (size far k m : ℕ) (hs : List Held) → AllByRecursion (λ (h : Held). h.at.symbol < k → (length h.octets ≡ size) ⊎ (far - h.at.symbol * size ≤ length h.octets)) hs
    → m < k → (length (solved_symbol size (ids_of hs) (octets_of_held hs) m) ≡ size) ⊎ (far - m * size ≤ length (solved_symbol size (ids_of hs) (octets_of_held hs) m))
unfolding solved_symbol
solved_reaches size far k m hs all lt = go (given (ids_of hs) (octets_of_held hs) m) (λ s. given_of size far k m hs s all lt)
  where
    go : (o : Option (List ℕ)) → ((s : List ℕ) → o ≡ Some s → (length s ≡ size) ⊎ (far - m * size ≤ length s))
        → (length (elim o as (λ _. List ℕ) [ Some s ↦ s | None ↦ symbol_at size (map power (ids_of hs)) (octets_of_held hs) (power m) ]) ≡ size)
        ⊎ (far - m * size ≤ length (elim o as (λ _. List ℕ) [ Some s ↦ s | None ↦ symbol_at size (map power (ids_of hs)) (octets_of_held hs) (power m) ]))
    go (Some s) each = each s refl
    go None each = inl (length-symbol_at size (map power (ids_of hs)) (octets_of_held hs) (power m))
