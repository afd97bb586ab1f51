-- What requests ask for are infos and symbols of the order.
use Rattle.std.proofs.Common.{◌≡◌, ℕ, zero, suc, cond, ◌+◌, ◌<◌, ◌≤◌, List, [], ◌∷◌, ◌++◌, length, take, map, Bool, true, false, Option, None, Some, refl, ap, subst, ◌∙◌, arith, flat_map}
use Rattle.std.specs.Prelude.{filter, min, slice_get, nat_lt, nat_le, ◌&&◌, ◌==◌}
use Rattle.std.specs.List.{AllByRecursion, range_with_len}
use Rattle.std.proofs.lemmas.Bool.Decides.{Decides-ltb}
use Rattle.norm_base.specs.Settings.{Settings}
use Rattle.fec_plan.specs.Partition.{source_symbols, symbol_number}
use Rattle.fec_plan.specs.Points.{Point, position}
use Rattle.fec_plan.specs.declared.position.Position.{Position}
use Rattle.norm_ext.specs.Asking.{Named, asks_source, asks_info, asked_symbols, Count}
use Rattle.norm_order.specs.Shapes.{Shape, at_index, symbols_of, sources_in, closed_in, encoded_in, closed_blocks, is_encoded, has_info}
use Rattle.norm_send_rules.specs.SenderState.{SenderState, Asked}
use Rattle.norm_send_rules.specs.InWindow.{current_shapes}
use Rattle.norm_send_rules.specs.Asking.{all_sources, asks_for, closed_at, shapes_at, as_it_came, wants_of, counts_of}
use Rattle.norm_send_rules.specs.Closing.{fresh_parity, block_wants, repairs, greatest, counted, asked_in}
use Rattle.norm_send_rules.specs.Laws.{is_of_order}
use Rattle.norm_send_rules.specs.declared.want.Want.{Want}
use Rattle.norm_send_rules.specs.declared.want.Want.TheVariants.{Info, Symbol}
use Rattle.norm_send_rules.proofs.ShapeLemmas.{HasParity, HaveAll, HaveParity, closed_is_encoded, encoded_still, info_still}
use Rattle.norm_send_rules.proofs.ClosingLemmas.{Each}

all_append : {X : Type 0} (P : X → Type 0) (xs ys : List X) → AllByRecursion P xs → AllByRecursion P ys → AllByRecursion P (xs ++ ys)
all_append P [] ys these those = those
all_append P (x ∷ xs) ys these those = (these.0, all_append P xs ys these.1 those)

all_map : {X Y : Type 0} (P : Y → Type 0) (f : X → Y) (xs : List X) → AllByRecursion (λ x. P (f x)) xs → AllByRecursion P (map f xs)
all_map P f [] all = tt
all_map P f (x ∷ xs) all = (all.0, all_map P f xs all.1)

all_flat : {X Y : Type 0} (P : Y → Type 0) (f : X → List Y) (xs : List X) → ((x : X) → AllByRecursion P (f x)) → AllByRecursion P (flat_map f xs)
all_flat P f [] each = tt
all_flat P f (x ∷ xs) each = all_append P (f x) (flat_map f xs) (each x) (all_flat P f xs each)

all_passed : {X : Type 0} (P : X → Type 0) (test : X → Bool) (xs : List X) → ((x : X) → test x ≡ true → P x) → AllByRecursion P (filter test xs)
all_passed P test [] passes = tt
all_passed {X} P test (x ∷ xs) passes = go (test x) refl (all_passed P test xs passes)
  where
    go : (b : Bool) → test x ≡ b → AllByRecursion P (filter test xs) → AllByRecursion P (cond b (x ∷ filter test xs) (filter test xs))
    go true e more = (passes x e, more)
    go false e more = more

pub all_filtered : {X : Type 0} (P : X → Type 0) (test : X → Bool) (xs : List X) → AllByRecursion P xs → AllByRecursion P (filter test xs)
all_filtered P test [] all = tt
all_filtered {X} P test (x ∷ xs) all = go (test x) (all_filtered P test xs all.1)
  where
    go : (b : Bool) → AllByRecursion P (filter test xs) → AllByRecursion P (cond b (x ∷ filter test xs) (filter test xs))
    go true more = (all.0, more)
    go false more = more

all_taken : {X : Type 0} (P : X → Type 0) (n : ℕ) (xs : List X) → AllByRecursion P xs → AllByRecursion P (take n xs)
all_taken P zero xs all = tt
all_taken P (suc n) [] all = tt
all_taken P (suc n) (x ∷ xs) all = (all.0, all_taken P n xs all.1)

pub all_implied : {X : Type 0} (P Q : X → Type 0) (xs : List X) → ((x : X) → P x → Q x) → AllByRecursion P xs → AllByRecursion Q xs
all_implied P Q [] each all = tt
all_implied P Q (x ∷ xs) each all = (each x all.0, all_implied P Q xs each all.1)

all_range : (P : ℕ → Type 0) (first n : ℕ) → ((k : ℕ) → k < first + n → P k) → AllByRecursion P (range_with_len first n)
all_range P first zero each = tt
all_range P first (suc n) each = (
  each first (let h : first < first + suc n = omega arith in h),
  all_range P (first + 1) n (λ k lt. each k (let h : k < first + suc n = omega arith in h)),
)

-- the symbols of a block pass what passes for each of its numbers
symbols_pass : (P : Position → Type 0) (index n block : ℕ) → ((symbol : ℕ) → symbol < n → P (position index block symbol))
    → AllByRecursion P (symbols_of index n block)
symbols_pass P index n block each = all_map P (λ symbol. position index block symbol) (range_with_len 0 n)
    (all_range (λ symbol. P (position index block symbol)) 0 n (λ k lt. each k (let h : k < n = omega arith in h)))

-- the position is an encoded symbol of these shapes, of which the first has this index
abbrev IsFrom : ℕ → List Shape → Position → Type 0
IsFrom index shapes at =
    (behind : ℕ) × ((at.index ≡ index + behind) × (at_index shapes behind false (λ s. nat_lt at.symbol (encoded_in s at.block)) ≡ true))

sources_from : (index : ℕ) (shapes : List Shape) → HaveParity shapes → AllByRecursion (IsFrom index shapes) (all_sources index shapes)
unfolding all_sources
sources_from index [] parity = tt
sources_from index (s ∷ shapes) parity = all_append (IsFrom index (s ∷ shapes)) (sources_in index s) (all_sources (index + 1) shapes)
    (all_flat (IsFrom index (s ∷ shapes)) (λ block. symbols_of index (closed_in s block) block) (range_with_len 0 (closed_blocks s))
    (λ block. symbols_pass (IsFrom index (s ∷ shapes)) index (closed_in s block) block
    (λ symbol lt. (
      0,
      (
        (let h : index ≡ index + 0 = omega arith in h),
        (Decides-ltb symbol (encoded_in s block)).1 (let le = closed_is_encoded s block parity.0 in omega arith),
      ),
    ))))
    (all_implied (IsFrom (index + 1) shapes) (IsFrom index (s ∷ shapes)) (all_sources (index + 1) shapes)
    (λ at from. (suc from.0, ((let h : at.index ≡ index + suc from.0 = omega (arith, from.1.0) in h), from.1.1)))
    (sources_from (index + 1) shapes parity.1))

sources_encoded : (shapes : List Shape) → HaveParity shapes → AllByRecursion (λ at. is_encoded shapes at ≡ true) (all_sources 0 shapes)
sources_encoded shapes parity = all_implied (IsFrom 0 shapes) (λ at. is_encoded shapes at ≡ true) (all_sources 0 shapes)
    (λ at from. ap (λ i. at_index shapes i false (λ s. nat_lt at.symbol (encoded_in s at.block))) (let h : at.index ≡ from.0 = omega (arith, from.1.0) in h) ∙ from.1.1)
    (sources_from 0 shapes parity)

first_of_both : (a b : Bool) → (a && b) ≡ true → a ≡ true
first_of_both true b e = refl
first_of_both false b e = e

asked_of_order : (shapes : List Shape) (r : Named) → HaveParity shapes → Each (is_of_order shapes) (asks_for shapes r)
asked_of_order shapes r parity =
    let P = λ (w : Want). is_of_order shapes w ≡ true in
    all_append P (map Symbol (filter (asks_source r) (all_sources 0 shapes)) ++ map Symbol (filter (is_encoded shapes) (asked_symbols r)))
    (map Info (filter (λ index. has_info shapes index && asks_info r index) (range_with_len 0 (length shapes))))
    (all_append P (map Symbol (filter (asks_source r) (all_sources 0 shapes))) (map Symbol (filter (is_encoded shapes) (asked_symbols r)))
    (all_map P Symbol (filter (asks_source r) (all_sources 0 shapes))
    (all_filtered (λ at. is_encoded shapes at ≡ true) (asks_source r) (all_sources 0 shapes) (sources_encoded shapes parity)))
    (all_map P Symbol (filter (is_encoded shapes) (asked_symbols r))
    (all_passed (λ at. is_encoded shapes at ≡ true) (is_encoded shapes) (asked_symbols r) (λ at e. e))))
    (all_map P Info (filter (λ index. has_info shapes index && asks_info r index) (range_with_len 0 (length shapes)))
    (all_passed (λ index. has_info shapes index ≡ true) (λ index. has_info shapes index && asks_info r index) (range_with_len 0 (length shapes))
    (λ index e. first_of_both (has_info shapes index) (asks_info r index) e)))

-- an order has all that it had when a request came

closed_before : (last : Option Position) (index : ℕ) (s : Shape) → closed_at last index s ≤ s.closed
closed_before None index s = let h : 0 ≤ s.closed = omega arith in h
closed_before (Some last) index s = go (last.index == index) (nat_lt last.index index)
  where
    go : (b c : Bool) → elim b [ true ↦ min s.closed (symbol_number s.cut last.block last.symbol + 1) | false ↦ elim c [ true ↦ 0 | false ↦ s.closed ] ] ≤ s.closed
    go true c = at_most s.closed (symbol_number s.cut last.block last.symbol + 1)
      where
        at_most : (k a : ℕ) → min k a ≤ k
        at_most k a = omega arith
    go false true = let h : 0 ≤ s.closed = omega arith in h
    go false false = let h : s.closed ≤ s.closed = omega arith in h

had_less : (last : Option Position) (index n : ℕ) (shapes : List Shape) → HaveParity shapes → HaveAll (shapes_at last index (take n shapes)) shapes
unfolding shapes_at
had_less last index zero shapes parity = tt
had_less last index (suc n) [] parity = tt
had_less last index (suc n) (s ∷ shapes) parity = (
  record { cut = refl; closed = closed_before last index s; info = refl; parity = parity.0 },
  had_less last (index + 1) n shapes parity.1,
)

had_parity : (last : Option Position) (index n : ℕ) (shapes : List Shape) → HaveParity shapes → HaveParity (shapes_at last index (take n shapes))
unfolding shapes_at
had_parity last index zero shapes parity = tt
had_parity last index (suc n) [] parity = tt
had_parity last index (suc n) (s ∷ shapes) parity = (parity.0, had_parity last (index + 1) n shapes parity.1)

pub of_more : (less more : List Shape) (w : Want) → HaveAll less more → is_of_order less w ≡ true → is_of_order more w ≡ true
of_more less more (Info index) all e = info_still less more index all e
of_more less more (Symbol at) all e = encoded_still less more at all e

wants_of_order : (shapes : List Shape) (a : Asked) → HaveParity shapes → Each (is_of_order shapes) (wants_of shapes a)
wants_of_order shapes a parity = all_implied (λ w. is_of_order (as_it_came a shapes) w ≡ true) (λ w. is_of_order shapes w ≡ true) (wants_of shapes a)
    (λ w e. of_more (as_it_came a shapes) shapes w (had_less a.last 0 a.next shapes parity) e)
    (asked_of_order (as_it_came a shapes) a.request (had_parity a.last 0 a.next shapes parity))

-- an encoded symbol of a shape that is there
there_encoded : (shapes : List Shape) (at : Point) (shape : Shape) (symbol : ℕ) → slice_get shapes at.index ≡ Some shape → symbol < encoded_in shape at.block
    → is_encoded shapes (position at.index at.block symbol) ≡ true
there_encoded shapes at shape symbol e lt =
    ap (λ (found : Option Shape). elim found [ Some x ↦ nat_lt symbol (encoded_in x at.block) | None ↦ false ]) e
    ∙ (Decides-ltb symbol (encoded_in shape at.block)).1 lt

repairs_of_order : (s : SenderState) (shapes : List Shape) (at : Point) (shape : Shape) (count : ℕ) → HasParity shape.cut
    → slice_get shapes at.index ≡ Some shape → Each (is_of_order shapes) (repairs s at shape count)
repairs_of_order s shapes at shape count parity e = go (nat_le count (length fresh))
  where
    fresh : List Position
    fresh = fresh_parity s at shape

    go : (b : Bool) → Each (is_of_order shapes) (elim b [ true ↦ map Symbol (take count fresh) | false ↦ block_wants at shape ])
    go true = all_map (λ w. is_of_order shapes w ≡ true) Symbol (take count fresh) (all_taken (λ at. is_encoded shapes at ≡ true) count fresh
        (all_filtered (λ at. is_encoded shapes at ≡ true) _ (symbols_of at.index (encoded_in shape at.block) at.block)
        (symbols_pass (λ at. is_encoded shapes at ≡ true) at.index (encoded_in shape at.block) at.block (λ symbol lt. there_encoded shapes at shape symbol e lt))))
    go false = all_map (λ w. is_of_order shapes w ≡ true) Symbol (symbols_of at.index (closed_in shape at.block) at.block)
        (symbols_pass (λ at. is_encoded shapes at ≡ true) at.index (closed_in shape at.block) at.block
        (λ symbol lt. there_encoded shapes at shape symbol e (let le = closed_is_encoded shape at.block parity in omega arith)))

found_parity : (shapes : List Shape) (i : ℕ) (shape : Shape) → HaveParity shapes → slice_get shapes i ≡ Some shape → HasParity shape.cut
found_parity [] i shape parity e = absurd (none shape e)
  where
    none : (x : Shape) → None ≡ Some x → ⊥
    none x h = cc
found_parity (s ∷ shapes) zero shape parity e = subst (λ (x : Shape). HasParity x.cut) (same s shape e) parity.0
  where
    same : (x y : Shape) → Some x ≡ Some y → x ≡ y
    same x y h = cc
found_parity (s ∷ shapes) (suc i) shape parity e = found_parity shapes i shape parity.1 e

counted_of_order : (s : SenderState) (shapes : List Shape) (counts : List Count) (at : Point) → HaveParity shapes
    → Each (is_of_order shapes) (counted s shapes counts at)
counted_of_order s shapes counts at parity = go (slice_get shapes at.index) refl
  where
    go : (found : Option Shape) → slice_get shapes at.index ≡ found → Each (is_of_order shapes) (elim found [
      | Some shape ↦ repairs s at shape (min (greatest counts at) (source_symbols shape.cut at.block))
      | None ↦ []
    ])
    go (Some shape) e = repairs_of_order s shapes at shape (min (greatest counts at) (source_symbols shape.cut at.block)) (found_parity shapes at.index shape parity e) e
    go None e = tt

-- all that the requests of a round ask for
pub asked_in_order : (p : Settings) (s : SenderState) (asked : List Asked) → HaveParity (current_shapes p s)
    → Each (is_of_order (current_shapes p s)) (asked_in p s asked)
asked_in_order p s asked parity =
    let shapes = current_shapes p s in
    let counts = flat_map (counts_of shapes) asked in
    let P = λ (w : Want). is_of_order shapes w ≡ true in
    all_append P (flat_map (wants_of shapes) asked) (flat_map (λ (c : Count). counted s shapes counts c.of) counts)
    (all_flat P (wants_of shapes) asked (λ a. wants_of_order shapes a parity))
    (all_flat P (λ (c : Count). counted s shapes counts c.of) counts (λ c. counted_of_order s shapes counts c.of parity))
