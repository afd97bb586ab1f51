-- The symbols of an object that lies in a ring.
use Rattle.std.proofs.Common.{◌≡◌, ℕ, ◌+◌, ◌-◌, ◌*◌, ◌/◌, ◌%◌, ◌<◌, ◌≤◌, ◌++◌, ◌==◌, Bool, true, false, refl, sym, ap, ◌∙◌, subst, arith, Option, Some, None, List, length, length-append, take, drop, eq-eqb, ◌⊎◌, inl, inr}
use Rattle.std.specs.Prelude.{nat_lt, IsSome, min, if◌then◌else◌}
use Rattle.std.specs.Int.{div_ceil}
use Rattle.std.proofs.Math.Nat.{mul-le-mul_right}
use Rattle.std.proofs.lemmas.Nat.{div-add-mod'}
use Rattle.std.proofs.lemmas.Bool.{cases_lt, lt-ltb, le-ltb, ne_eqb}
use Rattle.std.proofs.lemmas.List.{length-take, length-drop}
use Rattle.norm_base.specs.Settings.{Settings}
use Rattle.norm_base.specs.declared.kinds.Kind.{Kind}
use Rattle.fec_plan.specs.Partition.{Cut, cut_of, IsSound, symbols_in, blocks_in, symbols_before, blocks, source_symbols, encoding_symbols, all_symbols, symbol_number, sent_octets}
use Rattle.fec_plan.proofs.CutLemmas.{some_blocks}
use Rattle.gf_field.proofs.Symbols.{length-encoded_symbol}
use Rattle.norm_order.specs.Entries.{Whole}
use Rattle.norm_order.specs.Shapes.{Shape, shape_of, encoded_in, closed_in, closed_blocks, last_in}
use Rattle.fec_plan.specs.Points.{position}
use Rattle.norm_order.specs.Symbols.{symbol_octets, block_sources}
use Rattle.obj_buffer.specs.Pieces.{HoldsObject}
use Rattle.fec_plan.proofs.PartitionLemmas.{some_sources, some_blocks_of, sources_within}
use Rattle.obj_buffer.proofs.PieceLemmas.{whole_part}
use Rattle.tx_object.specs.Held.{AnswersSymbol}
use Rattle.tx_object.specs.Round.{round}
use Rattle.tx_object.proofs.RoundLemmas.{length-round}

pub taken : {X : Type 0} (b : Bool) (x y : X) → b ≡ true → (elim b as (λ v. X) [ true ↦ x | false ↦ y ]) ≡ x
taken true x y e = refl
taken false x y e = absurd (cc)

pub refused : {X : Type 0} (b : Bool) (x y : X) → b ≡ false → (elim b as (λ v. X) [ true ↦ x | false ↦ y ]) ≡ y
refused true x y e = absurd (cc)
refused false x y e = refl

-- ---- which symbols an object has

-- all source symbols are before a block that the object does not have
pub all_before : (t n block : ℕ) → 0 < n → n ≤ block → t ≤ symbols_before t n block
all_before t n block some past =
    by (t / n) (t - t / n * n) (div_ceil t n) (block - (t - t / n * n)) (omega (arith, div-add-mod' t n)) (omega (arith, div-add-mod' t n))
    (large (cases_lt 0 (t - t / n * n))) (omega (arith, div-add-mod' t n)) (omega (arith, div-add-mod' t n))
  where
    large : (0 < t - t / n * n) ⊎ (t - t / n * n ≤ 0) → (t - t / n * n) * (t / n + 1) ≤ (t - t / n * n) * div_ceil t n
    large (inl more) = ap_le (t - t / n * n) (omega (arith, div-add-mod' t n))
      where
        ap_le : (r : ℕ) → div_ceil t n ≡ t / n + 1 → r * (t / n + 1) ≤ r * div_ceil t n
        ap_le r e = omega (arith, ap (λ x. r * x) e)
    large (inr none) =
        let zero-is : t - t / n * n ≡ 0 = omega arith in
        let one = ap (λ r. r * (t / n + 1)) zero-is in
        omega (arith, one)

    by : (a r large rest : ℕ) → a * n + r ≡ t → r < n → r * (a + 1) ≤ r * large → min block r ≡ r → n ≤ r + rest
        → t ≤ min block r * large + rest * a
    by a r large rest is few le first-is room =
        let one = ap (λ m. m * large) first-is in
        let two : n * a ≤ (r + rest) * a = mul-le-mul_right a room in
        omega (arith, one, two)

-- a block that the object has has all its symbols
pub encoded_is : (p : Settings) (kind : Kind) (info : Option (List ℕ)) (octets : List ℕ) (block : ℕ)
    → IsSound (cut_of (length octets) p.e p.b p.max_n) → block < blocks (cut_of (length octets) p.e p.b p.max_n)
    → encoded_in (shape_of p (Whole kind info octets)) block ≡ encoding_symbols (cut_of (length octets) p.e p.b p.max_n) block
encoded_is p kind info octets block sound there =
    let c : Cut = cut_of (length octets) p.e p.b p.max_n in
    let closed : closed_in (shape_of p (Whole kind info octets)) block ≡ source_symbols c block =
    full (source_symbols c block) (all_symbols c) (symbol_number c block 0) (sources_within c block sound refl there) in
    taken (closed_in (shape_of p (Whole kind info octets)) block == source_symbols c block) _ _ (eq-eqb (closed_in (shape_of p (Whole kind info octets)) block) (source_symbols c block) closed)
  where
    full : (size all first : ℕ) → first + size ≤ all → min size (all - first) ≡ size
    full size all first le = omega arith

-- another block has none
pub encoded_none : (p : Settings) (kind : Kind) (info : Option (List ℕ)) (octets : List ℕ) (block : ℕ)
    → IsSound (cut_of (length octets) p.e p.b p.max_n) → blocks (cut_of (length octets) p.e p.b p.max_n) ≤ block
    → encoded_in (shape_of p (Whole kind info octets)) block ≡ 0
encoded_none p kind info octets block sound past =
    let c : Cut = cut_of (length octets) p.e p.b p.max_n in
    let before : symbols_in (length octets) p.e ≤ symbol_number c block 0 =
    omega (
      arith,
      all_before (symbols_in (length octets) p.e) (blocks_in (symbols_in (length octets) p.e) p.b) block
          (some_blocks (symbols_in (length octets) p.e) p.b sound.some sound.least_b) past,
    ) in
    let closed : closed_in (shape_of p (Whole kind info octets)) block ≡ 0 = none (source_symbols c block) (all_symbols c) (symbol_number c block 0) before in
    let some = some_sources c block sound in
    refused (closed_in (shape_of p (Whole kind info octets)) block == source_symbols c block) _ _
    (ne_eqb (closed_in (shape_of p (Whole kind info octets)) block) (source_symbols c block) (λ e. omega (arith, e, closed, some)))
    ∙ closed
  where
    none : (size all first : ℕ) → all ≤ first → min size (all - first) ≡ 0
    none size all first le = omega arith

-- ---- the last source symbol

some_taken : {X : Type 0} (o : Option ℕ) (x y : X) → IsSome o → (elim o as (λ v. X) [ Some l ↦ x | None ↦ y ]) ≡ x
some_taken (Some l) x y some = refl
some_taken None x y some = absurd (cc)

pub last_is : (c : Cut) (info : Bool) (index : ℕ) → IsSound c → IsSome c.l
    → last_in index (record { cut = c; closed = all_symbols c; info = info }) ≡ Some (position index (blocks c - 1) (source_symbols c (blocks c - 1) - 1))
last_is c info index sound object =
    let some = some_blocks_of c sound in
    let s : Shape = record { cut = c; closed = all_symbols c; info = info } in
    let closed : closed_in s (blocks c - 1) ≡ source_symbols c (blocks c - 1) =
    full (source_symbols c (blocks c - 1)) (all_symbols c) (symbol_number c (blocks c - 1) 0) (sources_within c (blocks c - 1) sound object (omega arith)) in
    refused (all_symbols c == 0) None (Some (position index (closed_blocks s - 1) (closed_in s (closed_blocks s - 1) - 1)))
    (ne_eqb (all_symbols c) 0 (λ e. omega (arith, sound.some)))
    ∙ ap (λ b. Some (position index (b - 1) (closed_in s (b - 1) - 1))) (some_taken c.l (blocks c) _ object)
    ∙ ap (λ n. Some (position index (blocks c - 1) (n - 1))) closed
  where
    full : (size all first : ℕ) → first + size ≤ all → min size (all - first) ≡ size
    full size all first le = omega arith

-- ---- how long a symbol is

pub length_of_symbol : (p : Settings) (kind : Kind) (info : Option (List ℕ)) (octets : List ℕ) (block symbol : ℕ)
    → length (symbol_octets p (Whole kind info octets) block symbol) ≡ sent_octets (cut_of (length octets) p.e p.b p.max_n) block symbol
length_of_symbol p kind info octets block symbol = go (nat_lt symbol (source_symbols (cut_of (length octets) p.e p.b p.max_n) block))
  where
    go : (b : Bool)
        → length (elim b as (λ v. List ℕ) [
          | true ↦ take p.e (drop (symbol_number (cut_of (length octets) p.e p.b p.max_n) block symbol * p.e) octets)
          | false ↦ Rattle.gf_field.specs.Symbol.encoded_symbol p.e (block_sources p (Whole kind info octets) block) symbol
        ])
        ≡ (if b then min p.e (length octets - symbol_number (cut_of (length octets) p.e p.b p.max_n) block symbol * p.e) else p.e)
    go true =
        length-take p.e (drop (symbol_number (cut_of (length octets) p.e p.b p.max_n) block symbol * p.e) octets)
        ∙ ap (min p.e) (length-drop (symbol_number (cut_of (length octets) p.e p.b p.max_n) block symbol * p.e) octets)
    go false = length-encoded_symbol p.e symbol (block_sources p (Whole kind info octets) block)

-- ---- the three answers

pub answer_past : (c : Cut) (pieces : List ℕ) (p : Settings) (kind : Kind) (info : Option (List ℕ)) (octets old new : List ℕ) (block symbol : ℕ)
    → HoldsObject c pieces p octets → IsSound c → blocks c ≤ block → new ≡ old
    → AnswersSymbol p (Whole kind info octets) block symbol old new None
answer_past c pieces p kind info octets old new block symbol holds sound past same =
    let none = encoded_none p kind info octets block (subst IsSound holds.cut sound) (subst (λ (k : Cut). blocks k ≤ block) holds.cut past) in
    (ap (nat_lt symbol) none ∙ le-ltb symbol 0 (omega arith), same)

pub answer_none : (c : Cut) (pieces : List ℕ) (p : Settings) (kind : Kind) (info : Option (List ℕ)) (octets old new : List ℕ) (block symbol : ℕ)
    → HoldsObject c pieces p octets → IsSound c → block < blocks c → encoding_symbols c block ≤ symbol → new ≡ old
    → AnswersSymbol p (Whole kind info octets) block symbol old new None
answer_none c pieces p kind info octets old new block symbol holds sound there past same =
    let all = encoded_is p kind info octets block (subst IsSound holds.cut sound) (subst (λ (k : Cut). block < blocks k) holds.cut there) in
    (ap (nat_lt symbol) all ∙ le-ltb symbol (encoding_symbols (cut_of (length octets) p.e p.b p.max_n) block) (subst (λ (k : Cut). encoding_symbols k block ≤ symbol) holds.cut past), same)

pub answer_some : (c : Cut) (pieces : List ℕ) (p : Settings) (kind : Kind) (info : Option (List ℕ)) (octets old new : List ℕ) (block symbol n : ℕ)
    → HoldsObject c pieces p octets → IsSound c → block < blocks c → symbol < encoding_symbols c block
    → new ≡ old ++ symbol_octets p (Whole kind info octets) block symbol → n ≡ sent_octets c block symbol
    → AnswersSymbol p (Whole kind info octets) block symbol old new (Some n)
answer_some c pieces p kind info octets old new block symbol n holds sound there encoded is n-is =
    let all = encoded_is p kind info octets block (subst IsSound holds.cut sound) (subst (λ (k : Cut). block < blocks k) holds.cut there) in (
      ap (nat_lt symbol) all ∙ lt-ltb symbol (encoding_symbols (cut_of (length octets) p.e p.b p.max_n) block) (subst (λ (k : Cut). symbol < encoding_symbols k block) holds.cut encoded),
      is,
      n-is ∙ ap (λ (k : Cut). sent_octets k block symbol) holds.cut ∙ sym (length_of_symbol p kind info octets block symbol),
    )

-- ---- two pieces of a ring

pub pieces_long : (ring front back : List ℕ) (start len : ℕ) → front ++ back ≡ round ring start len → start < length ring → len ≤ length ring
    → length front + length back ≡ len
pieces_long ring front back start len is lt le = sym (length-append front back) ∙ ap length is ∙ length-round ring start len lt le

pub front_whole : (e count start size len n : ℕ) → 0 < e → n ≡ min len (size - start) → len ≡ count * e → size % e ≡ 0 → start % e ≡ 0 → n % e ≡ 0
front_whole e count start size len n some n-is len-is ring_whole start_whole =
    ap (λ m. m % e) n-is
    ∙ ap (λ l. min l (size - start) % e) len-is
    ∙ ap (λ s. min (count * e) (size - s) % e) (let at : start ≡ start / e * e = omega (arith, div-add-mod' start e, start_whole) in at)
    ∙ whole_part e count (start / e) size some ring_whole
