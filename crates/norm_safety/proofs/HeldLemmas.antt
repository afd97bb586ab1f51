-- What a receiver holds of a block of an object of octets.
use Rattle.std.proofs.Common.{◌≡◌, ℕ, zero, suc, ◌*◌, ◌<◌, ◌≤◌, Bool, true, false, cond, refl, sym, ap, ◌∙◌, subst, arith, inl, inr, List, [], ◌∷◌, map, length, get_or, take, drop, Option, zero-add}
use Rattle.std.specs.Prelude.{nat_lt, ◌==◌, ◌&&◌, ⊤}
use Rattle.std.specs.List.{AllByRecursion, filter, range_with_len}
use Rattle.std.proofs.lemmas.Bool.{and_parts, eqb-true, ltb-false}
use Rattle.std.proofs.lemmas.Bool.Decides.{Decides-ltb}
use Rattle.std.proofs.lemmas.List.FromFn.{length-map-range_with_len, get_or-map-range_with_len}
use Rattle.gf_field.specs.Element.{AreElements}
use Rattle.gf_field.specs.Symbol.{encoded_symbol}
use Rattle.gf_field.proofs.Symbols.{symbol_laws}
use Rattle.norm_base.specs.Settings.{Settings}
use Rattle.norm_base.specs.declared.kinds.Kind.{Kind}
use Rattle.fec_plan.specs.Partition.{Cut, cut_of, source_symbols, encoding_symbols, symbol_number}
use Rattle.fec_plan.proofs.CoverLemmas.{blocks_are_even_law}
use Rattle.norm_order.specs.Entries.{Object, Whole}
use Rattle.norm_order.specs.Shapes.{Shape, shape_of, closed_in, encoded_in}
use Rattle.norm_order.specs.Symbols.{symbol_octets, source_octets, block_sources}
use Rattle.fec_plan.proofs.PositionLemmas.{before_decides}
use Rattle.norm_receive_rules.specs.Holding.{Held}
use Rattle.norm_receive_rules.specs.Putting.{held_before}
use Rattle.norm_receive_rules.specs.BlockValue.{ids_of}
use Rattle.norm_send_rules.proofs.CutNames.{CutRange, is_sound, few_encoding}
use Rattle.norm_safety.proofs.SolvedLemmas.{own_octet}
use Rattle.norm_safety.proofs.BlockLemmas.{IsCoded, Climbing}

-- each symbol stands before all that follow it: none is held twice
abbrev pub Rising : List Held → Type 0
Rising [] = ⊤
Rising (h ∷ held) = AllByRecursion (λ other. held_before h other ≡ true) held × Rising held

-- a symbol that is held is an encoded one of the object, where it is one of that index
abbrev pub IsOfObject : Settings → Object → ℕ → Held → Type 0
IsOfObject p object index h = h.at.index ≡ index
    → (nat_lt h.at.symbol (encoded_in (shape_of p object) h.at.block) ≡ true) × (h.octets ≡ symbol_octets p object h.at.block h.at.symbol)

-- the symbol is of this block
abbrev pub is_in : ℕ → ℕ → Held → Bool
is_in index block h = h.at.index == index && h.at.block == block

-- ---- the symbols of a block rise

climbs_from : (index block : ℕ) (h : Held) (held : List Held) → h.at.index ≡ index → h.at.block ≡ block
    → AllByRecursion (λ other. held_before h other ≡ true) held → AllByRecursion (λ y. h.at.symbol < y) (ids_of (filter (is_in index block) held))
climbs_from index block h [] i b up = tt
climbs_from index block h (other ∷ held) i b up = go (is_in index block other) refl (climbs_from index block h held i b up.1)
  where
    go : (is : Bool) → is_in index block other ≡ is → AllByRecursion (λ y. h.at.symbol < y) (ids_of (filter (is_in index block) held))
        → AllByRecursion (λ y. h.at.symbol < y) (ids_of (cond is (other ∷ filter (is_in index block) held) (filter (is_in index block) held)))
    go false e rest = rest
    go true e rest =
        let parts = and_parts (other.at.index == index) (other.at.block == block) e in
        let same_index = eqb-true other.at.index index parts.0 in
        let same_block = eqb-true other.at.block block parts.1 in
        let low : h.at.symbol < other.at.symbol =
        elim ((before_decides h.at other.at).0 up.0) [
          | inl point ↦ elim point [ inl less ↦ absurd (omega (arith, less, i, same_index)) | inr less ↦ absurd (omega (arith, less.1, b, same_block)) ]
          | inr less ↦ less.1
        ] in
        (low, rest)

pub climbs : (index block : ℕ) (held : List Held) → Rising held → Climbing (ids_of (filter (is_in index block) held))
climbs index block [] up = tt
climbs index block (h ∷ held) up = go (is_in index block h) refl (climbs index block held up.1)
  where
    go : (is : Bool) → is_in index block h ≡ is → Climbing (ids_of (filter (is_in index block) held))
        → Climbing (ids_of (cond is (h ∷ filter (is_in index block) held) (filter (is_in index block) held)))
    go false e rest = rest
    go true e rest =
        let parts = and_parts (h.at.index == index) (h.at.block == block) e in
        (climbs_from index block h held (eqb-true h.at.index index parts.0) (eqb-true h.at.block block parts.1) up.0, rest)

-- ---- the sources of a block

pub octets-take : (n : ℕ) (xs : List ℕ) → AreElements xs → AreElements (take n xs)
octets-take zero xs are = tt
octets-take (suc n) [] are = tt
octets-take (suc n) (x ∷ xs) are = (are.0, octets-take n xs are.1)

pub octets-drop : (n : ℕ) (xs : List ℕ) → AreElements xs → AreElements (drop n xs)
octets-drop zero xs are = are
octets-drop (suc n) [] are = tt
octets-drop (suc n) (x ∷ xs) are = octets-drop n xs are.1

source-octets : (p : Settings) (kind : Kind) (info : Option (List ℕ)) (octets : List ℕ) (number : ℕ) → AreElements octets
    → AreElements (source_octets p (Whole kind info octets) number)
source-octets p kind info octets number are = octets-take p.e (drop (number * p.e) octets) (octets-drop (number * p.e) octets are)

each_source : (f : ℕ → List ℕ) → ((j : ℕ) → AreElements (f j)) → (js : List ℕ) → AllByRecursion AreElements (map f js)
each_source f are [] = tt
each_source f are (j ∷ js) = (are j, each_source f are js)

pub sources-octets : (p : Settings) (kind : Kind) (info : Option (List ℕ)) (octets : List ℕ) (block : ℕ) → AreElements octets
    → AllByRecursion AreElements (block_sources p (Whole kind info octets) block)
sources-octets p kind info octets block are =
    let cut : Cut = cut_of (length octets) p.e p.b p.max_n in
    each_source (λ symbol. source_octets p (Whole kind info octets) (symbol_number cut block symbol))
    (λ j. source-octets p kind info octets (symbol_number cut block j) are) (range_with_len 0 (source_symbols cut block))

pub length-sources : (p : Settings) (kind : Kind) (info : Option (List ℕ)) (octets : List ℕ) (block : ℕ)
    → length (block_sources p (Whole kind info octets) block) ≡ source_symbols (cut_of (length octets) p.e p.b p.max_n) block
length-sources p kind info octets block =
    let cut : Cut = cut_of (length octets) p.e p.b p.max_n in
    length-map-range_with_len (λ symbol. source_octets p (Whole kind info octets) (symbol_number cut block symbol)) 0 (source_symbols cut block)

pub source_at : (p : Settings) (kind : Kind) (info : Option (List ℕ)) (octets : List ℕ) (block j : ℕ)
    → j < source_symbols (cut_of (length octets) p.e p.b p.max_n) block
    → get_or (block_sources p (Whole kind info octets) block) j []
    ≡ source_octets p (Whole kind info octets) (symbol_number (cut_of (length octets) p.e p.b p.max_n) block j)
source_at p kind info octets block j lt =
    let cut : Cut = cut_of (length octets) p.e p.b p.max_n in
    get_or-map-range_with_len (λ symbol. source_octets p (Whole kind info octets) (symbol_number cut block symbol)) 0 (source_symbols cut block) j j [] lt (zero-add j)

pub few_sources : (p : Settings) → CutRange p → (l block : ℕ) → 0 < l → l ≤ p.octets → source_symbols (cut_of l p.e p.b p.max_n) block ≤ 255
few_sources p range l block some most =
    let even = blocks_are_even_law l p.e p.b p.max_n (is_sound p range l some most) block in
    omega (arith, even.1, range.most_b)

encoded_few : (p : Settings) (s : Shape) (block : ℕ) → source_symbols s.cut block ≤ 255 → encoding_symbols s.cut block ≤ p.max_n → p.max_n ≤ 255
    → encoded_in s block ≤ 255
encoded_few p s block k n most = go (closed_in s block == source_symbols s.cut block)
  where
    go : (b : Bool) → elim b [ true ↦ encoding_symbols s.cut block | false ↦ closed_in s block ] ≤ 255
    go true = omega (arith, n, most)
    go false = omega (arith, k)

-- ---- what is held of a block is encoded

coded_one : (p : Settings) → CutRange p → (kind : Kind) (info : Option (List ℕ)) (octets : List ℕ) → 0 < length octets → length octets ≤ p.octets
    → AreElements octets → (h : Held) → nat_lt h.at.symbol (encoded_in (shape_of p (Whole kind info octets)) h.at.block) ≡ true
    → h.octets ≡ symbol_octets p (Whole kind info octets) h.at.block h.at.symbol
    → IsCoded p.e (block_sources p (Whole kind info octets) h.at.block) h
coded_one p range kind info octets some most are h low is =
    let object : Object = Whole kind info octets in
    let sources : List (List ℕ) = block_sources p object h.at.block in
    let k : ℕ = source_symbols (cut_of (length octets) p.e p.b p.max_n) h.at.block in
    let count : length sources ≡ k = length-sources p kind info octets h.at.block in
    let few : k ≤ 255 = few_sources p range (length octets) h.at.block some most in
    let few_encoded : encoded_in (shape_of p object) h.at.block ≤ 255 =
    encoded_few p (shape_of p object) h.at.block few (few_encoding p range (length octets) some most h.at.block) range.most_n in
    let below : h.at.symbol < 255 = (let lt = (Decides-ltb h.at.symbol (encoded_in (shape_of p object) h.at.block)).0 low in omega (arith, lt, few_encoded)) in
    let all : AllByRecursion AreElements sources = sources-octets p kind info octets h.at.block are in
    go below (omega (arith, count, few)) all (nat_lt h.at.symbol k) refl is
  where
    go : h.at.symbol < 255 → length (block_sources p (Whole kind info octets) h.at.block) ≤ 255
        → AllByRecursion AreElements (block_sources p (Whole kind info octets) h.at.block)
        → (b : Bool) → nat_lt h.at.symbol (source_symbols (cut_of (length octets) p.e p.b p.max_n) h.at.block) ≡ b
        → h.octets ≡ elim b [
          | true ↦ source_octets p (Whole kind info octets) (symbol_number (cut_of (length octets) p.e p.b p.max_n) h.at.block h.at.symbol)
          | false ↦ encoded_symbol p.e (block_sources p (Whole kind info octets) h.at.block) h.at.symbol
        ]
        → IsCoded p.e (block_sources p (Whole kind info octets) h.at.block) h
    go below few all true e is =
        let number : ℕ = symbol_number (cut_of (length octets) p.e p.b p.max_n) h.at.block h.at.symbol in
        let sources : List (List ℕ) = block_sources p (Whole kind info octets) h.at.block in
        let k : ℕ = source_symbols (cut_of (length octets) p.e p.b p.max_n) h.at.block in
        let lt : h.at.symbol < k = (Decides-ltb h.at.symbol k).0 e in
        let own : h.octets ≡ get_or sources h.at.symbol [] = is ∙ sym (source_at p kind info octets h.at.block h.at.symbol lt) in
        let count : length sources ≡ k = length-sources p kind info octets h.at.block in
        record {
          below = below;
          octets = subst AreElements (sym is) (source-octets p kind info octets number are);
          coded = λ t within. ap (λ xs. get_or xs t 0) own ∙ sym (own_octet p.e t h.at.symbol sources few all within (omega (arith, lt, count)));
          own = λ _. own;
        }
    go below few all false e is =
        let sources : List (List ℕ) = block_sources p (Whole kind info octets) h.at.block in
        let k : ℕ = source_symbols (cut_of (length octets) p.e p.b p.max_n) h.at.block in
        let count : length sources ≡ k = length-sources p kind info octets h.at.block in
        record {
          below = below;
          octets = subst AreElements (sym is) (symbol_laws.octets p.e h.at.symbol sources);
          coded = λ t within. ap (λ xs. get_or xs t 0) is;
          own = λ lt. let no : k ≤ h.at.symbol = ltb-false h.at.symbol k e in absurd (omega (arith, no, lt, count));
        }

-- what is held of a block of the object is encoded
pub held_coded : (p : Settings) → CutRange p → (kind : Kind) (info : Option (List ℕ)) (octets : List ℕ) → 0 < length octets → length octets ≤ p.octets
    → AreElements octets → (index block : ℕ) (held : List Held) → AllByRecursion (IsOfObject p (Whole kind info octets) index) held
    → AllByRecursion (IsCoded p.e (block_sources p (Whole kind info octets) block)) (filter (is_in index block) held)
held_coded p range kind info octets some most are index block [] of = tt
held_coded p range kind info octets some most are index block (h ∷ held) of =
    go (is_in index block h) refl (held_coded p range kind info octets some most are index block held of.1)
  where
    go : (is : Bool) → is_in index block h ≡ is
        → AllByRecursion (IsCoded p.e (block_sources p (Whole kind info octets) block)) (filter (is_in index block) held)
        → AllByRecursion (IsCoded p.e (block_sources p (Whole kind info octets) block)) (cond is (h ∷ filter (is_in index block) held) (filter (is_in index block) held))
    go false e rest = rest
    go true e rest =
        let parts = and_parts (h.at.index == index) (h.at.block == block) e in
        let is = of.0 (eqb-true h.at.index index parts.0) in
        let one = coded_one p range kind info octets some most are h is.0 is.1 in
        (subst (λ (b : ℕ). IsCoded p.e (block_sources p (Whole kind info octets) b) h) (eqb-true h.at.block block parts.1) one, rest)
