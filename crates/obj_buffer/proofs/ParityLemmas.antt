-- The symbols of an object whose octets are padded with zeros.
use Rattle.std.proofs.Common.{◌≡◌, ℕ, zero, suc, ◌+◌, ◌-◌, ◌*◌, ◌%◌, ◌<◌, ◌≤◌, ◌⊎◌, inl, inr, Bool, true, false, refl, sym, ap, ◌∙◌, subst, arith, Option, List, [], ◌∷◌, ◌++◌, length, length-append, take, drop, map, replicate, get_or}
use Rattle.std.specs.Prelude.{nat_lt, min, if◌then◌else◌, bit_xor}
use Rattle.std.specs.Int.Bits.{xor_zero_l, xor_zero_r}
use Rattle.std.specs.List.{AllByRecursion, concat, range_with_len}
use Rattle.std.proofs.Math.Seq.{take-add}
use Rattle.std.proofs.Math.Nat.{zero-mul, suc-mul, mul-le-mul_right}
use Rattle.std.proofs.lemmas.Bool.{cases_lt, lt-ltb, le-ltb}
use Rattle.std.proofs.lemmas.List.{drop-append-le, take-append-le, take_all, length-drop, length-take, length-map, length-replicate, get_or-take, get_or-drop, drop-drop, ext_get_or}
use Rattle.std.proofs.lemmas.List.FromFn.{length-map-range_with_len}
use Rattle.std.proofs.lemmas.Grind.{div_ceil_times}
use Rattle.norm_base.specs.Settings.{Settings}
use Rattle.norm_base.specs.declared.kinds.Kind.{Kind}
use Rattle.fec_plan.specs.Partition.{Cut, cut_of, IsSound, symbols_in, blocks_in, symbols_before, blocks, source_symbols, encoding_symbols, symbol_number, sent_octets}
use Rattle.norm_base.specs.Octets.{AreOctets}
use Rattle.gf_field.specs.Element.{AreElements}
use Rattle.gf_field.specs.Product.{sum_at_bits, shifts}
use Rattle.gf_field.specs.Power.{power, powers}
use Rattle.gf_field.specs.Interpolation.{coefficient}
use Rattle.gf_field.specs.Symbol.{scaled_onto, weighted_symbols, symbol_at, encoded_symbol}
use Rattle.rs_block.specs.Codeword.{IsSymbol}
use Rattle.rs_block.proofs.Functions.{function_laws}
use Rattle.norm_order.specs.Entries.{Whole}
use Rattle.norm_order.specs.Symbols.{symbol_octets}
use Rattle.obj_buffer.specs.Pieces.{whole_symbols, HoldsObject}
use Rattle.fec_plan.proofs.PartitionLemmas.{sources_fit, sources_within, octets_within}

-- ---- zeros behind a list

abbrev zeros : ℕ → List ℕ
zeros m = replicate m 0

zero_there : (m i : ℕ) → get_or (zeros m) i 0 ≡ 0
zero_there zero i = refl
zero_there (suc m) zero = refl
zero_there (suc m) (suc i) = zero_there m i

get_or-padded : (xs : List ℕ) (m i : ℕ) → get_or (xs ++ replicate m 0) i 0 ≡ get_or xs i 0
get_or-padded [] m i = zero_there m i
get_or-padded (x ∷ xs) m zero = refl
get_or-padded (x ∷ xs) m (suc i) = get_or-padded xs m i

-- a symbol, padded with zeros
abbrev filled : ℕ → List ℕ → List ℕ
filled e xs = xs ++ replicate (e - length xs) 0

-- a piece of padded octets is the piece, padded
filled_piece : (e o m : ℕ) (octets : List ℕ) → o + e ≤ length (octets ++ replicate m 0)
    → filled e (take e (drop o octets)) ≡ take e (drop o (octets ++ replicate m 0))
filled_piece e o m octets room =
    ext_get_or 0 (filled e (take e (drop o octets))) (take e (drop o (octets ++ replicate m 0))) (long ∙ sym same)
    (λ i lt.
    let within : i < e = omega (arith, long) in
    get_or-padded (take e (drop o octets)) (e - length (take e (drop o octets))) i
    ∙ get_or-take e (drop o octets) i 0 within
    ∙ get_or-drop o octets i 0
    ∙ sym (get_or-take e (drop o (octets ++ replicate m 0)) i 0 within ∙ get_or-drop o (octets ++ replicate m 0) i 0 ∙ get_or-padded octets m (o + i)))
  where
    long : length (filled e (take e (drop o octets))) ≡ e
    long = omega (
      arith,
      length-append (take e (drop o octets)) (replicate (e - length (take e (drop o octets))) 0),
      length-replicate {A = ℕ} (e - length (take e (drop o octets))) 0,
      length-take e (drop o octets),
    )

    same : length (take e (drop o (octets ++ replicate m 0))) ≡ e
    same = omega (arith, length-take e (drop o (octets ++ replicate m 0)), length-drop o (octets ++ replicate m 0))

-- ---- the symbols of a block, each whole

-- the octets of symbol s + i, for i from a on
abbrev pieces_of : ℕ → ℕ → List ℕ → ℕ → ℕ → List (List ℕ)
pieces_of e s octets a n = map (λ i. take e (drop ((s + i) * e) octets)) (range_with_len a n)

filled_pieces : (e s m : ℕ) (octets : List ℕ) (a n : ℕ) → (s + a + n) * e ≤ length (octets ++ replicate m 0)
    → map (filled e) (pieces_of e s octets a n) ≡ pieces_of e s (octets ++ replicate m 0) a n
filled_pieces e s m octets a zero room = refl
filled_pieces e s m octets a (suc n) room =
    ap (λ x. x ∷ map (filled e) (pieces_of e s octets (a + 1) n)) (filled_piece e ((s + a) * e) m octets first)
    ∙ ap (λ xs. take e (drop ((s + a) * e) (octets ++ replicate m 0)) ∷ xs) (filled_pieces e s m octets (a + 1) n rest)
  where
    first : (s + a) * e + e ≤ length (octets ++ replicate m 0)
    first = let le : (s + a + 1) * e ≤ (s + a + suc n) * e = mul-le-mul_right e (omega arith) in omega (arith, le, room)

    rest : (s + (a + 1) + n) * e ≤ length (octets ++ replicate m 0)
    rest = let same : (s + (a + 1) + n) * e ≡ (s + a + suc n) * e = ap (λ k. k * e) (omega arith) in omega (arith, same, room)

joined_pieces : (e s : ℕ) (octets : List ℕ) (a n : ℕ) → concat (pieces_of e s octets a n) ≡ take (n * e) (drop ((s + a) * e) octets)
joined_pieces e s octets a zero = ap (λ k. take k (drop ((s + a) * e) octets)) (let z : 0 ≡ 0 * e = omega arith in z)
joined_pieces e s octets a (suc n) =
    ap (λ xs. take e (drop ((s + a) * e) octets) ++ xs)
    (joined_pieces e s octets (a + 1) n
    ∙ ap (λ k. take (n * e) (drop k octets)) (let z : (s + (a + 1)) * e ≡ (s + a) * e + e = omega arith in z)
    ∙ ap (take (n * e)) (sym (drop-drop e ((s + a) * e) octets)))
    ∙ sym (take-add e (n * e) (drop ((s + a) * e) octets))
    ∙ ap (λ k. take k (drop ((s + a) * e) octets)) (let z : e + n * e ≡ suc n * e = omega (arith, suc-mul n e) in z)

octets_of_take : (n : ℕ) (xs : List ℕ) → AreOctets xs → AreElements (take n xs)
octets_of_take zero xs each = tt
octets_of_take (suc n) [] each = tt
octets_of_take (suc n) (x ∷ xs) each = (each 0, octets_of_take n xs (λ i. each (suc i)))

octets_of_drop : (n : ℕ) (xs : List ℕ) → AreOctets xs → (i : ℕ) → get_or (drop n xs) i 0 < 256
octets_of_drop n xs each i = subst (λ k. k < 256) (sym (get_or-drop n xs i 0)) (each (n + i))

sizes_of_pieces : (e s : ℕ) (octets : List ℕ) (a n : ℕ) → (s + a + n) * e ≤ length octets → AllByRecursion (λ x. length x ≡ e) (pieces_of e s octets a n)
sizes_of_pieces e s octets a zero room = tt
sizes_of_pieces e s octets a (suc n) room = (first, sizes_of_pieces e s octets (a + 1) n rest)
  where
    first : length (take e (drop ((s + a) * e) octets)) ≡ e
    first = let le : (s + a + 1) * e ≤ (s + a + suc n) * e = mul-le-mul_right e (omega arith) in
        omega (arith, le, room, length-take e (drop ((s + a) * e) octets), length-drop ((s + a) * e) octets)

    rest : (s + (a + 1) + n) * e ≤ length octets
    rest = let same : (s + (a + 1) + n) * e ≡ (s + a + suc n) * e = ap (λ k. k * e) (omega arith) in omega (arith, same, room)

octets_of_pieces : (e s : ℕ) (octets : List ℕ) (a n : ℕ) → AreOctets octets → AllByRecursion AreElements (pieces_of e s octets a n)
octets_of_pieces e s octets a zero each = tt
octets_of_pieces e s octets a (suc n) each =
    (octets_of_take e (drop ((s + a) * e) octets) (octets_of_drop ((s + a) * e) octets each), octets_of_pieces e s octets (a + 1) n each)

-- ---- zeros behind a symbol count for nothing

no_bits : (vs : List ℕ) → sum_at_bits vs 0 ≡ 0
unfolding sum_at_bits
no_bits [] = refl
no_bits (v ∷ vs) = ap (λ n. bit_xor n (sum_at_bits vs 0)) (zero-mul v) ∙ ap (bit_xor 0) (no_bits vs) ∙ xor_zero_r 0

zeros_onto : (vs : List ℕ) (m : ℕ) (ys : List ℕ) → scaled_onto vs (replicate m 0) ys ≡ ys
unfolding scaled_onto
zeros_onto vs m [] = refl
zeros_onto vs zero (y ∷ ys) = refl
zeros_onto vs (suc m) (y ∷ ys) =
    ap (λ z. bit_xor z y ∷ scaled_onto vs (replicate m 0) ys) (no_bits vs)
    ∙ ap (λ z. z ∷ scaled_onto vs (replicate m 0) ys) (xor_zero_l y)
    ∙ ap (λ zs. y ∷ zs) (zeros_onto vs m ys)

filled_onto : (vs xs : List ℕ) (m : ℕ) (ys : List ℕ) → scaled_onto vs xs ys ≡ scaled_onto vs (xs ++ replicate m 0) ys
unfolding scaled_onto
filled_onto vs xs m [] = refl
filled_onto vs [] m (y ∷ ys) = sym (zeros_onto vs m (y ∷ ys))
filled_onto vs (x ∷ xs) m (y ∷ ys) = ap (λ zs. bit_xor (sum_at_bits vs x) y ∷ zs) (filled_onto vs xs m ys)

filled_weighted : (size : ℕ) (places ms : List ℕ) (symbols : List (List ℕ)) (x : ℕ)
    → weighted_symbols size places ms symbols x ≡ weighted_symbols size places ms (map (filled size) symbols) x
unfolding weighted_symbols
filled_weighted size places [] symbols x = refl
filled_weighted size places (m ∷ ms) [] x = refl
filled_weighted size places (m ∷ ms) (s ∷ ss) x =
    filled_onto (shifts 8 (coefficient places m x % 256)) s (size - length s) (weighted_symbols size places ms ss x)
    ∙ ap (scaled_onto (shifts 8 (coefficient places m x % 256)) (filled size s)) (filled_weighted size places ms ss x)

filled_encoded : (size : ℕ) (symbols : List (List ℕ)) (j : ℕ) → encoded_symbol size symbols j ≡ encoded_symbol size (map (filled size) symbols) j
unfolding encoded_symbol symbol_at
filled_encoded size symbols j =
    filled_weighted size (powers (length symbols)) (powers (length symbols)) symbols (power j)
    ∙ ap (λ n. weighted_symbols size (powers n) (powers n) (map (filled size) symbols) (power j)) (sym (length-map symbols (filled size)))

-- ---- a block of an object

-- symbol j of the codeword of a block of padded octets is the block's encoded symbol
block_symbol : (k n e s m j : ℕ) (octets symbol : List ℕ) → k ≤ n → n ≤ 255 → j < n → (s + k) * e ≤ length (octets ++ replicate m 0)
    → AreOctets (octets ++ replicate m 0) → length symbol ≡ e
    → IsSymbol k n e (take (k * e) (drop (s * e) (octets ++ replicate m 0))) j symbol
    → symbol ≡ encoded_symbol e (pieces_of e s octets 0 k) j
block_symbol k n e s m j octets symbol fits few lt room each long is =
    function_laws.encoded_only k n e j (pieces_of e s (octets ++ replicate m 0) 0 k) symbol fits few lt
    (record {
      count = length-map-range_with_len (λ i. take e (drop ((s + i) * e) (octets ++ replicate m 0))) 0 k;
      sizes = sizes_of_pieces e s (octets ++ replicate m 0) 0 k room_of;
      octets = octets_of_pieces e s (octets ++ replicate m 0) 0 k each;
    })
    long
    (subst (λ (xs : List ℕ). IsSymbol k n e xs j symbol)
    (ap (λ r. take (k * e) (drop (r * e) (octets ++ replicate m 0))) (let z : s ≡ s + 0 = omega arith in z)
    ∙ sym (joined_pieces e s (octets ++ replicate m 0) 0 k)) is)
    ∙ ap (λ (xs : List (List ℕ)). encoded_symbol e xs j) (sym (filled_pieces e s m octets 0 k room_of))
    ∙ sym (filled_encoded e (pieces_of e s octets 0 k) j)
  where
    room_of : (s + 0 + k) * e ≤ length (octets ++ replicate m 0)
    room_of = let same : (s + 0 + k) * e ≡ (s + k) * e = ap (λ r. r * e) (omega arith) in omega (arith, same, room)

-- ---- what is appended

taken : {X : Type 0} (b : Bool) (x y : X) → b ≡ true → (elim b as (λ v. X) [ true ↦ x | false ↦ y ]) ≡ x
taken true x y e = refl
taken false x y e = absurd (cc)

refused : {X : Type 0} (b : Bool) (x y : X) → b ≡ false → (elim b as (λ v. X) [ true ↦ x | false ↦ y ]) ≡ y
refused true x y e = absurd (cc)
refused false x y e = refl

-- how many octets the padded ones are
pub length-whole_symbols : (e : ℕ) (octets : List ℕ) → 0 < e → length (whole_symbols e octets) ≡ symbols_in (length octets) e * e
length-whole_symbols e octets some =
    omega (
      arith,
      length-append octets (replicate (symbols_in (length octets) e * e - length octets) 0),
      length-replicate {A = ℕ} (symbols_in (length octets) e * e - length octets) 0,
      (div_ceil_times (length octets) e some).0,
    )

short_piece : (e s m : ℕ) (octets : List ℕ) → s ≤ length octets
    → take (min e (length octets - s)) (drop s (octets ++ replicate m 0)) ≡ take e (drop s octets)
short_piece e s m octets le =
    ap (take (min e (length octets - s))) (drop-append-le s octets (replicate m 0) le)
    ∙ take-append-le (min e (length octets - s)) (drop s octets) (replicate m 0) (omega (arith, length-drop s octets))
    ∙ go (cases_lt e (length octets - s))
  where
    go : (e < length octets - s) ⊎ (length octets - s ≤ e) → take (min e (length octets - s)) (drop s octets) ≡ take e (drop s octets)
    go (inl less) = ap (λ k. take k (drop s octets)) (omega arith)
    go (inr more) =
        take_all (min e (length octets - s)) (drop s octets) (omega (arith, length-drop s octets))
        ∙ sym (take_all e (drop s octets) (omega (arith, length-drop s octets)))

source_is : (p : Settings) (kind : Kind) (info : Option (List ℕ)) (octets : List ℕ) (block symbol : ℕ)
    → IsSound (cut_of (length octets) p.e p.b p.max_n) → block < blocks (cut_of (length octets) p.e p.b p.max_n)
    → symbol < source_symbols (cut_of (length octets) p.e p.b p.max_n) block
    → take (sent_octets (cut_of (length octets) p.e p.b p.max_n) block symbol)
    (drop (symbol_number (cut_of (length octets) p.e p.b p.max_n) block symbol * p.e) (whole_symbols p.e octets))
    ≡ symbol_octets p (Whole kind info octets) block symbol
source_is p kind info octets block symbol sound there source =
    let c : Cut = cut_of (length octets) p.e p.b p.max_n in
    let test = lt-ltb symbol (source_symbols c block) source in
    let room : symbol_number c block symbol * p.e + p.e ≤ symbols_in (length octets) p.e * p.e = octets_within c block symbol sound refl there source in
    let least : 64 ≤ p.e = sound.least_e in
    let le : symbol_number c block symbol * p.e ≤ length octets = omega (arith, room, (div_ceil_times (length octets) p.e (omega arith)).1) in
    ap (λ (b : Bool). take (if b then min p.e (length octets - symbol_number c block symbol * p.e) else p.e) (drop (symbol_number c block symbol * p.e) (whole_symbols p.e octets))) test
    ∙ short_piece p.e (symbol_number c block symbol * p.e) (symbols_in (length octets) p.e * p.e - length octets) octets le
    ∙ sym (taken (nat_lt symbol (source_symbols c block)) _ _ test)

-- a source symbol's octets of the pieces are the symbol's
pub source_appended : (c : Cut) (pieces : List ℕ) (p : Settings) (kind : Kind) (info : Option (List ℕ)) (octets old new : List ℕ) (block symbol : ℕ)
    → HoldsObject c pieces p octets → IsSound c → block < blocks c → symbol < source_symbols c block
    → new ≡ old ++ take (sent_octets c block symbol) (drop (symbol_number c block symbol * c.e) pieces)
    → new ≡ old ++ symbol_octets p (Whole kind info octets) block symbol
source_appended c pieces p kind info octets old new block symbol holds sound there source is =
    is
    ∙ ap (λ (k : Cut). old ++ take (sent_octets k block symbol) (drop (symbol_number k block symbol * k.e) pieces)) holds.cut
    ∙ ap (λ (xs : List ℕ). old ++ take (sent_octets (cut_of (length octets) p.e p.b p.max_n) block symbol)
    (drop (symbol_number (cut_of (length octets) p.e p.b p.max_n) block symbol * p.e) xs)) holds.padded
    ∙ ap (λ (xs : List ℕ). old ++ xs)
    (source_is p kind info octets block symbol (subst IsSound holds.cut sound)
    (subst (λ (k : Cut). block < blocks k) holds.cut there) (subst (λ (k : Cut). symbol < source_symbols k block) holds.cut source))

parity_is : (p : Settings) (kind : Kind) (info : Option (List ℕ)) (octets parity : List ℕ) (block symbol : ℕ)
    → IsSound (cut_of (length octets) p.e p.b p.max_n) → block < blocks (cut_of (length octets) p.e p.b p.max_n)
    → source_symbols (cut_of (length octets) p.e p.b p.max_n) block ≤ symbol
    → symbol < encoding_symbols (cut_of (length octets) p.e p.b p.max_n) block
    → encoding_symbols (cut_of (length octets) p.e p.b p.max_n) block ≤ 255
    → AreOctets (whole_symbols p.e octets) → length parity ≡ p.e
    → IsSymbol (source_symbols (cut_of (length octets) p.e p.b p.max_n) block) (encoding_symbols (cut_of (length octets) p.e p.b p.max_n) block) p.e
    (take (source_symbols (cut_of (length octets) p.e p.b p.max_n) block * p.e)
    (drop (symbol_number (cut_of (length octets) p.e p.b p.max_n) block 0 * p.e) (whole_symbols p.e octets))) symbol parity
    → parity ≡ symbol_octets p (Whole kind info octets) block symbol
parity_is p kind info octets parity block symbol sound there not_source encoded few each long is =
    let c : Cut = cut_of (length octets) p.e p.b p.max_n in
    let test = le-ltb symbol (source_symbols c block) not_source in
    let first : ℕ = symbols_before (symbols_in (length octets) p.e) (blocks_in (symbols_in (length octets) p.e) p.b) block in
    let same : symbol_number c block 0 ≡ first = omega arith in
    let least : 64 ≤ p.e = sound.least_e in
    let le : first + source_symbols c block ≤ symbols_in (length octets) p.e = omega (arith, sources_within c block sound refl there) in
    let room : (first + source_symbols c block) * p.e ≤ length (whole_symbols p.e octets) =
    omega (arith, mul-le-mul_right p.e le, length-whole_symbols p.e octets (omega arith)) in
    block_symbol (source_symbols c block) (encoding_symbols c block) p.e first (symbols_in (length octets) p.e * p.e - length octets)
    symbol octets parity (sources_fit c block sound) few encoded room each long
    (subst (λ r. IsSymbol (source_symbols c block) (encoding_symbols c block) p.e (take (source_symbols c block * p.e) (drop (r * p.e) (whole_symbols p.e octets))) symbol parity) same is)
    ∙ sym (refused (nat_lt symbol (source_symbols c block)) _ _ test)

-- the parity symbol of the pieces is the block's
pub parity_appended : (c : Cut) (pieces : List ℕ) (p : Settings) (kind : Kind) (info : Option (List ℕ)) (octets old new parity : List ℕ) (block symbol : ℕ)
    → HoldsObject c pieces p octets → IsSound c → block < blocks c → source_symbols c block ≤ symbol → symbol < encoding_symbols c block
    → encoding_symbols c block ≤ 255 → AreOctets pieces → length parity ≡ c.e
    → IsSymbol (source_symbols c block) (encoding_symbols c block) c.e (take (source_symbols c block * c.e) (drop (symbol_number c block 0 * c.e) pieces)) symbol parity
    → new ≡ old ++ parity
    → new ≡ old ++ symbol_octets p (Whole kind info octets) block symbol
parity_appended c pieces p kind info octets old new parity block symbol holds sound there not_source encoded few each long is appended =
    appended
    ∙ ap (λ (xs : List ℕ). old ++ xs)
    (parity_is p kind info octets parity block symbol (subst IsSound holds.cut sound) (subst (λ (k : Cut). block < blocks k) holds.cut there)
    (subst (λ (k : Cut). source_symbols k block ≤ symbol) holds.cut not_source) (subst (λ (k : Cut). symbol < encoding_symbols k block) holds.cut encoded)
    (subst (λ (k : Cut). encoding_symbols k block ≤ 255) holds.cut few)
    (subst (λ (xs : List ℕ). (i : ℕ) → get_or xs i 0 < 256) holds.padded each)
    (long ∙ ap (λ (k : Cut). k.e) holds.cut)
    (subst (λ (xs : List ℕ). IsSymbol (source_symbols (cut_of (length octets) p.e p.b p.max_n) block) (encoding_symbols (cut_of (length octets) p.e p.b p.max_n) block) p.e
    (take (source_symbols (cut_of (length octets) p.e p.b p.max_n) block * p.e) (drop (symbol_number (cut_of (length octets) p.e p.b p.max_n) block 0 * p.e) xs)) symbol parity)
    holds.padded
    (subst (λ (k : Cut). IsSymbol (source_symbols k block) (encoding_symbols k block) k.e (take (source_symbols k block * k.e) (drop (symbol_number k block 0 * k.e) pieces)) symbol parity)
    holds.cut is)))
