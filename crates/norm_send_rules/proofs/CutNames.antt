-- The cut of an object of a profile: it is sound, its symbols' numbers have 8 bits, and its blocks' 24.
use Rattle.std.proofs.Common.{◌≡◌, ℕ, ◌+◌, ◌-◌, ◌*◌, ◌<◌, ◌≤◌, Bool, true, false, refl, sym, ap, ◌∙◌, arith}
use Rattle.std.specs.Prelude.{◌==◌, min, nat_lt}
use Rattle.std.proofs.lemmas.Bool.Decides.{Decides-eqb, Decides-ltb}
use Rattle.std.proofs.Math.Nat.{mul-le-mul_left, mul-le-mul_right, div-le_of_le-mul}
use Rattle.norm_base.specs.Settings.{Settings, InRange}
use Rattle.fec_plan.specs.Partition.{Cut, IsSound, cut_of, symbols_in, blocks_in, small_block, large_block, larger_blocks, symbols_before, source_symbols, encoding_symbols}
use Rattle.fec_plan.proofs.CutLemmas.{some_blocks}
use Rattle.fec_plan.proofs.CoverLemmas.{blocks_are_even_law, few_blocks, small_some, between, before_step, all_before}
use Rattle.norm_order.specs.Shapes.{Shape, closed_in, encoded_in, closed_blocks}

-- the ranges of a profile's numbers that its cuts go by
pub record CutRange (p : Settings) : Type 0 where
  pub least_e : 64 ≤ p.e
  pub most_e : p.e ≤ 1400
  pub least_b : 1 ≤ p.b
  pub most_b : p.b ≤ 200
  pub max_n : p.b ≤ p.max_n
  pub most_n : p.max_n ≤ 255
  pub octets : p.octets ≤ 16777216

pub cut_range : (p : Settings) → InRange p → CutRange p
cut_range p range = record {
  least_e = range.e.0;
  most_e = range.e.1;
  least_b = range.b.0;
  most_b = range.b.1;
  max_n = range.longest;
  most_n = range.max_n.1;
  octets = range.octets.1;
}

some_symbols : (l e : ℕ) → 0 < l → 0 < e → 0 < symbols_in l e
some_symbols l e hl he = some_blocks l e hl he

few_symbols : (l e : ℕ) → 0 < l → 0 < e → symbols_in l e ≤ l
few_symbols l e hl he = few_blocks l e hl he

pub is_sound : (p : Settings) → CutRange p → (l : ℕ) → 0 < l → l ≤ p.octets → IsSound (cut_of l p.e p.b p.max_n)
is_sound p range l some most =
    let t : ℕ = symbols_in l p.e in
    let has = some_symbols l p.e some (omega (arith, range.least_e)) in
    let few = few_symbols l p.e some (omega (arith, range.least_e)) in
    let fewer = few_blocks t p.b has (omega (arith, range.least_b)) in
    record {
      some = has;
      least_e = range.least_e;
      most_e = range.most_e;
      least_b = range.least_b;
      most_b = range.most_b;
      max_n = range.max_n;
      few = omega (arith, few, fewer, range.octets);
    }

-- a block has at most max_n encoding symbols
pub few_encoding : (p : Settings) → CutRange p → (l : ℕ) → 0 < l → l ≤ p.octets → (block : ℕ)
    → encoding_symbols (cut_of l p.e p.b p.max_n) block ≤ p.max_n
few_encoding p range l some most block =
    let c : Cut = cut_of l p.e p.b p.max_n in
    let even = blocks_are_even_law l p.e p.b p.max_n (is_sound p range l some most) block in
    let k : ℕ = source_symbols c block in
    let up : k * p.max_n ≤ p.b * p.max_n = mul-le-mul_right p.max_n even.1 in
    div-le_of_le-mul p.b up

-- a block's number has 24 bits, and a symbol's 8
abbrev pub AreNames : ℕ → ℕ → Type 0
AreNames block symbol = (block < 16777216) × (symbol < 256)

not_equal : (a b : ℕ) → (a == b) ≡ false → a ≡ b → ⊥
not_equal a b e is = clash (sym e ∙ (Decides-eqb a b).1 is)
  where
    clash : false ≡ true → ⊥
    clash e = cc

-- a block that has an encoded symbol has a source symbol that is closed
some_closed : (s : Shape) (block : ℕ) → 1 ≤ source_symbols s.cut block → 0 < encoded_in s block → 0 < closed_in s block
some_closed s block some h = go (closed_in s block == source_symbols s.cut block) refl h
  where
    go : (b : Bool) → (closed_in s block == source_symbols s.cut block) ≡ b
        → 0 < elim b [ true ↦ encoding_symbols s.cut block | false ↦ closed_in s block ] → 0 < closed_in s block
    go true e h = (let is = (Decides-eqb (closed_in s block) (source_symbols s.cut block)).0 e in omega arith)
    go false e h = h

-- before a block there is a symbol at least for each block
block_before : (t n block : ℕ) → 1 ≤ small_block t n → block ≤ symbols_before t n block
block_before t n block small =
    let large = between t n block in
    let i : ℕ = larger_blocks t n in
    let least : small_block t n ≤ large_block t n = omega (arith, large.0, large.1) in
    let front : min block i * 1 ≤ min block i * large_block t n = mul-le-mul_left (min block i) (let z : 1 ≤ large_block t n = omega (arith, small, least) in z) in
    let rest : (block - i) * 1 ≤ (block - i) * small_block t n = mul-le-mul_left (block - i) small in
    omega (arith, front, rest)

-- a block with a closed source symbol has a number of 24 bits
block_fits : (p : Settings) → CutRange p → (l : ℕ) (info : Bool) (block : ℕ) → 0 < l → l ≤ p.octets
    → 0 < closed_in (record { cut = cut_of l p.e p.b p.max_n; closed = symbols_in l p.e; info = info }) block → block < 16777216
block_fits p range l info block some most closed =
    let t : ℕ = symbols_in l p.e in
    let n : ℕ = blocks_in t p.b in
    let has = some_symbols l p.e some (omega (arith, range.least_e)) in
    let few = few_symbols l p.e some (omega (arith, range.least_e)) in
    let n_some = some_blocks t p.b has (omega (arith, range.least_b)) in
    let small = small_some t n n_some (few_blocks t p.b has (omega (arith, range.least_b))) in
    let before = block_before t n block small in
    omega (arith, closed, before, few, most, range.octets)

pub names_fit : (p : Settings) → CutRange p → (l : ℕ) (info : Bool) (block symbol : ℕ) → 0 < l → l ≤ p.octets
    → nat_lt symbol (encoded_in (record { cut = cut_of l p.e p.b p.max_n; closed = symbols_in l p.e; info = info }) block) ≡ true
    → AreNames block symbol
names_fit p range l info block symbol some most e =
    let s : Shape = record { cut = cut_of l p.e p.b p.max_n; closed = symbols_in l p.e; info = info } in
    let lt : symbol < encoded_in s block = (Decides-ltb symbol (encoded_in s block)).0 e in
    let even = blocks_are_even_law l p.e p.b p.max_n (is_sound p range l some most) block in
    let closed = some_closed s block even.0 (omega (arith, lt)) in
    let parity = few_encoding p range l some most block in
    let all : encoded_in s block ≤ 255 = encoded_most s block even.1 parity in
    (block_fits p range l info block some most closed, omega (arith, lt, all))
  where
    encoded_most : (s : Shape) (block : ℕ) → source_symbols s.cut block ≤ p.b → encoding_symbols s.cut block ≤ p.max_n → encoded_in s block ≤ 255
    encoded_most s block k n = go (closed_in s block == source_symbols s.cut block)
      where
        go : (b : Bool) → elim b [ true ↦ encoding_symbols s.cut block | false ↦ closed_in s block ] ≤ 255
        go true = omega (arith, n, range.most_n)
        go false = omega (arith, k, range.most_b)

-- so does a closed source symbol
pub source_names_fit : (p : Settings) → CutRange p → (l : ℕ) (info : Bool) (block symbol : ℕ) → 0 < l → l ≤ p.octets
    → nat_lt symbol (closed_in (record { cut = cut_of l p.e p.b p.max_n; closed = symbols_in l p.e; info = info }) block) ≡ true
    → AreNames block symbol
source_names_fit p range l info block symbol some most e =
    let s : Shape = record { cut = cut_of l p.e p.b p.max_n; closed = symbols_in l p.e; info = info } in
    let lt : symbol < closed_in s block = (Decides-ltb symbol (closed_in s block)).0 e in
    let even = blocks_are_even_law l p.e p.b p.max_n (is_sound p range l some most) block in
    (block_fits p range l info block some most (omega (arith, lt)), omega (arith, lt, even.1, range.most_b))

-- the last block of an object has a source symbol, and all of them are closed
pub ends_closed : (p : Settings) → CutRange p → (l : ℕ) (info : Bool) → 0 < l → l ≤ p.octets
    → let s : Shape = record { cut = cut_of l p.e p.b p.max_n; closed = symbols_in l p.e; info = info } in 0 < closed_in s (closed_blocks s - 1)
ends_closed p range l info some most =
    let t : ℕ = symbols_in l p.e in
    let n : ℕ = blocks_in t p.b in
    let has = some_symbols l p.e some (omega (arith, range.least_e)) in
    let n_some = some_blocks t p.b has (omega (arith, range.least_b)) in
    let even = (blocks_are_even_law l p.e p.b p.max_n (is_sound p range l some most) (n - 1)).0 in
    let step = before_step t n (n - 1) in
    let whole = all_before t n n_some in
    let last : symbols_before t n (n - 1 + 1) ≡ symbols_before t n n = ap (symbols_before t n) (let z : n - 1 + 1 ≡ n = omega (arith, n_some) in z) in
    omega (arith, even, step, whole, last)
