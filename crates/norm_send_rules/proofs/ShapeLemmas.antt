-- Orders that grow keep their symbols and infos.
use Rattle.std.proofs.Common.{◌≡◌, ℕ, zero, suc, ◌-◌, ◌*◌, ◌<◌, ◌≤◌, List, [], ◌∷◌, ◌++◌, Bool, true, false, refl, sym, subst, ◌∙◌, arith}
use Rattle.std.specs.Prelude.{min, nat_lt, ◌==◌, ⊤}
use Rattle.std.proofs.lemmas.Bool.Decides.{Decides-ltb, Decides-eqb}
use Rattle.std.proofs.lemmas.Nat.{le-div}
use Rattle.std.proofs.Math.Nat.{mul-le-mul_left}
use Rattle.norm_base.specs.Settings.{Settings, InRange}
use Rattle.fec_plan.specs.Partition.{Cut, source_symbols, encoding_symbols, symbol_number}
use Rattle.fec_plan.specs.declared.position.Position.{Position}
use Rattle.norm_order.specs.Entries.{Part, Object, Whole, Stream, Entry}
use Rattle.norm_order.specs.Segments.{has_end}
use Rattle.norm_order.specs.Shapes.{Shape, shape_of, shapes_of, at_index, closed_in, encoded_in, is_source, is_encoded, has_info}
use Rattle.norm_order.proofs.StreamLemmas.{closed_grow}

-- what a profile's blocks need: as many encoding symbols as source symbols
pub record Blocks (p : Settings) : Type 0 where
  pub e_pos : 0 < p.e
  pub b_pos : 0 < p.b
  pub most : p.b ≤ p.max_n

pub blocks_of : (p : Settings) → InRange p → Blocks p
blocks_of p range = record { e_pos = omega (arith, range.e.0); b_pos = omega (arith, range.b.0); most = range.longest }

-- each block of a cut has as many encoding symbols as source symbols
abbrev pub HasParity : Cut → Type 0
HasParity c = (block : ℕ) → source_symbols c block ≤ encoding_symbols c block

has_parity : (c : Cut) → 0 < c.b → c.b ≤ c.max_n → HasParity c
has_parity c b_pos most block =
    le-div (source_symbols c block) (source_symbols c block * c.max_n) c.b b_pos (mul-le-mul_left (source_symbols c block) most)

pub shape_parity : (p : Settings) → Blocks p → (object : Object) → HasParity (shape_of p object).cut
shape_parity p blocks (Whole kind info octets) = has_parity (shape_of p (Whole kind info octets)).cut blocks.b_pos blocks.most
shape_parity p blocks (Stream parts) = has_parity (shape_of p (Stream parts)).cut blocks.b_pos blocks.most

-- one shape has all that another has
pub record HasAll (less more : Shape) : Type 0 where
  pub cut : less.cut ≡ more.cut
  pub closed : less.closed ≤ more.closed
  pub info : less.info ≡ more.info
  pub parity : HasParity more.cut

-- one list of shapes has all that another has
abbrev pub HaveAll : List Shape → List Shape → Type 0
HaveAll [] more = ⊤
HaveAll (x ∷ less) [] = ⊥
HaveAll (x ∷ less) (y ∷ more) = HasAll x y × HaveAll less more

-- how many are encoded where so many of k source symbols are closed and there are n encoding symbols
abbrev encoded_of : ℕ → ℕ → ℕ → ℕ
encoded_of closed k n = elim (closed == k) [ true ↦ n | false ↦ closed ]

encoded_by : (b c : Bool) (closed more k n : ℕ) → (closed == k) ≡ b → (more == k) ≡ c → closed ≤ more → more ≤ k → k ≤ n
    → elim b [ true ↦ n | false ↦ closed ] ≤ elim c [ true ↦ n | false ↦ more ]
encoded_by true true closed more k n e f le within most = omega arith
encoded_by true false closed more k n e f le within most =
    let is : closed ≡ k = (Decides-eqb closed k).0 e in
    let same : more ≡ k = omega arith in absurd (clash (sym f ∙ (Decides-eqb more k).1 same))
  where
    clash : false ≡ true → ⊥
    clash h = cc
encoded_by false true closed more k n e f le within most = omega arith
encoded_by false false closed more k n e f le within most = le

encoded_more : (closed more k n : ℕ) → closed ≤ more → more ≤ k → k ≤ n → encoded_of closed k n ≤ encoded_of more k n
encoded_more closed more k n le within most = encoded_by (closed == k) (more == k) closed more k n refl refl le within most

closed_in_cut : (c : Cut) (less more block : ℕ) → less ≤ more
    → min (source_symbols c block) (less - symbol_number c block 0) ≤ min (source_symbols c block) (more - symbol_number c block 0)
closed_in_cut c less more block le = min_more (source_symbols c block) less more (symbol_number c block 0) le
  where
    min_more : (k a b n : ℕ) → a ≤ b → min k (a - n) ≤ min k (b - n)
    min_more k a b n h = omega arith

at_most : (k a : ℕ) → min k a ≤ k
at_most k a = omega arith

encoded_grow : (c : Cut) (less more block : ℕ) → HasParity c → less ≤ more
    → encoded_of (min (source_symbols c block) (less - symbol_number c block 0)) (source_symbols c block) (encoding_symbols c block)
    ≤ encoded_of (min (source_symbols c block) (more - symbol_number c block 0)) (source_symbols c block) (encoding_symbols c block)
encoded_grow c less more block parity le =
    encoded_more (min (source_symbols c block) (less - symbol_number c block 0)) (min (source_symbols c block) (more - symbol_number c block 0))
    (source_symbols c block) (encoding_symbols c block) (closed_in_cut c less more block le)
    (at_most (source_symbols c block) (more - symbol_number c block 0)) (parity block)

pub encoded_in_more : (less more : Shape) (block : ℕ) → HasAll less more → encoded_in less block ≤ encoded_in more block
encoded_in_more less more block h =
    subst (λ (c : Cut). encoded_in (record less { cut = c }) block ≤ encoded_in more block) (sym h.cut)
    (encoded_grow more.cut less.closed more.closed block h.parity h.closed)

pub closed_is_encoded : (s : Shape) (block : ℕ) → HasParity s.cut → closed_in s block ≤ encoded_in s block
closed_is_encoded s block parity =
    go (closed_in s block == source_symbols s.cut block) refl (at_most (source_symbols s.cut block) (s.closed - symbol_number s.cut block 0)) (parity block)
  where
    go : (b : Bool) → (closed_in s block == source_symbols s.cut block) ≡ b → closed_in s block ≤ source_symbols s.cut block
        → source_symbols s.cut block ≤ encoding_symbols s.cut block
        → closed_in s block ≤ elim b [ true ↦ encoding_symbols s.cut block | false ↦ closed_in s block ]
    go true e within most = omega arith
    go false e within most = omega arith

lt_more : (x a b : ℕ) → a ≤ b → nat_lt x a ≡ true → nat_lt x b ≡ true
lt_more x a b le e = let lt : x < a = (Decides-ltb x a).0 e in (Decides-ltb x b).1 (omega arith)

clash : false ≡ true → ⊥
clash h = cc

pub index_more : (less more : List Shape) (i : ℕ) (test : Shape → Bool) → HaveAll less more
    → ((x y : Shape) → HasAll x y → test x ≡ true → test y ≡ true)
    → at_index less i false test ≡ true → at_index more i false test ≡ true
index_more [] more i test all kept e = absurd (clash e)
index_more (x ∷ less) [] i test all kept e = absurd all
index_more (x ∷ less) (y ∷ more) zero test all kept e = kept x y all.0 e
index_more (x ∷ less) (y ∷ more) (suc i) test all kept e = index_more less more i test all.1 kept e

pub encoded_still : (less more : List Shape) (at : Position) → HaveAll less more → is_encoded less at ≡ true → is_encoded more at ≡ true
encoded_still less more at all e = index_more less more at.index (λ s. nat_lt at.symbol (encoded_in s at.block)) all
    (λ x y h k. lt_more at.symbol (encoded_in x at.block) (encoded_in y at.block) (encoded_in_more x y at.block h) k) e

closed_in_more : (less more : Shape) (block : ℕ) → HasAll less more → closed_in less block ≤ closed_in more block
closed_in_more less more block h =
    subst (λ (c : Cut). closed_in (record less { cut = c }) block ≤ closed_in more block) (sym h.cut) (closed_in_cut more.cut less.closed more.closed block h.closed)

pub source_still : (less more : List Shape) (at : Position) → HaveAll less more → is_source less at ≡ true → is_source more at ≡ true
source_still less more at all e = index_more less more at.index (λ s. nat_lt at.symbol (closed_in s at.block)) all
    (λ x y h k. lt_more at.symbol (closed_in x at.block) (closed_in y at.block) (closed_in_more x y at.block h) k) e

pub info_still : (less more : List Shape) (i : ℕ) → HaveAll less more → has_info less i ≡ true → has_info more i ≡ true
info_still less more i all e = index_more less more i (λ s. s.info) all (λ x y h k. sym h.info ∙ k) e

-- each shape of a list may have parity
abbrev pub HaveParity : List Shape → Type 0
HaveParity [] = ⊤
HaveParity (s ∷ shapes) = HasParity s.cut × HaveParity shapes

pub shapes_parity : (p : Settings) → Blocks p → (order : List Entry) → HaveParity (shapes_of p order)
shapes_parity p blocks [] = tt
shapes_parity p blocks (entry ∷ order) = (shape_parity p blocks entry.object, shapes_parity p blocks order)

same_shape : (s : Shape) → HasParity s.cut → HasAll s s
same_shape s parity = record { cut = refl; closed = (let h : s.closed ≤ s.closed = omega arith in h); info = refl; parity = parity }

-- an order with more entries
pub have_all_joined : (p : Settings) → Blocks p → (order more : List Entry) → HaveAll (shapes_of p order) (shapes_of p (order ++ more))
have_all_joined p blocks [] more = tt
have_all_joined p blocks (entry ∷ order) more =
    (same_shape (shape_of p entry.object) (shape_parity p blocks entry.object), have_all_joined p blocks order more)

-- an order whose last entry's open stream goes on
pub have_all_longer : (p : Settings) → Blocks p → (order : List Entry) (x y : Entry) (parts more : List Part) → has_end parts ≡ false
    → x.object ≡ Stream parts → y.object ≡ Stream (parts ++ more)
    → HaveAll (shapes_of p (order ++ x ∷ [])) (shapes_of p (order ++ y ∷ []))
have_all_longer p blocks [] x y parts more unended e f = (
  subst (λ (o : Object). HasAll (shape_of p o) (shape_of p y.object)) (sym e)
      (subst (λ (o : Object). HasAll (shape_of p (Stream parts)) (shape_of p o)) (sym f)
      (record { cut = refl; closed = closed_grow p.e parts more blocks.e_pos unended; info = refl; parity = shape_parity p blocks (Stream (parts ++ more)) })),
  tt,
)
have_all_longer p blocks (entry ∷ order) x y parts more unended e f =
    (same_shape (shape_of p entry.object) (shape_parity p blocks entry.object), have_all_longer p blocks order x y parts more unended e f)
