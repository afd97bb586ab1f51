-- An encoded symbol of an object stays one, with its octets, as the object goes on.
use Rattle.std.proofs.Common.{◌≡◌, ℕ, zero, suc, ◌+◌, ◌-◌, ◌*◌, ◌<◌, ◌≤◌, List, [], ◌∷◌, ◌++◌, length, map, Bool, true, false, Option, None, Some, refl, sym, ap, ◌∙◌, subst, arith}
use Rattle.std.specs.Prelude.{slice_get, min, nat_lt, ◌==◌}
use Rattle.std.specs.List.{range_with_len}
use Rattle.std.proofs.lemmas.Bool.{eqb-true, ltb-false}
use Rattle.std.proofs.lemmas.Bool.Decides.{Decides-ltb, Decides-eqb}
use Rattle.std.proofs.lemmas.List.{length-append}
use Rattle.std.proofs.Math.Nat.{mul-div_cancel_left}
use Rattle.norm_base.specs.Settings.{Settings}
use Rattle.gf_field.specs.Symbol.{encoded_symbol}
use Rattle.fec_plan.specs.Partition.{stream_cut, encoding_symbols}
use Rattle.norm_order.specs.Entries.{Part, Object, Whole, Stream}
use Rattle.norm_order.specs.Segments.{Segment, closed_from, segments, has_end}
use Rattle.norm_order.specs.Shapes.{shape_of, closed_in, encoded_in}
use Rattle.norm_order.specs.Symbols.{segment_octets, segment_at, symbol_octets}
use Rattle.norm_order.proofs.StreamLemmas.{placed_begin, length-placed}
use Rattle.norm_send_rules.proofs.CutNames.{CutRange}
use Rattle.norm_safety.proofs.EntryLemmas.{clash}
use Rattle.norm_safety.proofs.GoesOn.{ObjectLater, closed_later}

-- a block of a stream has max_n encoding symbols
pub stream_encoding : (p : Settings) → CutRange p → (block : ℕ) → encoding_symbols (stream_cut p.e p.b p.max_n) block ≡ p.max_n
stream_encoding p range block = mul-div_cancel_left p.max_n (let some = range.least_b in omega (arith, some))

-- What is encoded of a block of a stream: a closed segment; or each symbol of a block that is closed.
pub record Encoded (p : Settings) (parts : List Part) (block symbol : ℕ) : Type 0 where
  pub source : symbol < p.b → block * p.b + symbol < length (closed_from p.e [] parts)
  pub full : p.b ≤ symbol → block * p.b + p.b ≤ length (closed_from p.e [] parts)
  pub below : symbol < p.max_n

pub is_encoded_of : (p : Settings) → CutRange p → (parts : List Part) (block symbol : ℕ)
    → nat_lt symbol (encoded_in (shape_of p (Stream parts)) block) ≡ true → Encoded p parts block symbol
is_encoded_of p range parts block symbol e = go (closed_in (shape_of p (Stream parts)) block == p.b) refl ((Decides-ltb symbol _).0 e)
  where
    go : (b : Bool) → (closed_in (shape_of p (Stream parts)) block == p.b) ≡ b
        → symbol < elim b [ true ↦ encoding_symbols (stream_cut p.e p.b p.max_n) block | false ↦ closed_in (shape_of p (Stream parts)) block ]
        → Encoded p parts block symbol
    go true is lt =
        let all : min p.b (length (closed_from p.e [] parts) - (block * p.b + 0)) ≡ p.b = eqb-true _ p.b is in
        let count = stream_encoding p range block in
        let some = range.least_b in
        record {
          source = λ less. omega (arith, all, less);
          full = λ le. omega (arith, all, some);
          below = omega (arith, lt, count);
        }
    go false is lt =
        let most = range.max_n in
        record {
          source = λ less. omega (arith, lt);
          full = λ le. absurd (omega (arith, lt, le));
          below = omega (arith, lt, most);
        }

pub encoded_of : (p : Settings) → CutRange p → (parts : List Part) (block symbol : ℕ) → Encoded p parts block symbol
    → nat_lt symbol (encoded_in (shape_of p (Stream parts)) block) ≡ true
encoded_of p range parts block symbol h =
    (Decides-ltb symbol _).1 (go (closed_in (shape_of p (Stream parts)) block == p.b) refl)
  where
    not_full : (closed_in (shape_of p (Stream parts)) block == p.b) ≡ false
        → min p.b (length (closed_from p.e [] parts) - (block * p.b + 0)) ≡ p.b → ⊥
    not_full e all = absurd (clash (sym e ∙ (Decides-eqb (closed_in (shape_of p (Stream parts)) block) p.b).1 all))

    by_place : Bool → symbol < p.b → symbol < closed_in (shape_of p (Stream parts)) block
    by_place b less = let at = h.source less in omega (arith, at, less)

    first : (b : Bool) → nat_lt symbol p.b ≡ b → (closed_in (shape_of p (Stream parts)) block == p.b) ≡ false
        → symbol < closed_in (shape_of p (Stream parts)) block
    first true e none = by_place true ((Decides-ltb symbol p.b).0 e)
    first false e none =
        let le = ltb-false symbol p.b e in
        let all = h.full le in
        absurd (not_full none (let z : min p.b (length (closed_from p.e [] parts) - (block * p.b + 0)) ≡ p.b = omega (arith, all) in z))

    go : (b : Bool) → (closed_in (shape_of p (Stream parts)) block == p.b) ≡ b
        → symbol < elim b [ true ↦ encoding_symbols (stream_cut p.e p.b p.max_n) block | false ↦ closed_in (shape_of p (Stream parts)) block ]
    go true is = let count = stream_encoding p range block in let lt = h.below in omega (arith, count, lt)
    go false is = first (nat_lt symbol p.b) refl is

-- ---- segments that stay

found_begin : {X : Type 0} (xs rest : List X) (i : ℕ) → i < length xs → slice_get (xs ++ rest) i ≡ slice_get xs i
found_begin [] rest i lt = absurd (omega arith)
found_begin (x ∷ xs) rest zero lt = refl
found_begin (x ∷ xs) rest (suc i) lt = found_begin xs rest i (omega arith)

pub segment_stays : (e : ℕ) (parts more : List Part) (i : ℕ) → 0 < e → (has_end parts ≡ true → more ≡ []) → i < length (closed_from e [] parts)
    → segment_at (segments e (parts ++ more)) i ≡ segment_at (segments e parts) i
segment_stays e parts more i some none lt =
    let front = placed_begin 0 (closed_from e [] parts) (closed_from e [] (parts ++ more)) (closed_later e parts more some none) in
    let long = length-placed 0 (closed_from e [] parts) in
    ap (λ (all : List Segment). segment_at all i) front.1
    ∙ ap found_octets (found_begin (segments e parts) front.0 i (omega (arith, long, lt)))
  where
    found_octets : Option Segment → List ℕ
    found_octets found = elim found [ Some s ↦ segment_octets s | None ↦ [] ]

same_over : (f g : ℕ → List ℕ) (from n : ℕ) → ((j : ℕ) → j < from + n → f j ≡ g j) → map f (range_with_len from n) ≡ map g (range_with_len from n)
same_over f g from zero h = refl
same_over f g from (suc n) h =
    ap (λ (x : List ℕ). x ∷ map f (range_with_len (from + 1) n)) (h from (omega arith))
    ∙ ap (λ (xs : List (List ℕ)). g from ∷ xs) (same_over f g (from + 1) n (λ j lt. h j (omega (arith, lt))))

symbol_stays : (p : Settings) → CutRange p → (parts more : List Part) (block symbol : ℕ) → (has_end parts ≡ true → more ≡ []) → Encoded p parts block symbol
    → symbol_octets p (Stream (parts ++ more)) block symbol ≡ symbol_octets p (Stream parts) block symbol
symbol_stays p range parts more block symbol none h = go (nat_lt symbol p.b) refl
  where
    some : 0 < p.e
    some = let least = range.least_e in omega (arith, least)

    source : (q : List Part) → ℕ → List ℕ
    source q j = segment_at (segments p.e q) (block * p.b + j)

    go : (b : Bool) → nat_lt symbol p.b ≡ b
        → ◌≡◌ {A = List ℕ} (elim b [ true ↦ source (parts ++ more) symbol | false ↦ encoded_symbol (p.e + 8) (map (source (parts ++ more)) (range_with_len 0 p.b)) symbol ])
        (elim b [ true ↦ source parts symbol | false ↦ encoded_symbol (p.e + 8) (map (source parts) (range_with_len 0 p.b)) symbol ])
    go true e = segment_stays p.e parts more (block * p.b + symbol) some none (h.source ((Decides-ltb symbol p.b).0 e))
    go false e =
        let all = h.full (ltb-false symbol p.b e) in
        ap (λ (xs : List (List ℕ)). encoded_symbol (p.e + 8) xs symbol)
        (same_over (source (parts ++ more)) (source parts) 0 p.b (λ j lt. segment_stays p.e parts more (block * p.b + j) some none (omega (arith, all, lt))))

pub symbol_later : (p : Settings) → CutRange p → (o later : Object) (block symbol : ℕ) → ObjectLater o later
    → nat_lt symbol (encoded_in (shape_of p o) block) ≡ true
    → (nat_lt symbol (encoded_in (shape_of p later) block) ≡ true) × (symbol_octets p later block symbol ≡ symbol_octets p o block symbol)
symbol_later p range (Whole kind info octets) later block symbol is e =
    let E : Object → Type 0 = λ o. nat_lt symbol (encoded_in (shape_of p o) block) ≡ true in
    (subst E (sym is) e, ap (λ (o : Object). symbol_octets p o block symbol) is)
symbol_later p range (Stream parts) later block symbol (more, is, none) e =
    let E : Object → Type 0 = λ o. nat_lt symbol (encoded_in (shape_of p o) block) ≡ true in
    let h = is_encoded_of p range parts block symbol e in
    let grows = closed_later p.e parts more (let least = range.least_e in let z : 0 < p.e = omega (arith, least) in z) none in
    let longer : length (closed_from p.e [] parts) ≤ length (closed_from p.e [] (parts ++ more)) =
    (let sum = length-append (closed_from p.e [] parts) grows.0 in let n = ap (λ (xs : List (List ℕ)). length xs) grows.1 in omega (arith, sum, n)) in
    let now : Encoded p (parts ++ more) block symbol = record {
      source = λ lt. (let at = h.source lt in omega (arith, at, longer));
      full = λ le. (let at = h.full le in omega (arith, at, longer));
      below = h.below;
    } in (
      subst E (sym is) (encoded_of p range (parts ++ more) block symbol now),
      ap (λ (o : Object). symbol_octets p o block symbol) is ∙ symbol_stays p range parts more block symbol none h,
    )
