-- What a round that counts a block asks for: of a block of which a member lacks a symbol, a symbol that it lacks.
use Rattle.std.proofs.Common.{◌≡◌, ℕ, zero, suc, ◌+◌, ◌-◌, ◌<◌, ◌≤◌, List, [], ◌∷◌, length, map, filter, take, cond, Bool, true, false, Option, None, Some, refl, sym, ap, ◌∙◌, subst, arith, ◌⊎◌, inl, inr, flat_map}
use Rattle.std.specs.Prelude.{◌==◌, ◌&&◌, ◌||◌, not, fold, min, max, nat_lt, nat_le, slice_get}
use Rattle.std.specs.List.{range_with_len}
use Rattle.std.proofs.lemmas.Bool.Decides.{Decides-eqb, Decides-ltb, leb_tells}
use Rattle.norm_base.specs.Settings.{Settings}
use Rattle.fec_plan.specs.Partition.{source_symbols, encoding_symbols, symbol_number}
use Rattle.fec_plan.specs.Points.{Point, point_of, position, position_before, same_point}
use Rattle.fec_plan.specs.declared.position.Position.{Position}
use Rattle.norm_ext.specs.Asking.{Count}
use Rattle.norm_order.specs.Sets.{is_member}
use Rattle.norm_order.specs.Shapes.{Shape, symbols_of, closed_in, encoded_in, is_full, is_encoded}
use Rattle.norm_receive_rules.specs.Holding.{Holding}
use Rattle.norm_receive_rules.specs.Plans.{holds}
use Rattle.norm_receive_rules.specs.ReceiverState.{ReceiverState}
use Rattle.norm_send_rules.specs.Asking.{wants_of, counts_of}
use Rattle.norm_send_rules.specs.Closing.{greatest, block_wants, fresh_parity, repairs, counted, asked_in}
use Rattle.norm_send_rules.specs.InWindow.{current_shapes}
use Rattle.norm_send_rules.specs.SenderState.{SenderState, Asked}
use Rattle.norm_send_rules.specs.declared.want.Want.{Want}
use Rattle.norm_send_rules.specs.declared.want.Want.TheVariants.{Symbol}
use Rattle.norm_send_rules.proofs.ShapeLemmas.{HasParity, closed_is_encoded}
use Rattle.norm_safety.specs.World.{World}
use Rattle.norm_safety.proofs.EntryLemmas.{clash}
use Rattle.norm_recovery.specs.Left.{held_for, is_there, is_complete}
use Rattle.norm_recovery.proofs.ClosingHad.{Missing, missing_of, is_missing, Lack}
use Rattle.norm_recovery.proofs.ClosingLists.{In, in_right, in_map, in_flat, of_map, of_kept, in_range, of_range, many_pass, some_fails}
use Rattle.norm_recovery.proofs.RunsOutWindow.{some_closed}

-- ---- the greatest count

fold_grows : (counts : List Count) (n : ℕ) → n ≤ fold (λ most c. max most c.lacking) n counts
fold_grows [] n = omega arith
fold_grows (c ∷ counts) n = let more = fold_grows counts (max n c.lacking) in omega (arith, more)

-- a count that is there is no greater
greatest_from : (counts : List Count) (at : Point) (c : Count) (n : ℕ) → In c counts → same_point c.of at ≡ true
    → c.lacking ≤ fold (λ most c. max most c.lacking) n (filter (λ (x : Count). same_point x.of at) counts)
greatest_from [] at c n h e = absurd h
greatest_from (x ∷ counts) at c n h e = go (same_point x.of at) refl h (λ there m. greatest_from counts at c m there e)
  where
    rest : List Count
    rest = filter (λ (y : Count). same_point y.of at) counts

    go : (b : Bool) → same_point x.of at ≡ b → (c ≡ x) ⊎ In c counts → (In c counts → (m : ℕ) → c.lacking ≤ fold (λ most c. max most c.lacking) m rest)
        → c.lacking ≤ fold (λ most c. max most c.lacking) n (cond b (x ∷ rest) rest)
    go true is (inl same) more =
        let most = fold_grows rest (max n x.lacking) in
        let e : c.lacking ≡ x.lacking = ap (λ (y : Count). y.lacking) same in
        omega (arith, most, e)
    go false is (inl same) more = absurd (clash (sym is ∙ ap (λ (y : Count). same_point y.of at) (sym same) ∙ e))
    go true is (inr there) more = more there (max n x.lacking)
    go false is (inr there) more = more there n

points_same : (a b : Point) → same_point a b ≡ true → a ≡ b
points_same a b e = ap (λ (n : ℕ). record { index = n; block = a.block }) ((Decides-eqb a.index b.index).0 parts.0)
    ∙ ap (λ (n : ℕ). record { index = b.index; block = n }) ((Decides-eqb a.block b.block).0 parts.1)
  where
    both : (x y : Bool) → (x && y) ≡ true → (x ≡ true) × (y ≡ true)
    both true y f = (refl, f)
    both false y f = absurd (clash f)

    parts : ((a.index == b.index) ≡ true) × ((a.block == b.block) ≡ true)
    parts = both (a.index == b.index) (a.block == b.block) e

-- ---- a block of which a member lacks a symbol

-- the block's shape, and the symbol among its encoded ones
pub record IsIn (shapes : List Shape) (at : Position) (shape : Shape) : Type 0 where
  pub found : slice_get shapes at.index ≡ Some shape
  pub encoded : at.symbol < encoded_in shape at.block

pub shape_there : (shapes : List Shape) (at : Position) → is_encoded shapes at ≡ true → (shape : Shape) × IsIn shapes at shape
shape_there shapes at e = go (slice_get shapes at.index) refl e
  where
    go : (found : Option Shape) → slice_get shapes at.index ≡ found
        → (elim found as (λ _. Bool) [ Some s ↦ nat_lt at.symbol (encoded_in s at.block) | None ↦ false ]) ≡ true → (shape : Shape) × IsIn shapes at shape
    go None is f = absurd (clash f)
    go (Some shape) is f = (shape, record { found = is; encoded = (Decides-ltb at.symbol (encoded_in shape at.block)).0 f })

encoded_there : (shapes : List Shape) (at : Position) (shape : Shape) (symbol : ℕ) → slice_get shapes at.index ≡ Some shape → symbol < encoded_in shape at.block
    → is_encoded shapes (position at.index at.block symbol) ≡ true
encoded_there shapes at shape symbol found lt =
    ap (λ (o : Option Shape). elim o as (λ _. Bool) [ Some s ↦ nat_lt symbol (encoded_in s at.block) | None ↦ false ]) found
    ∙ (Decides-ltb symbol (encoded_in shape at.block)).1 lt

-- Of the block of a symbol that a member lacks: another symbol that it lacks, among those that these wants ask for.
pub record Sought (p : Settings) (w : World) (at : Position) (wants : List Want) : Type 0 where
  pub symbol : ℕ
  pub encoded : is_encoded (current_shapes p w.sender) (position at.index at.block symbol) ≡ true
  pub asked : In (Symbol (position at.index at.block symbol)) wants
  pub lacked : Lack p w (Symbol (position at.index at.block symbol))

-- what the member does not hold of the block it lacks
lack_more : (p : Settings) (w : World) (at : Position) (l : Lack p w (Symbol at)) (symbol : ℕ)
    → holds (held_for w.sender l.r) (position at.index at.block symbol) ≡ false → Lack p w (Symbol (position at.index at.block symbol))
lack_more p w at l symbol held =
    let m : Missing p w.sender (held_for w.sender l.r) at = missing_of p w.sender (held_for w.sender l.r) at l.lacks in
    record {
      r = l.r;
      there = l.there;
      member = l.member;
      lacks = is_missing p w.sender (held_for w.sender l.r) (position at.index at.block symbol)
          (record { over = m.over; held = held; complete = m.complete });
    }

module _ (p : Settings) (w : World) (at : Position) (shape : Shape) (parity : HasParity shape.cut)
    (is : IsIn (current_shapes p w.sender) at shape) (l : Lack p w (Symbol at)) where
  abbrev s : SenderState
  s = w.sender

  abbrev h : Holding
  h = held_for w.sender l.r

  abbrev block : Point
  block = point_of at

  abbrev here : ℕ → Position
  here symbol = position at.index at.block symbol

  abbrev k : ℕ
  k = source_symbols shape.cut at.block

  -- ---- all closed source symbols

  -- a symbol with a low id is among the first ones of the block
  among : (symbol n : ℕ) → symbol < n → In (Symbol (here symbol)) (map Symbol (symbols_of at.index n at.block))
  among symbol n lt =
      in_map Symbol (here symbol) (symbols_of at.index n at.block)
      (in_map (λ (i : ℕ). here i) symbol (range_with_len 0 n) (in_range symbol 0 n (omega arith) (omega (arith, lt))))

  by_sources : Sought p w at (block_wants block shape)
  by_sources = go (is_full shape at.block) refl
    where
      -- it is not complete, so it does not hold all source symbols
      full : closed_in shape at.block ≡ k
          → ((i : ℕ) × (0 ≤ i) × (i < 0 + k) × (is_there [] h (here i) ≡ false)) ⊎ ((i : ℕ) → 0 ≤ i → i < 0 + k → is_there [] h (here i) ≡ true)
          → Sought p w at (block_wants block shape)
      full same (inl (symbol, least, most, fails)) =
          let low : symbol < closed_in shape at.block = omega (arith, most, same) in
          let le = closed_is_encoded shape at.block parity in
          record {
            symbol = symbol;
            encoded = encoded_there (current_shapes p w.sender) at shape symbol is.found (omega (arith, low, le));
            asked = among symbol (closed_in shape at.block) low;
            lacked = lack_more p w at l symbol (first (holds h (here symbol)) _ fails);
          }
        where
          first : (a b : Bool) → (a || b) ≡ false → a ≡ false
          first true b e = absurd (clash (sym e))
          first false b e = refl
      full same (inr all) =
          let le = closed_is_encoded shape at.block parity in
          let many = many_pass here (is_there [] h) k (encoded_in shape at.block) 0 (omega (arith, le, same)) all in
          let m : Missing p s h at = missing_of p s h at l.lacks in
          absurd (clash (sym m.complete ∙ ap (is_complete [] h at.index at.block) is.found
          ∙ is_le k (length (filter (is_there [] h) (symbols_of at.index (encoded_in shape at.block) at.block))) many))
        where
          is_le : (a b : ℕ) → a ≤ b → nat_le a b ≡ true
          is_le a b le = by (leb_tells a b)
            where
              by : ((nat_le a b ≡ true) × (a ≤ b)) ⊎ ((nat_le a b ≡ false) × (b < a)) → nat_le a b ≡ true
              by (inl both) = both.0
              by (inr both) = absurd (let gt = both.1 in omega (arith, gt, le))

      go : (b : Bool) → is_full shape at.block ≡ b → Sought p w at (block_wants block shape)
      go true e = full ((Decides-eqb (closed_in shape at.block) k).0 e) (some_fails (λ (i : ℕ). is_there [] h (here i)) k 0)
      go false e =
          let all : encoded_in shape at.block ≡ closed_in shape at.block =
          ap (λ (b : Bool). elim b as (λ _. ℕ) [ true ↦ encoding_symbols shape.cut at.block | false ↦ closed_in shape at.block ]) e in
          let lt = is.encoded in
          record {
            symbol = at.symbol;
            encoded = encoded_there (current_shapes p w.sender) at shape at.symbol is.found lt;
            asked = among at.symbol (closed_in shape at.block) (omega (arith, lt, all));
            lacked = l;
          }

  -- ---- fresh parity

  -- no receiver holds what was never sent
  abbrev NobodyHolds : Type 0
  NobodyHolds = (x : Position) → is_member position_before x s.sent ≡ false → (r : ReceiverState) → In r w.receivers → holds (held_for s r) x ≡ false

  by_fresh : NobodyHolds → (count : ℕ) → 0 < count → count ≤ length (fresh_parity s block shape) → Sought p w at (map Symbol (take count (fresh_parity s block shape)))
  by_fresh none zero some le = absurd (omega (arith, some))
  by_fresh none (suc n) some le = go (fresh_parity s block shape) refl le
    where
      test : Position → Bool
      test x = nat_le (source_symbols shape.cut block.block) x.symbol && not (is_member position_before x s.sent)

      unsent : (a b : Bool) → (a && not b) ≡ true → b ≡ false
      unsent true true e = absurd (clash e)
      unsent true false e = refl
      unsent false b e = absurd (clash e)

      go : (fresh : List Position) → fresh_parity s block shape ≡ fresh → suc n ≤ length fresh → Sought p w at (map Symbol (take (suc n) fresh))
      go [] e few = absurd (omega (arith, few))
      go (x ∷ fresh) e few =
          let F : List Position → Type 0 = λ xs. In x xs in
          let kept = of_kept test x (symbols_of at.index (encoded_in shape at.block) at.block) (subst F (sym e) (inl refl)) in
          let own = of_map (λ (i : ℕ). here i) x (range_with_len 0 (encoded_in shape at.block)) kept.0 in
          let lt = (of_range own.0 0 (encoded_in shape at.block) own.1).1 in
          let H : Position → Type 0 = λ y. holds h y ≡ false in
          record {
            symbol = own.0;
            encoded = encoded_there (current_shapes p w.sender) at shape own.0 is.found (omega (arith, lt));
            asked = inl (ap Symbol (sym own.2));
            lacked = lack_more p w at l own.0 (subst H own.2
                (none x (unsent (nat_le (source_symbols shape.cut block.block) x.symbol) (is_member position_before x s.sent) kept.1) l.r l.there));
          }

  by_count : NobodyHolds → (count : ℕ) → 0 < count → Sought p w at (repairs s block shape count)
  by_count none count some = go (leb_tells count (length (fresh_parity s block shape)))
    where
      wants : Bool → List Want
      wants b = elim b as (λ _. List Want) [ true ↦ map Symbol (take count (fresh_parity s block shape)) | false ↦ block_wants block shape ]

      A : Bool → Type 0
      A b = Sought p w at (wants b)

      go : ((nat_le count (length (fresh_parity s block shape)) ≡ true) × (count ≤ length (fresh_parity s block shape)))
          ⊎ ((nat_le count (length (fresh_parity s block shape)) ≡ false) × (length (fresh_parity s block shape) < count))
          → A (nat_le count (length (fresh_parity s block shape)))
      go (inl enough) = subst A (sym enough.0) (by_fresh none count some enough.1)
      go (inr few) = subst A (sym few.0) by_sources

  -- ---- what a round asks for that counts the block by more than 0

  pub in_round : NobodyHolds → (asked : List Asked) (a : Asked) (c : Count) → In a asked → In c (counts_of (current_shapes p s) a) → same_point c.of block ≡ true
      → 0 < c.lacking → Sought p w at (asked_in p s asked)
  in_round none asked a c there counts same some =
      let found : Sought p w at (repairs s block shape count) = by_count none count (omega (arith, greatest_some, sources_some)) in
      record { symbol = found.symbol; encoded = found.encoded; asked = asks (Symbol (here found.symbol)) found.asked; lacked = found.lacked }
    where
      shapes : List Shape
      shapes = current_shapes p s

      all : List Count
      all = flat_map (counts_of shapes) asked

      count : ℕ
      count = min (greatest all block) k

      one : In c all
      one = in_flat (counts_of shapes) a c asked there counts

      greatest_some : 0 < greatest all block
      greatest_some = let le = greatest_from all block c 0 one same in omega (arith, le, some)

      sources_some : 0 < k
      sources_some =
          let lt = is.encoded in
          let closed = some_closed shape at.block (omega (arith, lt)) in
          low k (shape.closed - symbol_number shape.cut at.block 0) closed
        where
          low : (a b : ℕ) → 0 < min a b → 0 < a
          low a b lt = omega (arith, lt)

      asks : (z : Want) → In z (repairs s block shape count) → In z (asked_in p s asked)
      asks z h =
          let C : Option Shape → Type 0 = λ o. In z (elim o as (λ _. List Want) [
            | Some x ↦ repairs s block x (min (greatest all block) (source_symbols x.cut block.block))
            | None ↦ []
          ]) in
          let P : Point → Type 0 = λ x. In z (counted s shapes all x) in
          in_right z (flat_map (wants_of shapes) asked) (flat_map (λ (x : Count). counted s shapes all x.of) all)
          (in_flat (λ (x : Count). counted s shapes all x.of) c z all one (subst P (sym (points_same c.of block same)) (subst C (sym is.found) h)))
