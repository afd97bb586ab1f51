-- What is sent for a block that lacks symbols makes it whole.
use Rattle.std.proofs.Common.{◌≡◌, ℕ, zero, suc, cond, ◌+◌, ◌<◌, ◌≤◌, ◌⊎◌, inl, inr, List, [], ◌∷◌, ◌++◌, length, map, Bool, true, false, refl, sym, ap, subst, ◌∙◌, arith}
use Rattle.std.specs.Prelude.{filter, take, not, nat_le, ◌&&◌}
use Rattle.std.specs.List.{AllByRecursion, range_with_len}
use Rattle.std.proofs.lemmas.Bool.Decides.{Decides-eqb, leb_tells}
use Rattle.std.proofs.lemmas.List.{length-append, length-map}
use Rattle.fec_plan.specs.Partition.{source_symbols}
use Rattle.fec_plan.specs.Points.{Point, position, position_before}
use Rattle.fec_plan.specs.declared.position.Position.{Position}
use Rattle.norm_order.specs.Sets.{is_member}
use Rattle.norm_order.specs.Shapes.{Shape, closed_in, is_full, encoded_in, symbols_of}
use Rattle.norm_send_rules.specs.Closing.{block_wants, fresh_parity}
use Rattle.norm_send_rules.specs.RepairLaws.{AllDiffer, wants_of_ids, WasSent, AreDifferent, MakesWhole, RepairLaws}
use Rattle.norm_send_rules.specs.SenderState.{SenderState}
use Rattle.norm_send_rules.specs.declared.want.Want.{Want}
use Rattle.norm_send_rules.specs.declared.want.Want.TheVariants.{Symbol}

clash : false ≡ true → ⊥
clash e = cc

both_true : (a b : Bool) → (a && b) ≡ true → (a ≡ true) × (b ≡ true)
both_true true b e = (refl, e)
both_true false b e = absurd (clash e)

not_true : (b : Bool) → not b ≡ true → b ≡ false
not_true true e = absurd (clash e)
not_true false e = refl

le_of : (a b : ℕ) → nat_le a b ≡ true → a ≤ b
le_of a b e = go (leb_tells a b)
  where
    go : ((nat_le a b ≡ true) × (a ≤ b)) ⊎ ((nat_le a b ≡ false) × (b < a)) → a ≤ b
    go (inl so) = so.1
    go (inr not_so) = absurd (clash (sym not_so.0 ∙ e))

-- ---- what a test keeps

all_kept : {X : Type 0} (P : X → Type 0) (q : X → Bool) → ((x : X) → q x ≡ true → P x) → (xs : List X) → AllByRecursion P (filter q xs)
all_kept P q passes [] = tt
all_kept P q passes (x ∷ xs) = go (q x) refl (all_kept P q passes xs)
  where
    go : (b : Bool) → q x ≡ b → AllByRecursion P (filter q xs) → AllByRecursion P (cond b (x ∷ filter q xs) (filter q xs))
    go true e rest = (passes x e, rest)
    go false e rest = rest

all_taken : {X : Type 0} (P : X → Type 0) (n : ℕ) (xs : List X) → AllByRecursion P xs → AllByRecursion P (take n xs)
all_taken P zero xs h = tt
all_taken P (suc n) [] h = tt
all_taken P (suc n) (x ∷ xs) h = (h.0, all_taken P n xs h.1)

-- numbers of a range that pass a test rise, and so differ
above : (q : ℕ → Bool) (from n low : ℕ) → low ≤ from → AllByRecursion (λ m. low ≤ m) (filter q (range_with_len from n))
above q from zero low le = tt
above q from (suc n) low le = go (q from) (above q (from + 1) n low (omega arith))
  where
    rest : List ℕ
    rest = filter q (range_with_len (from + 1) n)

    go : (b : Bool) → AllByRecursion (λ m. low ≤ m) rest → AllByRecursion (λ m. low ≤ m) (cond b (from ∷ rest) rest)
    go true h = (le, h)
    go false h = h

apart : (a low : ℕ) → a < low → (xs : List ℕ) → AllByRecursion (λ m. low ≤ m) xs → AllByRecursion (λ m. a ≡ m → ⊥) xs
apart a low lt [] h = tt
apart a low lt (x ∷ xs) h = (λ same. absurd (let le = h.0 in omega arith), apart a low lt xs h.1)

range_differs : (q : ℕ → Bool) (from n : ℕ) → AllDiffer (filter q (range_with_len from n))
range_differs q from zero = tt
range_differs q from (suc n) = go (q from) (range_differs q (from + 1) n)
  where
    rest : List ℕ
    rest = filter q (range_with_len (from + 1) n)

    go : (b : Bool) → AllDiffer rest → AllDiffer (cond b (from ∷ rest) rest)
    go true h = (apart from (from + 1) (omega arith) rest (above q (from + 1) n (from + 1) (omega arith)), h)
    go false h = h

taken_differs : (n : ℕ) (xs : List ℕ) → AllDiffer xs → AllDiffer (take n xs)
taken_differs zero xs h = tt
taken_differs (suc n) [] h = tt
taken_differs (suc n) (x ∷ xs) h = (all_taken (λ m. x ≡ m → ⊥) n xs h.0, taken_differs n xs h.1)

all_both : {X : Type 0} (P : X → Type 0) (xs ys : List X) → AllByRecursion P xs → AllByRecursion P ys → AllByRecursion P (xs ++ ys)
all_both P [] ys h k = k
all_both P (x ∷ xs) ys h k = (h.0, all_both P xs ys h.1 k)

-- what was sent differs from what was not
sent_apart : (s : SenderState) (at : Point) (id : ℕ) → WasSent s at id → (ids : List ℕ)
    → AllByRecursion (λ m. is_member position_before (position at.index at.block m) s.sent ≡ false) ids → AllByRecursion (λ m. id ≡ m → ⊥) ids
sent_apart s at id was [] h = tt
sent_apart s at id was (m ∷ ids) h = (
  λ same. clash (sym h.0 ∙ ap (λ n. is_member position_before (position at.index at.block n) s.sent) (sym same) ∙ was),
  sent_apart s at id was ids h.1,
)

joined_differ : (s : SenderState) (at : Point) (held ids : List ℕ) → AllDiffer held → AllByRecursion (WasSent s at) held → AllDiffer ids
    → AllByRecursion (λ m. is_member position_before (position at.index at.block m) s.sent ≡ false) ids → AllDiffer (held ++ ids)
joined_differ s at [] ids differ sent others fresh = others
joined_differ s at (x ∷ held) ids differ sent others fresh = (
  all_both (λ m. x ≡ m → ⊥) held ids differ.0 (sent_apart s at x sent.0 ids fresh),
  joined_differ s at held ids differ.1 sent.1 others fresh,
)

-- ---- fresh parity by its ids

module _ (s : SenderState) (at : Point) (shape : Shape) where
  abbrev place : ℕ → Position
  place id = position at.index at.block id

  abbrev is_fresh : Position → Bool
  is_fresh x = nat_le (source_symbols shape.cut at.block) x.symbol && not (is_member position_before x s.sent)

  abbrev fresh_ids : List ℕ
  fresh_ids = filter (λ id. is_fresh (place id)) (range_with_len 0 (encoded_in shape at.block))

  placed : (xs : List ℕ) → filter is_fresh (map place xs) ≡ map place (filter (λ id. is_fresh (place id)) xs)
  placed [] = refl
  placed (x ∷ xs) = go (is_fresh (place x)) (placed xs)
    where
      go : (b : Bool) → filter is_fresh (map place xs) ≡ map place (filter (λ id. is_fresh (place id)) xs)
          → cond b (place x ∷ filter is_fresh (map place xs)) (filter is_fresh (map place xs))
          ≡ map place (cond b (x ∷ filter (λ id. is_fresh (place id)) xs) (filter (λ id. is_fresh (place id)) xs))
      go true e = ap (λ (l : List Position). place x ∷ l) e
      go false e = e

  fresh_is : fresh_parity s at shape ≡ map place fresh_ids
  fresh_is = placed (range_with_len 0 (encoded_in shape at.block))

  taken_wants : (n : ℕ) (xs : List ℕ) → map Symbol (take n (map place xs)) ≡ wants_of_ids at (take n xs)
  taken_wants zero xs = refl
  taken_wants (suc n) [] = refl
  taken_wants (suc n) (x ∷ xs) = ap (λ (l : List Want). Symbol (place x) ∷ l) (taken_wants n xs)

  all_wants : (xs : List ℕ) → map Symbol (map place xs) ≡ wants_of_ids at xs
  all_wants [] = refl
  all_wants (x ∷ xs) = ap (λ (l : List Want). Symbol (place x) ∷ l) (all_wants xs)

  never_sent : AllByRecursion (λ (x : Position). is_member position_before x s.sent ≡ false) (fresh_parity s at shape)
  never_sent = all_kept (λ (x : Position). is_member position_before x s.sent ≡ false) is_fresh
      (λ x e. not_true _ (both_true (nat_le (source_symbols shape.cut at.block) x.symbol) (not (is_member position_before x s.sent)) e).1)
      (symbols_of at.index (encoded_in shape at.block) at.block)

  parity : AllByRecursion (λ (x : Position). source_symbols shape.cut at.block ≤ x.symbol) (fresh_parity s at shape)
  parity = all_kept (λ (x : Position). source_symbols shape.cut at.block ≤ x.symbol) is_fresh
      (λ x e. le_of (source_symbols shape.cut at.block) x.symbol
      (both_true (nat_le (source_symbols shape.cut at.block) x.symbol) (not (is_member position_before x s.sent)) e).0)
      (symbols_of at.index (encoded_in shape at.block) at.block)

  taken_length : (n : ℕ) (xs : List ℕ) → n ≤ length xs → length (take n xs) ≡ n
  taken_length zero xs le = refl
  taken_length (suc n) [] le = absurd (omega arith)
  taken_length (suc n) (x ∷ xs) le = ap suc (taken_length n xs (omega arith))

  kept_all : (xs : List ℕ) → filter (λ (n : ℕ). true) xs ≡ xs
  kept_all [] = refl
  kept_all (x ∷ xs) = ap (λ (l : List ℕ). x ∷ l) (kept_all xs)

  range_length : (from n : ℕ) → length (range_with_len from n) ≡ n
  range_length from zero = refl
  range_length from (suc n) = ap suc (range_length (from + 1) n)

  whole : (count : ℕ) (held : List ℕ) → is_full shape at.block ≡ true → AllDiffer held → AllByRecursion (WasSent s at) held
      → source_symbols shape.cut at.block ≤ length held + count → MakesWhole s at shape count held
  whole count held full differ sent enough = go (nat_le count (length fresh)) (leb_tells count (length fresh)) refl
    where
      fresh : List Position
      fresh = fresh_parity s at shape

      k : ℕ
      k = source_symbols shape.cut at.block

      chosen : Bool → List Want
      chosen b = elim b [ true ↦ map Symbol (take count fresh) | false ↦ block_wants at shape ]

      many : length fresh ≡ length fresh_ids
      many = ap (λ (l : List Position). length l) fresh_is ∙ length-map fresh_ids place

      closed : closed_in shape at.block ≡ k
      closed = (Decides-eqb (closed_in shape at.block) k).0 full

      unsent : AllByRecursion (λ m. is_member position_before (place m) s.sent ≡ false) fresh_ids
      unsent = all_kept (λ m. is_member position_before (place m) s.sent ≡ false) (λ id. is_fresh (place id))
          (λ id e. not_true _ (both_true (nat_le k id) (not (is_member position_before (place id) s.sent)) e).1)
          (range_with_len 0 (encoded_in shape at.block))

      sources : AreDifferent k (range_with_len 0 k)
      sources = (
        subst (λ (l : List ℕ). AllDiffer l) (kept_all (range_with_len 0 k)) (range_differs (λ n. true) 0 k),
        let long = range_length 0 k in omega arith,
      )

      go : (b : Bool) → ((b ≡ true) × (count ≤ length fresh)) ⊎ ((b ≡ false) × (length fresh < count)) → nat_le count (length fresh) ≡ b
          → MakesWhole s at shape count held
      go true (inl tells) is = record {
        ids = take count fresh_ids;
        are = ap chosen is ∙ ap (λ (l : List Position). map Symbol (take count l)) fresh_is ∙ taken_wants count fresh_ids;
        enough = inl (
          joined_differ s at held (take count fresh_ids) differ sent
              (taken_differs count fresh_ids (range_differs (λ id. is_fresh (place id)) 0 (encoded_in shape at.block)))
              (all_taken (λ m. is_member position_before (place m) s.sent ≡ false) count fresh_ids unsent),
          (let le = tells.1 in let long = taken_length count fresh_ids (omega (arith, many)) in
              let sum = length-append held (take count fresh_ids) in omega (arith, sum, long, enough)),
        );
      }
      go true (inr tells) is = absurd (clash (sym tells.0))
      go false (inl tells) is = absurd (clash tells.0)
      go false (inr tells) is = record {
        ids = range_with_len 0 k;
        are = ap chosen is ∙ ap (λ n. map Symbol (symbols_of at.index n at.block)) closed ∙ all_wants (range_with_len 0 k);
        enough = inr sources;
      }

pub repair_laws : RepairLaws
repair_laws = record { never_sent = never_sent; parity = parity; whole = whole }
