-- Objects that lie in a ring one behind the other: another one behind them is clear of all.
use Rattle.std.proofs.Common.{◌≡◌, ℕ, zero, suc, ◌+◌, ◌-◌, ◌*◌, ◌/◌, ◌%◌, ◌<◌, ◌≤◌, ◌⊎◌, inl, inr, refl, sym, ap, subst, arith, Some, List, [], ◌∷◌, ◌++◌, length, map, drop}
use Rattle.std.specs.Prelude.{slice_get, sum, min}
use Rattle.std.proofs.lemmas.Bool.{cases_lt}
use Rattle.std.proofs.lemmas.List.Sums.{sum_by-cons}
use Rattle.std.proofs.lemmas.Nat.{div-add-mod'}
use Rattle.std.proofs.lemmas.Grind.{div_ceil_times}
use Rattle.std.proofs.Math.Nat.{mul-le-mul_right}
use Rattle.norm_base.specs.Settings.{Settings}
use Rattle.fec_plan.specs.Partition.{Cut, cut_of, all_symbols}
use Rattle.tx_object.specs.Held.{HeldObject, octets_of}
use Rattle.tx_object.specs.Round.{IsAround, IsClear}
use Rattle.tx_window.specs.Rows.{all_octets, LieInRow, IsRow}
use Rattle.tx_object.specs.Placed.{taken_by}

-- the octets of the ring that objects take
abbrev pub all_taken : List HeldObject → ℕ
all_taken hs = sum (map taken_by hs)

pub taken_cons : (h : HeldObject) (hs : List HeldObject) → all_taken (h ∷ hs) ≡ taken_by h + all_taken hs
taken_cons h hs = sum_by-cons (λ x. x) (taken_by h) (map taken_by hs)

pub octets_cons : (h : HeldObject) (hs : List HeldObject) → all_octets (h ∷ hs) ≡ octets_of h.cut + all_octets hs
octets_cons h hs = sum_by-cons (λ x. x) (octets_of h.cut) (map (λ (k : HeldObject). octets_of k.cut) hs)

pub taken_append : (hs ks : List HeldObject) → all_taken (hs ++ ks) ≡ all_taken hs + all_taken ks
taken_append [] ks = omega arith
taken_append (h ∷ hs) ks = omega (arith, taken_cons h (hs ++ ks), taken_cons h hs, taken_append hs ks)

pub octets_append : (hs ks : List HeldObject) → all_octets (hs ++ ks) ≡ all_octets hs + all_octets ks
octets_append [] ks = omega arith
octets_append (h ∷ hs) ks = omega (arith, octets_cons h (hs ++ ks), octets_cons h hs, octets_append hs ks)

-- an object is cut by the profile
abbrev pub IsCutBy : Settings → HeldObject → Type 0
IsCutBy p h = h.cut ≡ cut_of (octets_of h.cut) p.e p.b p.max_n

abbrev pub AreCutBy : Settings → List HeldObject → Type 0
AreCutBy p hs = (i : ℕ) (h : HeldObject) → slice_get hs i ≡ Some h → IsCutBy p h

-- so many whole symbols, which are fewer than one more for each object than its octets
pub record Symbols (p : Settings) (hs : List HeldObject) : Type 0 where
  pub count : ℕ
  pub are : all_taken hs ≡ count * p.e
  pub most : count * p.e ≤ all_octets hs + length hs * p.e

pub symbols_taken : (p : Settings) (h : HeldObject) → 0 < p.e → IsCutBy p h
    → (taken_by h ≡ all_symbols h.cut * p.e) × ((octets_of h.cut ≤ taken_by h) × (taken_by h < octets_of h.cut + p.e))
symbols_taken p h some cut =
    let e-is : h.cut.e ≡ p.e = ap (λ (c : Cut). c.e) cut in
    let whole : taken_by h ≡ all_symbols h.cut * p.e = ap (λ n. all_symbols h.cut * n) e-is in
    let count : all_symbols h.cut * p.e ≡ (octets_of h.cut / p.e + min 1 (octets_of h.cut % p.e)) * p.e = ap (λ (c : Cut). all_symbols c * p.e) cut in
    let bounds = div_ceil_times (octets_of h.cut) p.e some in
    (whole, (omega (arith, whole, count, bounds), omega (arith, whole, count, bounds)))

pub symbols_of_all : (p : Settings) (hs : List HeldObject) → 0 < p.e → AreCutBy p hs → Symbols p hs
symbols_of_all p [] some cut = record { count = 0; are = omega arith; most = omega arith }
symbols_of_all p (h ∷ hs) some cut =
    let rest : Symbols p hs = symbols_of_all p hs some (λ i k e. cut (suc i) k e) in
    let one = symbols_taken p h some (cut 0 h refl) in
    let both : (all_symbols h.cut + rest.count) * p.e ≡ all_symbols h.cut * p.e + rest.count * p.e = omega arith in
    let more : length (h ∷ hs) * p.e ≡ p.e + length hs * p.e = omega arith in
    record {
      count = all_symbols h.cut + rest.count;
      are = omega (arith, taken_cons h hs, one, rest.are, both);
      most = omega (arith, octets_cons h hs, one, rest.most, both, more);
    }

-- Objects of so many octets, and no more than the window has, fit into a ring of floor(octets / e) + window symbols.
pub all_fit : (p : Settings) (hs : List HeldObject) → 0 < p.e → AreCutBy p hs → length hs ≤ p.window → all_octets hs ≤ p.octets
    → all_taken hs ≤ (p.octets / p.e + p.window) * p.e
all_fit p hs some cut few fit =
    let symbols = symbols_of_all p hs some cut in
    let objects : length hs * p.e ≤ p.window * p.e = mul-le-mul_right p.e few in
    let floor = div-add-mod' p.octets p.e in
    let room : (p.octets / p.e + p.window + 1) * p.e ≡ p.octets / p.e * p.e + p.window * p.e + p.e = omega arith in
    let count : symbols.count ≤ p.octets / p.e + p.window = below symbols.count (p.octets / p.e + p.window) p.e (omega (arith, symbols.most, objects, floor, room)) in
    let whole : symbols.count * p.e ≤ (p.octets / p.e + p.window) * p.e = mul-le-mul_right p.e count in
    omega (arith, symbols.are, whole)
  where
    below : (a b n : ℕ) → a * n < (b + 1) * n → a ≤ b
    below a b n lt = go (cases_lt b a)
      where
        go : (b < a) ⊎ (a ≤ b) → a ≤ b
        go (inr le) = le
        go (inl more) = absurd (let step : b + 1 ≤ a = omega arith in let least : (b + 1) * n ≤ a * n = mul-le-mul_right n step in omega arith)

-- going on from a place that was gone round to
pub around_on : (size counted at more next : ℕ) → counted + more < size + size → IsAround size counted at → IsAround size (at + more) next
    → IsAround size (counted + more) next
around_on size counted at more next less (lt, inl same) (within, side) = (within, elim side [ inl e ↦ inl (omega arith) | inr e ↦ inr (omega arith) ])
around_on size counted at more next less (lt, inr once) (within, inl e) = (within, inr (omega arith))
around_on size counted at more next less (lt, inr once) (within, inr e) = absurd (omega arith)

pub row_more : (size counted : ℕ) (hs : List HeldObject) (h : HeldObject) (free next : ℕ) → counted + all_taken hs + taken_by h < size + size
    → h.start ≡ free → LieInRow size counted hs free → IsAround size (free + taken_by h) next → LieInRow size counted (hs ++ h ∷ []) next
unfolding LieInRow
row_more size counted [] h free next less at row after =
    (subst (IsAround size counted) (sym at) row, around_on size counted free (taken_by h) next (omega arith) row after)
row_more size counted (k ∷ hs) h free next less at row after =
    (row.0, row_more size (counted + taken_by k) hs h free next (omega (arith, taken_cons k hs)) at row.1 after)

-- a row is the same where the counting went round once more
around_less : (size counted at : ℕ) → IsAround size (counted + size) at → IsAround size counted at
around_less size counted at (lt, inl e) = absurd (omega arith)
around_less size counted at (lt, inr e) = (lt, inl (omega arith))

row_less : (size counted : ℕ) (hs : List HeldObject) (next : ℕ) → LieInRow size (counted + size) hs next → LieInRow size counted hs next
unfolding LieInRow
row_less size counted [] next row = around_less size counted next row
row_less size counted (h ∷ hs) next row = (
  around_less size counted h.start row.0,
  row_less size (counted + taken_by h) hs next (subst (λ n. LieInRow size n hs next) (let e : counted + size + taken_by h ≡ counted + taken_by h + size = omega arith in e) row.1),
)

-- a row from some octet of the ring on
pub record RowFrom (size : ℕ) (hs : List HeldObject) (next : ℕ) : Type 0 where
  pub head : ℕ
  pub head_within : head < size
  pub in_row : LieInRow size head hs next

row_one_less : (size : ℕ) (h : HeldObject) (hs : List HeldObject) (next : ℕ) → taken_by h ≤ size → RowFrom size (h ∷ hs) next → RowFrom size hs next
unfolding LieInRow
row_one_less size h hs next le row = go (cases_lt (row.head + taken_by h) size)
  where
    go : (row.head + taken_by h < size) ⊎ (size ≤ row.head + taken_by h) → RowFrom size hs next
    go (inl before) = record { head = row.head + taken_by h; head_within = before; in_row = row.in_row.1 }
    go (inr past) = record {
      head = row.head + taken_by h - size;
      head_within = omega (arith, row.head_within);
      in_row = row_less size (row.head + taken_by h - size) hs next
          (subst (λ n. LieInRow size n hs next) (let e : row.head + taken_by h ≡ row.head + taken_by h - size + size = omega arith in e) row.in_row.1);
    }

pub row_dropped : (size n : ℕ) (hs : List HeldObject) (next : ℕ) → all_taken hs ≤ size → RowFrom size hs next → RowFrom size (drop n hs) next
row_dropped size zero hs next le row = row
row_dropped size (suc n) [] next le row = row
row_dropped size (suc n) (h ∷ hs) next le row =
    row_dropped size n hs next (omega (arith, taken_cons h hs)) (row_one_less size h hs next (omega (arith, taken_cons h hs)) row)

-- the place of the last one is where the others end
pub row_last : (size counted : ℕ) (hs : List HeldObject) (h : HeldObject) (next : ℕ) → LieInRow size counted (hs ++ h ∷ []) next → LieInRow size counted hs h.start
unfolding LieInRow
row_last size counted [] h next row = row.0
row_last size counted (k ∷ hs) h next row = (row.0, row_last size (counted + taken_by k) hs h next row.1)

-- octets counted from `first` on, behind others that are counted from `before` on, within one round from `head` on
pub clear_behind : (size head before len first n start other : ℕ) → head ≤ before → before + len ≤ first → first + n ≤ head + size → head < size
    → IsAround size before other → IsAround size first start → IsClear size start n other len
clear_behind size head before len first n start other a b c d (lt, inl e) (less, inl f) = record { within = lt; apart = inr (omega arith, omega arith) }
clear_behind size head before len first n start other a b c d (lt, inl e) (less, inr f) = record { within = lt; apart = inl (omega arith, omega arith) }
clear_behind size head before len first n start other a b c d (lt, inr e) (less, inl f) = absurd (omega arith)
clear_behind size head before len first n start other a b c d (lt, inr e) (less, inr f) = record { within = lt; apart = inr (omega arith, omega arith) }

-- the place of the last one, counted from the first
pub last_at : (size counted : ℕ) (hs : List HeldObject) (h : HeldObject) (next : ℕ) → LieInRow size counted (hs ++ h ∷ []) next → IsAround size (counted + all_taken hs) h.start
unfolding LieInRow
last_at size counted [] h next row = subst (λ n. IsAround size n h.start) (let e : counted ≡ counted + 0 = omega arith in e) row.0
last_at size counted (k ∷ hs) h next row =
    subst (λ n. IsAround size n h.start) (let e : counted + taken_by k + all_taken hs ≡ counted + all_taken (k ∷ hs) = omega (arith, taken_cons k hs) in e)
    (last_at size (counted + taken_by k) hs h next row.1)

-- Octets of the last object of a row are clear of each object before it.
pub row_clear : (size head counted : ℕ) (hs : List HeldObject) (h : HeldObject) (next k n start : ℕ) → head ≤ counted → head < size
    → counted + all_taken hs + taken_by h ≤ head + size → LieInRow size counted (hs ++ h ∷ []) next → k + n ≤ taken_by h → IsAround size (h.start + k) start
    → (i : ℕ) (other : HeldObject) → slice_get hs i ≡ Some other → IsClear size start n other.start (taken_by other)
unfolding LieInRow
row_clear size head counted [] h next k n start le lt fits row within at i other e = absurd (cc)
row_clear size head counted (g ∷ hs) h next k n start le lt fits row within at zero other e =
    subst (λ (o : HeldObject). IsClear size start n o.start (taken_by o)) (let same : g ≡ other = cc in same)
    (clear_behind size head counted (taken_by g) (counted + all_taken (g ∷ hs) + k) n start g.start le (omega (arith, taken_cons g hs)) (omega arith) lt row.0
    (around_on size (counted + all_taken (g ∷ hs)) h.start k start (omega (arith, taken_cons g hs)) (last_at size counted (g ∷ hs) h next row) at))
row_clear size head counted (g ∷ hs) h next k n start le lt fits row within at (suc i) other e =
    row_clear size head (counted + taken_by g) hs h next k n start (omega arith) lt (omega (arith, taken_cons g hs)) row.1 within at i other e

pub row_empty : (ring : List ℕ) (p : Settings) (hs : List HeldObject) → hs ≡ [] → 0 < length ring → IsRow ring p hs 0
unfolding LieInRow
row_empty ring p hs none some = subst (λ (ks : List HeldObject). IsRow ring p ks 0) (sym none) (record {
  head = 0;
  head_within = some;
  in_row = (some, inl refl);
  next_whole = omega arith;
  few = omega arith;
  fit = omega arith;
})
