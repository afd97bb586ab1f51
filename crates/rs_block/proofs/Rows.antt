-- Rows of coefficients: how a code keeps them, and the sum of symbols that lie in two pieces.
use Rattle.std.proofs.Common.{◌≡◌, ℕ, ◌+◌, ◌-◌, ◌*◌, ◌/◌, ◌%◌, ◌<◌, ◌≤◌, ◌⊎◌, inl, inr, refl, sym, ap, ◌∙◌, arith, List, ◌++◌, length, length-append, get_or, take, drop, take-append-drop, zero-add}
use Rattle.std.specs.Prelude.{bit_xor}
use Rattle.std.specs.Int.Bits.{xor_zero_l}
use Rattle.std.proofs.Math.ListN.{get_or-append}
use Rattle.std.proofs.Math.Nat.{add-mul, div-add-mod, le_of_mul-le-mul_right, mul-le-mul_right, mul_comm, suc-mul}
use Rattle.std.proofs.lemmas.Bool.{cases_lt}
use Rattle.std.proofs.lemmas.List.{get_or-map, get_or-append_right, length-map, ext_get_or}
use Rattle.std.proofs.lemmas.List.FromFn.{get_or-map-range_with_len}
use Rattle.std.proofs.lemmas.List.Edits.{get_or-between, length-between}
use Rattle.norm_base.specs.Octets.{AreOctets}
use Rattle.gf_field.specs.Power.{power, powers}
use Rattle.gf_field.specs.Interpolation.{coefficient}
use Rattle.gf_field.proofs.Places.{length-powers}
use Rattle.rs_block.specs.Code.{CodeSound}
use Rattle.rs_block.specs.Codeword.{HasSymbolAt}
use Rattle.rs_block.specs.Column.{column}
use Rattle.rs_block.specs.Row.{coefficients, combined}
use Rattle.rs_block.proofs.Formula.{combined-append, interpolated_by_row, length-column, get_or-column}
use Rattle.rs_block.proofs.Words.{symbol_from_formula}

pub power_at : (k i : ℕ) → i < k → get_or (powers k) i 0 ≡ power i
power_at k i h = get_or-map-range_with_len power 0 k i i 0 h (zero-add i)

-- entry i of the row for j
pub entry_at : (k i x : ℕ) → i < k → get_or (coefficients (powers k) x) i 0 ≡ coefficient (powers k) (power i) x
entry_at k i x h =
    get_or-map (λ m. coefficient (powers k) m x) (powers k) i 0 0 (omega (arith, length-powers k))
    ∙ ap (λ m. coefficient (powers k) m x) (power_at k i h)

length-coefficients : (k x : ℕ) → length (coefficients (powers k) x) ≡ k
length-coefficients k x = length-map (powers k) (λ m. coefficient (powers k) m x) ∙ length-powers k

-- the row that is read is the one for j
pub row_read : (k n j start : ℕ) (rows : List ℕ) → CodeSound k n rows → k ≤ j → j < n → start ≡ (j - k) * k → take (start + k - start) (drop start rows) ≡ coefficients (powers k) (power j)
row_read k n j start rows is low lt at =
    let below : j - k < n - k = omega arith in
    let room : (j - k) * k + k ≤ length rows = omega (arith, mul-le-mul_right k below, suc-mul (j - k) k, is.size) in
    let long : length (take (start + k - start) (drop start rows)) ≡ k =
    length-between rows start (start + k) (omega arith) ∙ (let e : start + k - start ≡ k = omega arith in e) in
    ext_get_or 0 (take (start + k - start) (drop start rows)) (coefficients (powers k) (power j)) (long ∙ sym (length-coefficients k (power j)))
    (λ i h.
    let within : i < k = omega arith in
    get_or-between rows start (start + k) i 0 (omega arith)
    ∙ ap (λ s. get_or rows (s + i) 0) at
    ∙ is.entries (j - k) i below within
    ∙ ap (λ m. coefficient (powers k) (power i) (power m)) (let e : k + (j - k) ≡ j = omega arith in e)
    ∙ sym (entry_at k i (power j) within))

-- ---- two pieces

column-append : (a b size : ℕ) (front back : List ℕ) (t : ℕ) → length front ≡ a * size → t < size → column (a + b) size (front ++ back) t ≡ column a size front t ++ column b size back t
column-append a b size front back t long lt =
    ext_get_or 0 (column (a + b) size (front ++ back) t) (column a size front t ++ column b size back t)
    (length-column (a + b) size (front ++ back) t
    ∙ sym (length-append (column a size front t) (column b size back t) ∙ ap (λ n. n + length (column b size back t)) (length-column a size front t) ∙ ap (λ n. a + n) (length-column b size back t)))
    (λ i h. go i (omega (arith, length-column (a + b) size (front ++ back) t)) (cases_lt i a))
  where
    go : (i : ℕ) → i < a + b → (i < a) ⊎ (a ≤ i) → get_or (column (a + b) size (front ++ back) t) i 0 ≡ get_or (column a size front t ++ column b size back t) i 0
    go i h (inl l) =
        get_or-column (a + b) size (front ++ back) t i h
        ∙ get_or-append front back 0 (i * size + t) (omega (arith, mul-le-mul_right size l, suc-mul i size))
        ∙ sym (get_or-append (column a size front t) (column b size back t) 0 i (omega (arith, length-column a size front t))
        ∙ get_or-column a size front t i l)
    go i h (inr g) =
        let at : i * size ≡ a * size + (i - a) * size = ap (λ n. n * size) (let e : i ≡ a + (i - a) = omega arith in e) ∙ add-mul a (i - a) size in
        get_or-column (a + b) size (front ++ back) t i h
        ∙ get_or-append_right front back (a * size) (i * size + t) 0 long (omega arith)
        ∙ ap (λ n. get_or back n 0) (let e : i * size + t - a * size ≡ (i - a) * size + t = omega arith in e)
        ∙ sym (get_or-append_right (column a size front t) (column b size back t) a i 0 (length-column a size front t) g
        ∙ get_or-column b size back t (i - a) (omega arith))

-- where whole symbols are cut off
pub record IsCut (len rest k size cut : ℕ) : Type 0 where
  pub within : cut ≤ k
  pub front : len ≡ cut * size
  pub back : rest ≡ (k - cut) * size

pub whole_cut : (len rest k size : ℕ) → 0 < size → len % size ≡ 0 → len + rest ≡ k * size → IsCut len rest k size (len / size)
whole_cut len rest k size pos whole sum =
    let cut : ℕ = len / size in
    let front : len ≡ cut * size = (let e : len ≡ size * (len / size) = omega (arith, div-add-mod len size) in e) ∙ mul_comm size (len / size) in
    let within : cut ≤ k = le_of_mul-le-mul_right {m = cut} {n = k} {k = size} (omega arith) pos in
    let parts : k * size ≡ cut * size + (k - cut) * size = ap (λ n. n * size) (let e : k ≡ cut + (k - cut) = omega arith in e) ∙ add-mul cut (k - cut) size in
    record { within = within; front = front; back = omega arith }

-- the sum over the front, and the sum over the back added to it, is the symbol of the whole
pub symbol_in_two : (k n size j t cut : ℕ) (front back whole_row row rest first out : List ℕ) (filled width width' : ℕ) → k ≤ n → n ≤ 255 → j < n → t < size
    → AreOctets (front ++ back)
    → IsCut (length front) (length back) k size cut → whole_row ≡ coefficients (powers k) (power j)
    → row ≡ take cut whole_row → rest ≡ drop cut whole_row → length row ≡ cut → length rest ≡ k - cut → filled ≡ 0 → width ≡ size → width' ≡ size
    → get_or first t 0 ≡ bit_xor filled (combined row (column (length row) width front t))
    → get_or out t 0 ≡ bit_xor (get_or first t 0) (combined rest (column (length rest) width' back t))
    → HasSymbolAt k n size (front ++ back) j out t
symbol_in_two k n size j t cut front back whole_row row rest first out filled width width' fits most lt t_lt octets is row_e front_row back_row row_len rest_len zero wide wide' first_e out_e =
    let a : List ℕ = column cut size front t in
    let b : List ℕ = column (k - cut) size back t in
    let first_is : get_or first t 0 ≡ combined row a =
    first_e ∙ ap (λ n. bit_xor filled (combined row (column (length row) n front t))) wide
    ∙ ap (λ n. bit_xor n (combined row (column (length row) size front t))) zero ∙ xor_zero_l (combined row (column (length row) size front t))
    ∙ ap (λ n. combined row (column n size front t)) row_len in
    let whole : row ++ rest ≡ coefficients (powers k) (power j) =
    ap (λ r. r ++ rest) front_row ∙ ap (λ r. take cut whole_row ++ r) back_row ∙ take-append-drop cut whole_row ∙ row_e in
    let columns : column k size (front ++ back) t ≡ a ++ b =
    ap (λ n. column n size (front ++ back) t) (let e : k ≡ cut + (k - cut) = omega (arith, is.within) in e) ∙ column-append cut (k - cut) size front back t is.front t_lt in
    symbol_from_formula k n size j t (front ++ back) out fits most lt octets
    (out_e
    ∙ ap (λ n. bit_xor (get_or first t 0) (combined rest (column (length rest) n back t))) wide'
    ∙ ap (λ n. bit_xor n (combined rest (column (length rest) size back t))) first_is
    ∙ ap (λ n. bit_xor (combined row a) (combined rest (column n size back t))) rest_len
    ∙ sym (combined-append row rest a b (row_len ∙ sym (length-column cut size front t)))
    ∙ ap (λ r. combined r (a ++ b)) whole
    ∙ ap (combined (coefficients (powers k) (power j))) (sym columns)
    ∙ interpolated_by_row (powers k) (column k size (front ++ back) t) (power j))

-- octets of two pieces
pub pieces_octets : (front back : List ℕ) → AreOctets front → AreOctets back → (i : ℕ) → get_or (front ++ back) i 0 < 256
pieces_octets front back f b i = go (cases_lt i (length front))
  where
    go : (i < length front) ⊎ (length front ≤ i) → get_or (front ++ back) i 0 < 256
    go (inl h) = omega (arith, get_or-append front back 0 i h, f i)
    go (inr h) = omega (arith, get_or-append_right front back (length front) i 0 refl h, b (i - length front))
