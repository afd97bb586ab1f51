-- Vectors of octets, lane by lane: tables of products, look-ups in them, and their sums with what stands in a slice.
use Rattle.std.proofs.Common.{◌≡◌, ℕ, zero, suc, ◌+◌, ◌-◌, ◌*◌, ◌/◌, ◌%◌, ◌^◌, ◌<◌, ◌≤◌, ◌⊎◌, inl, inr, refl, true, Bool, sym, ap, subst, ◌∙◌, arith, w8, Fits, List, [], ◌∷◌, ◌++◌, map, length, length-append, get_or, replicate, take, drop, zero-mul, bit_and}
use Rattle.std.specs.Prelude.{bit_xor, ◌==◌}
use Rattle.std.specs.List.{list_all, range_with_len}
use Rattle.std.specs.Int.Bits.{xor_assoc, xor_zero_l, xor_zero_r, and_zero_l, and_zero_r}
use Rattle.std.proofs.Math.Nat.{one-mul, mod-lt, mod-eq_of_lt}
use Rattle.std.proofs.lemmas.Bool.{eqb-true, cases_lt}
use Rattle.std.proofs.lemmas.Nat.{and_comm, and_le_r, and_mask}
use Rattle.std.proofs.Math.ListN.{get_or-append}
use Rattle.std.proofs.lemmas.List.{get_or-map, get_or-take, get_or-drop, get_or_past, get_or-replicate, length-take-le, length-map, length-replicate, ext_get_or}
use Rattle.std.proofs.lemmas.Simd.{Each1-all, Each1-weaker, Each1-get_or, Each1-zip2, Each2-splat, below_from_Fits, length-zip2, get_or-zip2, pick_l_left, swz_l, SwzOk, SwzOk-from_below, length-swz_l, get_or-swz_l_below, length-chunk, get_or-chunk, get_or-put_chunk_below, get_or-put_chunk_at, get_or-put_chunk_above}
use lib.Dec.{T}
use lib.Lanes.{zip2, Each1, chunk, put_chunk, pick_l, all_below}
use Rattle.gf_field.specs.Product.{product, scaled, four_products, shift, shifts, sum_at_bits}
use Rattle.gf_field.specs.Lanes.{HasSums, HasProducts, IsAdded}
use Rattle.gf_field.proofs.Octets.{below_passes, octet_passes, passes_at_octets}
use Rattle.gf_field.proofs.Linear.{product-xor_r}
use Rattle.gf_field.proofs.Products.{product-lt}

-- ---- tables

-- a bit of a lane's number, as a mask
masked_digit : (d v : ℕ) → d < 2 → v < 256 → bit_and (d * 255) v ≡ d * v
masked_digit zero v p q = ap (λ n. bit_and n v) (zero-mul 255) ∙ and_zero_l v ∙ sym (zero-mul v)
masked_digit (suc zero) v p q = and_comm 255 v ∙ and_mask v 8 ∙ mod-eq_of_lt q ∙ sym (one-mul v)
masked_digit (suc (suc d)) v p q = absurd (omega arith)

-- the lanes of the mask are all ones where the digit is 1
abbrev pub is_mask : (ℕ → ℕ) → List ℕ → Bool
is_mask digit m = list_all (λ i. get_or m i 0 == digit i * 255) (range_with_len 0 16)

masked_lane : (digit : ℕ → ℕ) (m : List ℕ) (v i : ℕ) → length m ≡ 16 → is_mask digit m ≡ true → ((j : ℕ) → digit j < 2) → v < 256 → i < 16 → get_or (zip2 bit_and m (replicate 16 v)) i 0 ≡ digit i * v
masked_lane digit m v i long is two low h =
    get_or-zip2 bit_and m (replicate 16 v) i 0 0 0 (omega arith) h
    ∙ ap (bit_and (get_or m i 0)) (get_or-replicate 16 i v 0 h)
    ∙ ap (λ n. bit_and n v) (eqb-true _ _ (below_passes 16 (λ j. get_or m j 0 == digit j * 255) is i h))
    ∙ masked_digit (digit i) v (two i) low

xor_lane : (xs ys : List ℕ) (n i : ℕ) → length xs ≡ n → length ys ≡ n → i < n → get_or (zip2 bit_xor xs ys) i 0 ≡ bit_xor (get_or xs i 0) (get_or ys i 0)
xor_lane xs ys n i p q h = get_or-zip2 bit_xor xs ys i 0 0 0 (omega arith) (omega arith)

abbrev pub masked : List ℕ → ℕ → List ℕ
masked m v = zip2 bit_and m (replicate 16 v)

length-masked : (m : List ℕ) (v : ℕ) → length m ≡ 16 → length (masked m v) ≡ 16
length-masked m v long = length-zip2 bit_and m (replicate 16 v) long ∙ long

pub sums_from_masks : (m1 m2 m4 m8 : List ℕ) (a b c d : ℕ) → length m1 ≡ 16 → length m2 ≡ 16 → length m4 ≡ 16 → length m8 ≡ 16
    → is_mask (λ i. i % 2) m1 ≡ true → is_mask (λ i. i / 2 % 2) m2 ≡ true → is_mask (λ i. i / 2 / 2 % 2) m4 ≡ true → is_mask (λ i. i / 2 / 2 / 2 % 2) m8 ≡ true
    → a < 256 → b < 256 → c < 256 → d < 256
    → HasSums (a ∷ b ∷ c ∷ d ∷ []) (zip2 bit_xor (zip2 bit_xor (masked m1 a) (masked m2 b)) (zip2 bit_xor (masked m4 c) (masked m8 d)))
unfolding sum_at_bits
sums_from_masks m1 m2 m4 m8 a b c d l1 l2 l4 l8 i1 i2 i4 i8 ha hb hc hd =
    let n1 : length (masked m1 a) ≡ 16 = length-masked m1 a l1 in
    let n2 : length (masked m2 b) ≡ 16 = length-masked m2 b l2 in
    let n4 : length (masked m4 c) ≡ 16 = length-masked m4 c l4 in
    let n8 : length (masked m8 d) ≡ 16 = length-masked m8 d l8 in
    let front : length (zip2 bit_xor (masked m1 a) (masked m2 b)) ≡ 16 = length-zip2 bit_xor (masked m1 a) (masked m2 b) (n1 ∙ sym n2) ∙ n1 in
    let back : length (zip2 bit_xor (masked m4 c) (masked m8 d)) ≡ 16 = length-zip2 bit_xor (masked m4 c) (masked m8 d) (n4 ∙ sym n8) ∙ n4 in
    record {
      len = length-zip2 bit_xor (zip2 bit_xor (masked m1 a) (masked m2 b)) (zip2 bit_xor (masked m4 c) (masked m8 d)) (front ∙ sym back) ∙ front;
      sums = λ i h.
          xor_lane (zip2 bit_xor (masked m1 a) (masked m2 b)) (zip2 bit_xor (masked m4 c) (masked m8 d)) 16 i front back h
          ∙ ap (λ n. bit_xor n (get_or (zip2 bit_xor (masked m4 c) (masked m8 d)) i 0)) (xor_lane (masked m1 a) (masked m2 b) 16 i n1 n2 h)
          ∙ ap (bit_xor (bit_xor (get_or (masked m1 a) i 0) (get_or (masked m2 b) i 0))) (xor_lane (masked m4 c) (masked m8 d) 16 i n4 n8 h)
          ∙ ap (λ n. bit_xor (bit_xor n (get_or (masked m2 b) i 0)) (bit_xor (get_or (masked m4 c) i 0) (get_or (masked m8 d) i 0))) (masked_lane (λ j. j % 2) m1 a i l1 i1 (λ j. mod-lt j (omega arith)) ha h)
          ∙ ap (λ n. bit_xor (bit_xor (i % 2 * a) n) (bit_xor (get_or (masked m4 c) i 0) (get_or (masked m8 d) i 0))) (masked_lane (λ j. j / 2 % 2) m2 b i l2 i2 (λ j. mod-lt (j / 2) (omega arith)) hb h)
          ∙ ap (λ n. bit_xor (bit_xor (i % 2 * a) (i / 2 % 2 * b)) (bit_xor n (get_or (masked m8 d) i 0))) (masked_lane (λ j. j / 2 / 2 % 2) m4 c i l4 i4 (λ j. mod-lt (j / 2 / 2) (omega arith)) hc h)
          ∙ ap (λ n. bit_xor (bit_xor (i % 2 * a) (i / 2 % 2 * b)) (bit_xor (i / 2 / 2 % 2 * c) n)) (masked_lane (λ j. j / 2 / 2 / 2 % 2) m8 d i l8 i8 (λ j. mod-lt (j / 2 / 2 / 2) (omega arith)) hd h)
          ∙ xor_assoc (i % 2 * a) (i / 2 % 2 * b) (bit_xor (i / 2 / 2 % 2 * c) (i / 2 / 2 / 2 % 2 * d))
          ∙ ap (λ n. bit_xor (i % 2 * a) (bit_xor (i / 2 % 2 * b) (bit_xor (i / 2 / 2 % 2 * c) n))) (sym (xor_zero_r (i / 2 / 2 / 2 % 2 * d)));
    }

sum_at_bits-zero : (vs : List ℕ) → sum_at_bits vs 0 ≡ 0
unfolding sum_at_bits
sum_at_bits-zero [] = refl
sum_at_bits-zero (v ∷ vs) = ap (λ n. bit_xor n (sum_at_bits vs 0)) (zero-mul v) ∙ ap (bit_xor 0) (sum_at_bits-zero vs) ∙ xor_zero_r 0

-- four doublings, and four more
abbrev pub four_shifts : ℕ → List ℕ
four_shifts a = a ∷ shift a ∷ shift (shift a) ∷ shift (shift (shift a)) ∷ []

low_product : (c i : ℕ) → c < 256 → i < 16 → product c i ≡ sum_at_bits (four_shifts c) i
unfolding product shifts sum_at_bits
low_product c i low h =
    ap (λ n. sum_at_bits (shifts 8 n) i) (mod-eq_of_lt low)
    ∙ ap (λ n. bit_xor (i % 2 * c) (bit_xor (i / 2 % 2 * shift c) (bit_xor (i / 2 / 2 % 2 * shift (shift c)) (bit_xor (i / 2 / 2 / 2 % 2 * shift (shift (shift c))) n))))
    (ap (sum_at_bits (four_shifts (shift (shift (shift (shift c)))))) (let e : i / 2 / 2 / 2 / 2 ≡ 0 = omega arith in e)
    ∙ sum_at_bits-zero (four_shifts (shift (shift (shift (shift c))))))

skip_bit : (v n : ℕ) (vs : List ℕ) → sum_at_bits (v ∷ vs) (2 * n) ≡ sum_at_bits vs n
unfolding sum_at_bits
skip_bit v n vs =
    ap (λ d. bit_xor (d * v) (sum_at_bits vs (2 * n / 2))) (let e : 2 * n % 2 ≡ 0 = omega arith in e)
    ∙ ap (λ m. bit_xor (0 * v) (sum_at_bits vs m)) (let e : 2 * n / 2 ≡ n = omega arith in e)
    ∙ ap (λ m. bit_xor m (sum_at_bits vs n)) (zero-mul v)
    ∙ xor_zero_l (sum_at_bits vs n)

high_product : (c i : ℕ) → c < 256 → product c (16 * i) ≡ sum_at_bits (four_shifts (shift (shift (shift (shift c))))) i
unfolding product shifts
high_product c i low =
    ap (λ n. sum_at_bits (shifts 8 n) (16 * i)) (mod-eq_of_lt low)
    ∙ ap (sum_at_bits (shifts 8 c)) (let e : 16 * i ≡ 2 * (2 * (2 * (2 * i))) = omega arith in e)
    ∙ skip_bit c (2 * (2 * (2 * i))) (shifts 7 (shift c))
    ∙ skip_bit (shift c) (2 * (2 * i)) (shifts 6 (shift (shift c)))
    ∙ skip_bit (shift (shift c)) (2 * i) (shifts 5 (shift (shift (shift c))))
    ∙ skip_bit (shift (shift (shift c))) i (shifts 4 (shift (shift (shift (shift c)))))

pub tables_of : (c : ℕ) (low high : List ℕ) → c < 256 → HasSums (four_shifts c) low → HasSums (four_shifts (shift (shift (shift (shift c))))) high → HasProducts 16 c low high
tables_of c low high small a b = record {
  low_products = λ i h. a.sums i h ∙ sym (low_product c i small h) ∙ ap (product c) (sym (mod-eq_of_lt h));
  high_products = λ i h. b.sums i h ∙ sym (high_product c i small) ∙ ap (λ n. product c (16 * n)) (sym (mod-eq_of_lt h));
}

pub widened : (c : ℕ) (low high low' high' : List ℕ) → ((i : ℕ) → i < 64 → get_or low' i 0 ≡ get_or low (i % 16) 0) → ((i : ℕ) → i < 64 → get_or high' i 0 ≡ get_or high (i % 16) 0)
    → HasProducts 16 c low high → HasProducts 64 c low' high'
widened c low high low' high' a b t = record {
  low_products = λ i h. a i h ∙ t.low_products (i % 16) (mod-lt i (omega arith)) ∙ ap (product c) (let e : i % 16 % 16 ≡ i % 16 = omega arith in e);
  high_products = λ i h. b i h ∙ t.high_products (i % 16) (mod-lt i (omega arith)) ∙ ap (λ n. product c (16 * n)) (let e : i % 16 % 16 ≡ i % 16 = omega arith in e);
}

-- ---- look-ups

abbrev pub AreLanes : ℕ → List ℕ → Type 0
AreLanes n v = (length v ≡ n) × Each1 (Fits w8) v

abbrev pub down : ℕ → ℕ → ℕ
down a b = a / 2 ^ b

pub low_ok : (b : ℕ) (v : List ℕ) → AreLanes (b * 16) v → SwzOk w8 16 (b * 16) 0 (zip2 bit_and v (replicate (b * 16) 15))
low_ok b v fits =
    SwzOk-from_below w8 16 b (b * 16) 0 (zip2 bit_and v (replicate (b * 16) 15)) refl (omega (arith, length-zip2 bit_and v (replicate (b * 16) 15) (fits.0 ∙ sym (length-replicate (b * 16) 15)), fits.0))
    (Each1-zip2 bit_and (λ j. j < 16) v (replicate (b * 16) 15) (Each2-splat (λ x y. bit_and x y < 16) v (b * 16) 15 (Each1-all (λ x. bit_and x 15 < 16) (λ x. omega (arith, and_le_r x 15)) v)))

pub high_ok : (b : ℕ) (v : List ℕ) → AreLanes (b * 16) v → SwzOk w8 16 (b * 16) 0 (zip2 down v (replicate (b * 16) 4))
high_ok b v fits =
    let small = Each1-weaker (λ a. a < 256) (λ a. a / 16 < 16) (λ a h. omega arith) v (below_from_Fits w8 v fits.1) in
    SwzOk-from_below w8 16 b (b * 16) 0 (zip2 down v (replicate (b * 16) 4)) refl (omega (arith, length-zip2 down v (replicate (b * 16) 4) (fits.0 ∙ sym (length-replicate (b * 16) 4)), fits.0))
    (Each1-zip2 down (λ j. j < 16) v (replicate (b * 16) 4) (Each2-splat (λ x y. down x y < 16) v (b * 16) 4 small))

lane_fits : (n : ℕ) (v : List ℕ) (i : ℕ) → AreLanes n v → i < n → get_or v i 0 < 256
lane_fits n v i fits h = Each1-get_or (λ a. a < 256) v i 0 (omega (arith, fits.0)) (below_from_Fits w8 v fits.1)

-- the place that a half of an octet is looked up at
looked_up : (b : ℕ) (t js : List ℕ) (f : ℕ → ℕ) (i j : ℕ) → length js ≡ b * 16 → i < b * 16 → get_or js i 0 ≡ j → j < 16 → ((k : ℕ) → k < b * 16 → get_or t k 0 ≡ f (k % 16)) → get_or (swz_l w8 16 t 0 js) i 0 ≡ f j
looked_up b t js f i j long lt e small table =
    get_or-swz_l_below w8 16 t 0 js i (omega arith) (omega (arith, e))
    ∙ ap (λ k. get_or t k 0) (ap (λ n. 16 * ((0 + i) / 16) + n) e)
    ∙ table (16 * ((0 + i) / 16) + j) (omega arith)
    ∙ ap f (let at : (16 * ((0 + i) / 16) + j) % 16 ≡ j = omega arith in at)

half_rows : passes_at_octets (λ x. bit_xor (x % 16) (16 * (x / 16)) == x) ≡ true
half_rows = refl

-- a product from the products of the two halves of an octet
product_halves : (c x : ℕ) → x < 256 → bit_xor (product c (x % 16)) (product c (16 * (x / 16))) ≡ product c x
product_halves c x h =
    sym (product-xor_r c (x % 16) (16 * (x / 16)))
    ∙ ap (product c) (eqb-true _ _ (octet_passes (λ n. bit_xor (n % 16) (16 * (n / 16)) == n) half_rows x h))

low_place : (n : ℕ) (v : List ℕ) (i : ℕ) → length v ≡ n → i < n → get_or (zip2 bit_and v (replicate n 15)) i 0 ≡ get_or v i 0 % 16
low_place n v i long lt =
    get_or-zip2 bit_and v (replicate n 15) i 0 0 0 (omega arith) (omega (arith, length-replicate {A = ℕ} n 15))
    ∙ ap (bit_and (get_or v i 0)) (get_or-replicate n i 15 0 lt)
    ∙ and_mask (get_or v i 0) 4

high_place : (n : ℕ) (v : List ℕ) (i : ℕ) → length v ≡ n → i < n → get_or (zip2 down v (replicate n 4)) i 0 ≡ get_or v i 0 / 16
high_place n v i long lt =
    get_or-zip2 down v (replicate n 4) i 0 0 0 (omega arith) (omega (arith, length-replicate {A = ℕ} n 4))
    ∙ ap (down (get_or v i 0)) (get_or-replicate n i 4 0 lt)

pub times_lanes : (b c : ℕ) (low high v : List ℕ) → AreLanes (b * 16) v → HasProducts (b * 16) c low high
    → zip2 bit_xor (swz_l w8 16 low 0 (zip2 bit_and v (replicate (b * 16) 15))) (swz_l w8 16 high 0 (zip2 down v (replicate (b * 16) 4))) ≡ map (product c) v
times_lanes b c low high v fits t =
    let n : ℕ = b * 16 in
    let js : List ℕ = zip2 bit_and v (replicate n 15) in
    let ks : List ℕ = zip2 down v (replicate n 4) in
    let js_long : length js ≡ n = length-zip2 bit_and v (replicate n 15) (fits.0 ∙ sym (length-replicate n 15)) ∙ fits.0 in
    let ks_long : length ks ≡ n = length-zip2 down v (replicate n 4) (fits.0 ∙ sym (length-replicate n 4)) ∙ fits.0 in
    let a_long : length (swz_l w8 16 low 0 js) ≡ n = length-swz_l w8 16 low 0 js ∙ js_long in
    let b_long : length (swz_l w8 16 high 0 ks) ≡ n = length-swz_l w8 16 high 0 ks ∙ ks_long in
    let long : length (zip2 bit_xor (swz_l w8 16 low 0 js) (swz_l w8 16 high 0 ks)) ≡ n = length-zip2 bit_xor (swz_l w8 16 low 0 js) (swz_l w8 16 high 0 ks) (a_long ∙ sym b_long) ∙ a_long in
    ext_get_or 0 _ (map (product c) v) (long ∙ sym (length-map v (product c) ∙ fits.0))
    (λ i h.
    let lt : i < n = omega (arith, long) in
    let within : i < length v = omega (arith, fits.0) in
    let x : ℕ = get_or v i 0 in
    let small : x < 256 = lane_fits n v i fits lt in
    let low_at : get_or js i 0 ≡ x % 16 = low_place n v i fits.0 lt in
    let high_at : get_or ks i 0 ≡ x / 16 = high_place n v i fits.0 lt in
    xor_lane (swz_l w8 16 low 0 js) (swz_l w8 16 high 0 ks) n i a_long b_long lt
    ∙ ap (λ p. bit_xor p (get_or (swz_l w8 16 high 0 ks) i 0)) (looked_up b low js (product c) i (x % 16) js_long lt low_at (mod-lt x (omega arith)) t.low_products)
    ∙ ap (bit_xor (product c (x % 16))) (looked_up b high ks (λ j. product c (16 * j)) i (x / 16) ks_long lt high_at (omega arith) t.high_products)
    ∙ product_halves c x small
    ∙ sym (get_or-map (product c) v i 0 0 within))

-- ---- slices

-- n lanes have the summands of the indexes from `at` on
pub record AreSummands (summand : ℕ → ℕ) (n at : ℕ) (lanes : List ℕ) : Type 0 where
  pub len : length lanes ≡ n
  pub each : (i : ℕ) → i < n → get_or lanes i 0 ≡ summand (at + i)

pub scaled_lanes : (n at c : ℕ) (src products : List ℕ) → at + n ≤ length src → products ≡ map (product c) (chunk at n src) → AreSummands (scaled c src) n at products
scaled_lanes n at c src products room is =
    let src_long : length (chunk at n src) ≡ n = length-chunk at n src room in
    record {
      len = ap (λ ps. length ps) is ∙ length-map (chunk at n src) (product c) ∙ src_long;
      each = λ i h. ap (λ ps. get_or ps i 0) is ∙ get_or-map (product c) (chunk at n src) i 0 0 (omega arith) ∙ ap (product c) (get_or-chunk at n src i 0 h);
    }

pub both_lanes : (f g : ℕ → ℕ) (n at : ℕ) (xs ys : List ℕ) → AreSummands f n at xs → AreSummands g n at ys → AreSummands (λ i. bit_xor (f i) (g i)) n at (zip2 bit_xor xs ys)
both_lanes f g n at xs ys a b = record {
  len = length-zip2 bit_xor xs ys (a.len ∙ sym b.len) ∙ a.len;
  each = λ i h. xor_lane xs ys n i a.len b.len h ∙ ap (λ m. bit_xor m (get_or ys i 0)) (a.each i h) ∙ ap (bit_xor (f (at + i))) (b.each i h);
}

-- n sums are stored from `at` on
pub lane_added : (f : ℕ → ℕ) (n at : ℕ) (old summands : List ℕ) → at + n ≤ length old → AreSummands f n at summands
    → IsAdded f at (at + n) old (put_chunk at old (zip2 bit_xor (chunk at n old) summands))
lane_added f n at old summands room are =
    let old_long : length (chunk at n old) ≡ n = length-chunk at n old room in
    let sums : List ℕ = zip2 bit_xor (chunk at n old) summands in
    let long : length sums ≡ n = length-zip2 bit_xor (chunk at n old) summands (old_long ∙ sym are.len) ∙ old_long in
    record {
      before = λ i h. get_or-put_chunk_below at old sums i 0 h;
      sums = λ i p q.
          let e : at + (i - at) ≡ i = omega arith in
          ap (λ k. get_or (put_chunk at old sums) k 0) (sym e)
          ∙ get_or-put_chunk_at at old sums (i - at) 0 (omega arith) (omega arith)
          ∙ xor_lane (chunk at n old) summands n (i - at) old_long are.len (omega arith)
          ∙ ap (λ m. bit_xor m (get_or summands (i - at) 0)) (get_or-chunk at n old (i - at) 0 (omega arith))
          ∙ ap (bit_xor (get_or old (at + (i - at)) 0)) (are.each (i - at) (omega arith))
          ∙ ap (λ k. bit_xor (get_or old k 0) (f k)) e;
      after = λ i h. get_or-put_chunk_above at old sums i 0 (omega arith);
    }

pub added_nothing : (f : ℕ → ℕ) (at : ℕ) (old : List ℕ) → IsAdded f at at old old
added_nothing f at old = record {
  before = λ i h. refl;
  sums = λ i p q. absurd (omega arith);
  after = λ i h. refl;
}

pub added_on : (f : ℕ → ℕ) (from at to : ℕ) (old mid new : List ℕ) → from ≤ at → at ≤ to → IsAdded f from at old mid → IsAdded f at to mid new → IsAdded f from to old new
added_on f from at to old mid new p q a b = record {
  before = λ i h. b.before i (omega arith) ∙ a.before i h;
  sums = λ i l u. go i l u (cases_lt i at);
  after = λ i h. b.after i h ∙ a.after i (omega arith);
}
  where
    go : (i : ℕ) → from ≤ i → i < to → (i < at) ⊎ (at ≤ i) → get_or new i 0 ≡ bit_xor (get_or old i 0) (f i)
    go i l u (inl h) = b.before i h ∙ a.sums i l h
    go i l u (inr h) = b.sums i h u ∙ ap (λ n. bit_xor n (f i)) (a.after i h)

-- two summands at the same indexes, one after the other
pub added_both : (f g : ℕ → ℕ) (from to : ℕ) (old mid new : List ℕ) → IsAdded f from to old mid → IsAdded g from to mid new → IsAdded (λ i. bit_xor (f i) (g i)) from to old new
added_both f g from to old mid new a b = record {
  before = λ i h. b.before i h ∙ a.before i h;
  sums = λ i l u. b.sums i l u ∙ ap (λ n. bit_xor n (g i)) (a.sums i l u) ∙ xor_assoc (get_or old i 0) (f i) (g i);
  after = λ i h. b.after i h ∙ a.after i h;
}

-- four sources, one after the other
pub added_four : (factors a b c d : List ℕ) (from to : ℕ) (old one two three new : List ℕ)
    → IsAdded (scaled (get_or factors 0 0) a) from to old one → IsAdded (scaled (get_or factors 1 0) b) from to one two
    → IsAdded (scaled (get_or factors 2 0) c) from to two three → IsAdded (scaled (get_or factors 3 0) d) from to three new
    → IsAdded (four_products factors a b c d) from to old new
added_four factors a b c d from to old one two three new h1 h2 h3 h4 =
    let f : ℕ → ℕ = scaled (get_or factors 0 0) a in
    let g : ℕ → ℕ = scaled (get_or factors 1 0) b in
    let h : ℕ → ℕ = scaled (get_or factors 2 0) c in
    added_both (λ i. bit_xor (bit_xor (f i) (g i)) (h i)) (scaled (get_or factors 3 0) d) from to old three new
    (added_both (λ i. bit_xor (f i) (g i)) h from to old two three (added_both f g from to old one two h1 h2) h3) h4

-- a lane of four sources at once
pub lane_of_four : (n at : ℕ) (factors a b c d old pa pb pc pd : List ℕ) → at + n ≤ length old
    → length old ≡ length a → length old ≡ length b → length old ≡ length c → length old ≡ length d
    → pa ≡ map (product (get_or factors 0 0)) (chunk at n a) → pb ≡ map (product (get_or factors 1 0)) (chunk at n b)
    → pc ≡ map (product (get_or factors 2 0)) (chunk at n c) → pd ≡ map (product (get_or factors 3 0)) (chunk at n d)
    → IsAdded (four_products factors a b c d) at (at + n) old (put_chunk at old (zip2 bit_xor (chunk at n old) (zip2 bit_xor (zip2 bit_xor (zip2 bit_xor pa pb) pc) pd)))
lane_of_four n at factors a b c d old pa pb pc pd room la lb lc ld ea eb ec ed =
    let f : ℕ → ℕ = scaled (get_or factors 0 0) a in
    let g : ℕ → ℕ = scaled (get_or factors 1 0) b in
    let h : ℕ → ℕ = scaled (get_or factors 2 0) c in
    let k : ℕ → ℕ = scaled (get_or factors 3 0) d in
    lane_added (four_products factors a b c d) n at old (zip2 bit_xor (zip2 bit_xor (zip2 bit_xor pa pb) pc) pd) room
    (both_lanes (λ i. bit_xor (bit_xor (f i) (g i)) (h i)) k n at (zip2 bit_xor (zip2 bit_xor pa pb) pc) pd
    (both_lanes (λ i. bit_xor (f i) (g i)) h n at (zip2 bit_xor pa pb) pc
    (both_lanes f g n at pa pb (scaled_lanes n at (get_or factors 0 0) a pa (omega arith) ea) (scaled_lanes n at (get_or factors 1 0) b pb (omega arith) eb))
    (scaled_lanes n at (get_or factors 2 0) c pc (omega arith) ec))
    (scaled_lanes n at (get_or factors 3 0) d pd (omega arith) ed))

pub tables_from : (c c2 c4 c8 c16 c32 c64 c128 : ℕ) (low high : List ℕ) → c < 256
    → c2 ≡ shift c → c4 ≡ shift c2 → c8 ≡ shift c4 → c16 ≡ shift c8 → c32 ≡ shift c16 → c64 ≡ shift c32 → c128 ≡ shift c64
    → HasSums (c ∷ c2 ∷ c4 ∷ c8 ∷ []) low → HasSums (c16 ∷ c32 ∷ c64 ∷ c128 ∷ []) high → HasProducts 16 c low high
tables_from c c2 c4 c8 c16 c32 c64 c128 low high small e2 e4 e8 e16 e32 e64 e128 a b =
    let front : (c ∷ c2 ∷ c4 ∷ c8 ∷ []) ≡ four_shifts c = cc in
    let back : (c16 ∷ c32 ∷ c64 ∷ c128 ∷ []) ≡ four_shifts (shift (shift (shift (shift c)))) = cc in
    tables_of c low high small (subst (λ vs. HasSums vs low) front a) (subst (λ vs. HasSums vs high) back b)

-- fewer than sixteen octets in a padded lane
pub few_added : (c : ℕ) (old src new products : List ℕ) → length old ≡ length src → length old < 16 → products ≡ map (product c) (src ++ replicate (16 - length src) 0)
    → new ≡ take (length old) (zip2 bit_xor (old ++ replicate (16 - length old) 0) products) → IsAdded (scaled c src) 0 (length old) old new
few_added c old src new products same few is e =
    let n : ℕ = length old in
    let padded : List ℕ = old ++ replicate (16 - n) 0 in
    let long : length padded ≡ 16 = omega (arith, length-append old (replicate (16 - n) 0), length-replicate {A = ℕ} (16 - n) 0) in
    let src_long : length (src ++ replicate (16 - length src) 0) ≡ 16 = omega (arith, length-append src (replicate (16 - length src) 0), length-replicate {A = ℕ} (16 - length src) 0) in
    let products_long : length products ≡ 16 = ap (λ ps. length ps) is ∙ length-map (src ++ replicate (16 - length src) 0) (product c) ∙ src_long in
    let sums_long : length (zip2 bit_xor padded products) ≡ 16 = length-zip2 bit_xor padded products (long ∙ sym products_long) ∙ long in
    record {
      before = λ i h. absurd (omega arith);
      sums = λ i p h.
          ap (λ xs. get_or xs i 0) e
          ∙ get_or-take n (zip2 bit_xor padded products) i 0 h
          ∙ xor_lane padded products 16 i long products_long (omega arith)
          ∙ ap (λ m. bit_xor m (get_or products i 0)) (get_or-append old (replicate (16 - n) 0) 0 i h)
          ∙ ap (bit_xor (get_or old i 0))
          (ap (λ ps. get_or ps i 0) is
          ∙ get_or-map (product c) (src ++ replicate (16 - length src) 0) i 0 0 (omega arith)
          ∙ ap (product c) (get_or-append src (replicate (16 - length src) 0) 0 i (omega arith)));
      after = λ i h.
          get_or_past new i 0 (omega (arith, ap (λ xs. length xs) e, length-take-le n (zip2 bit_xor padded products) (omega arith)))
          ∙ sym (get_or_past old i 0 h);
    }

before_last : (c start : ℕ) (old src mask sums : List ℕ) (i : ℕ) → i < length old → (i < start) ⊎ (start ≤ i)
    → ((k : ℕ) → start ≤ k → k < length old → get_or (put_chunk start old sums) k 0 ≡ get_or sums (k - start) 0)
    → ((k : ℕ) → k < 16 → get_or sums k 0 ≡ bit_xor (get_or old (start + k) 0) (bit_and (product c (get_or src (start + k) 0)) (get_or mask k 0)))
    → length old ≤ start + 16 → (start ≤ i → get_or mask (i - start) 0 ≡ 0)
    → get_or (put_chunk start old sums) i 0 ≡ get_or old i 0
before_last c start old src mask sums i lt (inl h) new_at sum_at end zeros = get_or-put_chunk_below start old sums i 0 h
before_last c start old src mask sums i lt (inr h) new_at sum_at end zeros =
    let at : start + (i - start) ≡ i = omega arith in
    new_at i h lt
    ∙ sum_at (i - start) (omega arith)
    ∙ ap (λ m. bit_xor (get_or old (start + (i - start)) 0) (bit_and (product c (get_or src (start + (i - start)) 0)) m)) (zeros h)
    ∙ ap (bit_xor (get_or old (start + (i - start)) 0)) (and_zero_r (product c (get_or src (start + (i - start)) 0)))
    ∙ xor_zero_r (get_or old (start + (i - start)) 0)
    ∙ ap (λ k. get_or old k 0) at

-- the last sixteen octets, of which those before `at` are masked
pub last_added : (c at start : ℕ) (old src products mask : List ℕ) → length old ≡ length src → 16 ≤ length old → start ≡ length old - 16 → at ≤ length old → length old < at + 16
    → products ≡ map (product c) (chunk start 16 src) → length mask ≡ 16
    → ((i : ℕ) → i + (length old - at) < 16 → get_or mask i 0 ≡ 0) → ((i : ℕ) → i < 16 → 16 ≤ i + (length old - at) → get_or mask i 0 ≡ 255)
    → IsAdded (scaled c src) at (length old) old (put_chunk start old (zip2 bit_xor (chunk start 16 old) (zip2 bit_and products mask)))
last_added c at start old src products mask same long start_is begins few is mask_long zeros ones =
    let old_long : length (chunk start 16 old) ≡ 16 = length-chunk start 16 old (omega arith) in
    let src_long : length (chunk start 16 src) ≡ 16 = length-chunk start 16 src (omega arith) in
    let products_long : length products ≡ 16 = ap (λ ps. length ps) is ∙ length-map (chunk start 16 src) (product c) ∙ src_long in
    let kept : List ℕ = zip2 bit_and products mask in
    let kept_long : length kept ≡ 16 = length-zip2 bit_and products mask (products_long ∙ sym mask_long) ∙ products_long in
    let sums : List ℕ = zip2 bit_xor (chunk start 16 old) kept in
    let sums_long : length sums ≡ 16 = length-zip2 bit_xor (chunk start 16 old) kept (old_long ∙ sym kept_long) ∙ old_long in
    let kept_at : (i : ℕ) → i < 16 → get_or kept i 0 ≡ bit_and (product c (get_or src (start + i) 0)) (get_or mask i 0) =
    (λ i h. get_or-zip2 bit_and products mask i 0 0 0 (omega arith) (omega arith)
    ∙ ap (λ m. bit_and m (get_or mask i 0)) (ap (λ ps. get_or ps i 0) is ∙ get_or-map (product c) (chunk start 16 src) i 0 0 (omega arith) ∙ ap (product c) (get_or-chunk start 16 src i 0 h))) in
    let sum_at : (i : ℕ) → i < 16 → get_or sums i 0 ≡ bit_xor (get_or old (start + i) 0) (bit_and (product c (get_or src (start + i) 0)) (get_or mask i 0)) =
    (λ i h. xor_lane (chunk start 16 old) kept 16 i old_long kept_long h
    ∙ ap (λ m. bit_xor m (get_or kept i 0)) (get_or-chunk start 16 old i 0 h)
    ∙ ap (bit_xor (get_or old (start + i) 0)) (kept_at i h)) in
    let new_at : (i : ℕ) → start ≤ i → i < length old → get_or (put_chunk start old sums) i 0 ≡ get_or sums (i - start) 0 =
    (λ i p q. ap (λ k. get_or (put_chunk start old sums) k 0) (let e : i ≡ start + (i - start) = omega arith in e)
    ∙ get_or-put_chunk_at start old sums (i - start) 0 (omega arith) (omega arith)) in
    let back : (i : ℕ) → start ≤ i → start + (i - start) ≡ i = (λ i p. omega arith) in
    record {
      before = λ i h. before_last c start old src mask sums i (omega arith) (cases_lt i start) new_at sum_at (omega arith) (λ p. zeros (i - start) (omega arith));
      sums = λ i p h.
          new_at i (omega arith) h
          ∙ sum_at (i - start) (omega arith)
          ∙ ap (λ m. bit_xor (get_or old (start + (i - start)) 0) (bit_and (product c (get_or src (start + (i - start)) 0)) m)) (ones (i - start) (omega arith) (omega arith))
          ∙ ap (bit_xor (get_or old (start + (i - start)) 0)) (and_mask (product c (get_or src (start + (i - start)) 0)) 8 ∙ mod-eq_of_lt (product-lt c (get_or src (start + (i - start)) 0)))
          ∙ ap (λ k. bit_xor (get_or old k 0) (product c (get_or src k 0))) (back i (omega arith));
      after = λ i h. get_or-put_chunk_above start old sums i 0 (omega arith);
    }

pub edge_at : (m : List ℕ) (count i : ℕ) → count < 16 → i < 16 → get_or (chunk 0 16 (take (32 - count) (drop count m))) i 0 ≡ get_or m (count + i) 0
edge_at m count i h lt =
    get_or-chunk 0 16 (take (32 - count) (drop count m)) i 0 lt
    ∙ get_or-take (32 - count) (drop count m) (0 + i) 0 (omega arith)
    ∙ get_or-drop count m (0 + i) 0
    ∙ ap (λ n. get_or m n 0) (let e : count + (0 + i) ≡ count + i = omega arith in e)

pub edge_zero : (m : List ℕ) (k : ℕ) → list_all (λ i. get_or m i 0 == 0) (range_with_len 0 16) ≡ true → k < 16 → get_or m k 0 ≡ 0
edge_zero m k h lt = eqb-true _ _ (below_passes 16 (λ i. get_or m i 0 == 0) h k lt)

pub edge_one : (m : List ℕ) (k : ℕ) → list_all (λ i. get_or m (16 + i) 0 == 255) (range_with_len 0 16) ≡ true → 16 ≤ k → k < 32 → get_or m k 0 ≡ 255
edge_one m k h low lt =
    ap (λ n. get_or m n 0) (let e : k ≡ 16 + (k - 16) = omega arith in e) ∙ eqb-true _ _ (below_passes 16 (λ i. get_or m (16 + i) 0 == 255) h (k - 16) (omega arith))

-- lanes picked at places again and again
pub picked_again : (xs ks : List ℕ) (i : ℕ) → length xs ≡ 16 → length ks ≡ 64 → T (all_below 16 ks) → list_all (λ n. get_or ks n 0 == n % 16) (range_with_len 0 64) ≡ true → i < 64
    → get_or (pick_l 0 (xs ++ xs) ks) i 0 ≡ get_or xs (i % 16) 0
picked_again xs ks i long count low is h =
    ap (λ ys. get_or ys i 0) (pick_l_left 0 xs xs 16 ks long low)
    ∙ get_or-map (λ k. get_or xs k 0) ks i 0 0 (omega arith)
    ∙ ap (λ k. get_or xs k 0) (eqb-true _ _ (below_passes 64 (λ n. get_or ks n 0 == n % 16) is i h))
