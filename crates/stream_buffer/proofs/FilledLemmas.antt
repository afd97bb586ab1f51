-- Zeros behind a symbol count for nothing. (It stands in obj_buffer too, and belongs beside the laws of rs_block.)
use Rattle.std.proofs.Common.{◌≡◌, ℕ, zero, suc, ◌-◌, ◌%◌, List, [], ◌∷◌, ◌++◌, length, map, replicate, refl, sym, ap, ◌∙◌}
use Rattle.std.specs.Prelude.{bit_xor}
use Rattle.std.specs.Int.Bits.{xor_zero_l, xor_zero_r}
use Rattle.std.proofs.Math.Nat.{zero-mul}
use Rattle.std.proofs.lemmas.List.{length-map}
use Rattle.gf_field.specs.Product.{sum_at_bits, shifts}
use Rattle.gf_field.specs.Power.{power, powers}
use Rattle.gf_field.specs.Interpolation.{coefficient}
use Rattle.gf_field.specs.Symbol.{scaled_onto, weighted_symbols, symbol_at, encoded_symbol}
use Rattle.norm_order.specs.Symbols.{padded}

no_bits : (vs : List ℕ) → sum_at_bits vs 0 ≡ 0
unfolding sum_at_bits
no_bits [] = refl
no_bits (v ∷ vs) = ap (λ n. bit_xor n (sum_at_bits vs 0)) (zero-mul v) ∙ ap (bit_xor 0) (no_bits vs) ∙ xor_zero_r 0

zeros_onto : (vs : List ℕ) (m : ℕ) (ys : List ℕ) → scaled_onto vs (replicate m 0) ys ≡ ys
unfolding scaled_onto
zeros_onto vs m [] = refl
zeros_onto vs zero (y ∷ ys) = refl
zeros_onto vs (suc m) (y ∷ ys) =
    ap (λ z. bit_xor z y ∷ scaled_onto vs (replicate m 0) ys) (no_bits vs)
    ∙ ap (λ z. z ∷ scaled_onto vs (replicate m 0) ys) (xor_zero_l y)
    ∙ ap (λ zs. y ∷ zs) (zeros_onto vs m ys)

filled_onto : (vs xs : List ℕ) (m : ℕ) (ys : List ℕ) → scaled_onto vs xs ys ≡ scaled_onto vs (xs ++ replicate m 0) ys
unfolding scaled_onto
filled_onto vs xs m [] = refl
filled_onto vs [] m (y ∷ ys) = sym (zeros_onto vs m (y ∷ ys))
filled_onto vs (x ∷ xs) m (y ∷ ys) = ap (λ zs. bit_xor (sum_at_bits vs x) y ∷ zs) (filled_onto vs xs m ys)

filled_weighted : (size : ℕ) (places ms : List ℕ) (symbols : List (List ℕ)) (x : ℕ)
    → weighted_symbols size places ms symbols x ≡ weighted_symbols size places ms (map (padded size) symbols) x
unfolding weighted_symbols
filled_weighted size places [] symbols x = refl
filled_weighted size places (m ∷ ms) [] x = refl
filled_weighted size places (m ∷ ms) (s ∷ ss) x =
    filled_onto (shifts 8 (coefficient places m x % 256)) s (size - length s) (weighted_symbols size places ms ss x)
    ∙ ap (scaled_onto (shifts 8 (coefficient places m x % 256)) (padded size s)) (filled_weighted size places ms ss x)

-- the symbols of a block, each padded to whole ones, are coded alike
pub filled_encoded : (size : ℕ) (symbols : List (List ℕ)) (j : ℕ) → encoded_symbol size symbols j ≡ encoded_symbol size (map (padded size) symbols) j
unfolding encoded_symbol symbol_at
filled_encoded size symbols j =
    filled_weighted size (powers (length symbols)) (powers (length symbols)) symbols (power j)
    ∙ ap (λ n. weighted_symbols size (powers n) (powers n) (map (padded size) symbols) (power j)) (sym (length-map symbols (padded size)))
