-- The exclusive or as a sum: its order is free, and each number is its own opposite.
use Rattle.std.proofs.Common.{◌≡◌, ℕ, sym, ap, ◌∙◌}
use Rattle.std.specs.Prelude.{bit_xor}
use Rattle.std.specs.Int.Bits.{xor_assoc, xor_self, xor_zero_l, xor_zero_r}
use Rattle.std.proofs.lemmas.Nat.{xor_comm}

pub xor_left : (a b c : ℕ) → bit_xor a (bit_xor b c) ≡ bit_xor b (bit_xor a c)
xor_left a b c =
    sym (xor_assoc a b c) ∙ ap (λ s. bit_xor s c) (xor_comm a b) ∙ xor_assoc b a c

-- two sums of two, with the inner ones changed over
pub xor_four : (a b c d : ℕ) → bit_xor (bit_xor a b) (bit_xor c d) ≡ bit_xor (bit_xor a c) (bit_xor b d)
xor_four a b c d =
    xor_assoc a b (bit_xor c d) ∙ ap (bit_xor a) (xor_left b c d) ∙ sym (xor_assoc a c (bit_xor b d))

-- what is added twice is gone
pub xor_twice : (a b : ℕ) → bit_xor a (bit_xor a b) ≡ b
xor_twice a b = sym (xor_assoc a a b) ∙ ap (λ s. bit_xor s b) (xor_self a) ∙ xor_zero_l b

-- a sum that is 0 has two equal parts
pub same_from_xor : (a b : ℕ) → bit_xor a b ≡ 0 → a ≡ b
same_from_xor a b h = sym (xor_zero_r a) ∙ ap (bit_xor a) (sym h) ∙ xor_twice a b
