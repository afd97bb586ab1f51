-- The blocks of a stream, numbered from one on: they are those of a stream of which as much less is closed.
use Rattle.std.proofs.Common.{◌≡◌, ℕ, ◌+◌, ◌-◌, ◌*◌, ◌/◌, ◌≤◌, ◌⊎◌, inl, inr, true, false, Option, None, Some, refl, ap, ◌∙◌, arith}
use Rattle.std.specs.Prelude.{min, ◌==◌}
use Rattle.fec_plan.specs.Partition.{Cut, most_blocks, all_symbols, source_symbols, symbol_number}
use Rattle.nack_union.specs.Kept.{IsRepairable}
use Rattle.norm_order.specs.Shapes.{closed_in, encoded_in, is_full}
use Rattle.nack_union.specs.Repairs.{shape_closed}

-- a stream's blocks are alike
pub sources_alike : (c : Cut) (a b : ℕ) → c.l ≡ None → source_symbols c a ≡ source_symbols c b
sources_alike c a b is = go c.l is
  where
    go : (l : Option ℕ) → l ≡ None → source_symbols (record c { l = l }) a ≡ source_symbols (record c { l = l }) b
    go (Some n) e = absurd (cc)
    go None e = refl

-- what is closed of a block that is numbered from one on
pub closed_shifted : (c : Cut) (closed first block : ℕ) → c.l ≡ None
    → closed_in (shape_closed c (closed - symbol_number c first 0)) block ≡ closed_in (shape_closed c closed) (first + block)
closed_shifted c closed first block is = go c.l is
  where
    by : (b : ℕ) → min b ((closed - (first * b + 0)) - (block * b + 0)) ≡ min b (closed - ((first + block) * b + 0))
    by b = omega arith

    go : (l : Option ℕ) → l ≡ None
        → min (source_symbols (record c { l = l }) block) ((closed - symbol_number (record c { l = l }) first 0) - symbol_number (record c { l = l }) block 0)
        ≡ min (source_symbols (record c { l = l }) (first + block)) (closed - symbol_number (record c { l = l }) (first + block) 0)
    go (Some n) e = absurd (cc)
    go None e = by c.b

pub full_shifted : (c : Cut) (closed first block : ℕ) → c.l ≡ None
    → is_full (shape_closed c (closed - symbol_number c first 0)) block ≡ is_full (shape_closed c closed) (first + block)
full_shifted c closed first block is =
    ap (λ n. n == source_symbols c block) (closed_shifted c closed first block is)
    ∙ ap (λ n. closed_in (shape_closed c closed) (first + block) == n) (sources_alike c block (first + block) is)

-- numbers before blocks add up
pub numbers_add : (c : Cut) (closed first count : ℕ) → c.l ≡ None
    → (closed - symbol_number c first 0) - symbol_number c count 0 ≡ closed - symbol_number c (first + count) 0
numbers_add c closed first count is = go c.l is
  where
    by : (b : ℕ) → (closed - (first * b + 0)) - (count * b + 0) ≡ closed - ((first + count) * b + 0)
    by b = omega arith

    go : (l : Option ℕ) → l ≡ None
        → (closed - symbol_number (record c { l = l }) first 0) - symbol_number (record c { l = l }) count 0 ≡ closed - symbol_number (record c { l = l }) (first + count) 0
    go (Some n) e = absurd (cc)
    go None e = by c.b

-- nothing stands before the first block
pub number_zero : (c : Cut) → symbol_number c 0 0 ≡ 0
number_zero c = go c.l
  where
    by : (larger large small : ℕ) → min 0 larger * large + (0 - larger) * small + 0 ≡ 0
    by larger large small =
        ap (λ a. a * large + (0 - larger) * small + 0) (let e : min 0 larger ≡ 0 = omega arith in e)
        ∙ ap (λ a. 0 * large + a * small + 0) (let e : 0 - larger ≡ 0 = omega arith in e)
        ∙ (let e : 0 * large + 0 * small + 0 ≡ 0 = omega arith in e)

    go : (l : Option ℕ) → symbol_number (record c { l = l }) 0 0 ≡ 0
    go (Some n) = by _ _ _
    go None = omega arith

-- An object's blocks as they are numbered from one on: of a stream, or from the first one.
pub record Shifts (c : Cut) (closed first : ℕ) : Type 0 where
  pub closed_is : (block : ℕ) → closed_in (shape_closed c (closed - symbol_number c first 0)) block ≡ closed_in (shape_closed c closed) (first + block)
  pub sources_is : (block : ℕ) → source_symbols c block ≡ source_symbols c (first + block)

pub shifts : (c : Cut) (closed first : ℕ) → (first ≡ 0) ⊎ (c.l ≡ None) → Shifts c closed first
shifts c closed first (inl e) = record {
  closed_is = λ block.
      ap (λ n. closed_in (shape_closed c (closed - symbol_number c n 0)) block) e
      ∙ ap (λ n. closed_in (shape_closed c n) block) (let z = number_zero c in let f : closed - symbol_number c 0 0 ≡ closed = omega (arith, z) in f)
      ∙ ap (λ n. closed_in (shape_closed c closed) n) (let f : block ≡ first + block = omega (arith, e) in f);
  sources_is = λ block. ap (source_symbols c) (let f : block ≡ first + block = omega (arith, e) in f);
}
shifts c closed first (inr is) = record {
  closed_is = λ block. closed_shifted c closed first block is;
  sources_is = λ block. sources_alike c block (first + block) is;
}

pub encoded_is : (c : Cut) (closed first block : ℕ) → Shifts c closed first
    → encoded_in (shape_closed c (closed - symbol_number c first 0)) block ≡ encoded_in (shape_closed c closed) (first + block)
encoded_is c closed first block sh =
    go _ _ _ _ (sh.closed_is block) (sh.sources_is block)
  where
    go : (x y s t : ℕ) → x ≡ y → s ≡ t
        → (elim (x == s) as (λ _. ℕ) [ true ↦ s * c.max_n / c.b | false ↦ x ]) ≡ (elim (y == t) as (λ _. ℕ) [ true ↦ t * c.max_n / c.b | false ↦ y ])
    go x y s t e f =
        ap (λ z. elim (z == s) as (λ _. ℕ) [ true ↦ s * c.max_n / c.b | false ↦ z ]) e
        ∙ ap (λ z. elim (y == z) as (λ _. ℕ) [ true ↦ z * c.max_n / c.b | false ↦ y ]) f

-- how many symbols a stream can have
pub all_stream : (c : Cut) → c.l ≡ None → all_symbols c ≡ most_blocks * c.b
all_stream c is = go c.l is
  where
    go : (l : Option ℕ) → l ≡ None → all_symbols (record c { l = l }) ≡ most_blocks * c.b
    go (Some n) e = absurd (cc)
    go None e = refl

-- a counted block can be repaired, whatever it is numbered from
pub repairable_up : (c : Cut) (closed first block : ℕ) → Shifts c closed first → first ≤ block → IsRepairable c (block - first) → IsRepairable c block
repairable_up c closed first block sh le rep = record {
  sound = rep.sound;
  named =
      let same = ap (λ n. n * c.max_n / c.b) (sh.sources_is (block - first) ∙ ap (source_symbols c) (let e : first + (block - first) ≡ block = omega (arith, le) in e)) in
      let few = rep.named in
      omega (arith, same, few);
}
