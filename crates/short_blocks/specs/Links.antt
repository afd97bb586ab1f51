-- How short blocks are linked. A link says of a short block where the done ones right before it begin, and the first short one
-- behind it; of a block that is done the second is 0.
use Rattle.std.specs.Prelude.{ℕ, ◌≡◌, ◌<◌, ◌≤◌, ◌+◌, ◌-◌, List, map}
use Rattle.std.specs.List.{range_with_len}
use Rattle.short_blocks.specs.declared.links.Link.{Link}

-- The first short one from a block on, or the number behind the window.
pub record IsNext (nexts : ℕ → ℕ) (from end next : ℕ) : Type 0 where
  pub above : from ≤ next
  pub most : next ≤ end
  pub done : (block : ℕ) → from ≤ block → block < next → nexts block ≡ 0
  pub short : next < end → 0 < nexts next

-- The number behind the last short one before a block, or none above the window's first block.
pub record IsBehind (nexts : ℕ → ℕ) (start before behind : ℕ) : Type 0 where
  pub most : behind ≤ before
  pub done : (block : ℕ) → start ≤ block → behind ≤ block → block < before → nexts block ≡ 0
  pub short : start < behind → 0 < nexts (behind - 1)

-- All short ones from one block up to another are linked: the head is the first of them, and the tail the number behind the last.
pub record AreLinked (start end head tail : ℕ) (nexts befores : ℕ → ℕ) : Type 0 where
  pub width : start ≤ end
  pub first : IsNext nexts start end head
  pub last : IsBehind nexts start end tail
  pub next : (block : ℕ) → start ≤ block → block < end → 0 < nexts block → IsNext nexts (block + 1) end (nexts block)
  pub before : (block : ℕ) → start ≤ block → block < end → 0 < nexts block → IsBehind nexts start block (befores block)

-- the links of so many blocks from 0 on that are all short
abbrev pub all_linked : ℕ → List Link
all_linked count = map (λ block. record { done_from = block; next = block + 1 }) (range_with_len 0 count)
