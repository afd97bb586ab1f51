-- The codes of the blocks of a cut (RFC 5510 section 8.2): larger blocks come first, and so there are one or two.
use Rattle.std.specs.Prelude.{ℕ, ◌≡◌, ◌-◌, ◌≤◌, Option, MatchOption}
use Rattle.fec_plan.specs.Partition.{Cut, blocks, source_symbols, encoding_symbols}
use Rattle.rs_block.specs.Code.{CodeState}

-- the code of a block: its source symbols, and its encoding symbols
abbrev pub block_code : Cut → ℕ → CodeState
block_code c block = record { k = source_symbols c block; n = encoding_symbols c block }

-- the code is that of the block, whose symbols have ids of 8 bits
pub record IsCodeOf (c : Cut) (block : ℕ) (code : CodeState) : Type 0 where
  pub is : code ≡ block_code c block
  pub few : code.n ≤ 255

-- the code of the first block, and that of the last one where it has fewer source symbols
pub record AreCodes (c : Cut) (first : CodeState) (last : Option CodeState) : Type 0 where
  pub of_first : IsCodeOf c 0 first
  pub of_last : MatchOption last (source_symbols c (blocks c - 1) ≡ source_symbols c 0) (IsCodeOf c (blocks c - 1))
