-- How a symbol is named in a message (RFC 5510 section 5.1).
use Rattle.std.specs.Prelude.{ℕ, ◌+◌, ◌*◌, ◌<◌, List}
use Rattle.std.specs.Int.{to_be_bytes, w32}
use Rattle.fec_plan.specs.Points.{IsBlock}

-- a symbol's name in a message: the number of its block, and its number there
pub record Name : Type 0 where
  pub block : ℕ
  pub symbol : ℕ

-- 24 bits of block and 8 of symbol (RFC 5510 section 5.1)
abbrev pub name_octets : Name → List ℕ
name_octets name = to_be_bytes w32 (256 * name.block + name.symbol)

-- the block's number has 24 bits, and the symbol's 8
abbrev pub IsName : Name → Type 0
IsName name = IsBlock name.block × (name.symbol < 256)
