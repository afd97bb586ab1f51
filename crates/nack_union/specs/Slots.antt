-- The slots of an object: its info first, and then block by block 256 symbols, in the order in which repairs are sent
-- (RFC 5740 section 5.1).
use Rattle.std.specs.Prelude.{ℕ, zero, suc, ◌+◌, ◌*◌, ◌/◌, ◌%◌, ◌<◌, Bool, true, not, nat_lt}
use Rattle.fec_plan.specs.Points.{position}
use Rattle.norm_send_rules.specs.declared.want.Want.{Want}
use Rattle.norm_send_rules.specs.declared.want.Want.TheVariants.{Info, Symbol}

-- the slot of a symbol of a block
abbrev pub symbol_slot : ℕ → ℕ → ℕ
symbol_slot block symbol = 256 * block + symbol + 1

-- the slots of an object of so many blocks
abbrev pub slots : ℕ → ℕ
slots blocks = 256 * blocks + 1

-- what stands at a slot of the object with this index
abbrev pub want_at : ℕ → ℕ → Want
want_at index zero = Info index
want_at index (suc n) = Symbol (position index (n / 256) (n % 256))

-- the slot of an info or symbol
abbrev pub slot_of_want : Want → ℕ
slot_of_want (Info index) = 0
slot_of_want (Symbol at) = symbol_slot at.block at.symbol

-- a symbol's id has 8 bits
abbrev pub IsNamed : Want → Type 0
IsNamed (Info index) = Unit {0}
IsNamed (Symbol at) = at.symbol < 256

-- what stands at a slot stays where an object is kept from a block on: an info, or a symbol of a block that is not before it
abbrev pub stands_from : ℕ → ℕ → Bool
stands_from block zero = true
stands_from block (suc n) = not (nat_lt (n / 256) block)
