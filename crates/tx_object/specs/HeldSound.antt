-- What holds of each object of a window.
use Rattle.std.specs.Prelude.{◌≡◌, ◌-◌, length, filter, not, Some, vec_len}
use Rattle.fec_plan.specs.Partition.{IsSound, all_symbols, blocks, source_symbols}
use Rattle.tx_object.specs.declared.held.Held.TheInside.{Inside}

-- Nothing is wrong with its cut, which its codes are for, and which is that of an object; each source symbol has a mark, and
-- those that were not sent are counted; and it is known which source symbol is the last.
pub record HeldSound (h : Inside) : Type 0 where
  pub sound : IsSound h.plan
  pub codes : h.codes ≡ h.plan
  pub object : h.plan.l ≡ Some h.len
  pub marks : vec_len h.sent ≡ all_symbols h.plan
  pub unsent : h.unsent ≡ length (filter not h.sent.items)
  pub last_block : h.last_block ≡ blocks h.plan - 1
  pub last_symbol : h.last_symbol ≡ source_symbols h.plan (blocks h.plan - 1) - 1
