-- What the rows of an object's blocks keep.
use Rattle.std.specs.Prelude.{ℕ, ◌≡◌, ◌<◌, ◌≤◌, ◌*◌, List, [], slice_index_or, take, length, true, is_some}
use Rattle.fec_plan.specs.Partition.{Cut, IsSound, blocks, all_symbols, sent_octets}
use Rattle.gf_field.specs.Element.{AreElements}
use Rattle.norm_order.specs.Symbols.{padded}
use Rattle.rx_object.specs.Places.{IsMaskOf}
use Rattle.rx_object.specs.Rows.{block_ids}
use Rattle.rx_object.specs.declared.rows.Rows.{Rows}

-- a coded symbol has e octets, which are those that are sent of it, and zeros
pub record IsCoded (c : Cut) (block id : ℕ) (symbol : List ℕ) : Type 0 where
  pub long : length symbol ≡ c.e
  pub octets : AreElements symbol
  pub zeros : padded c.e (take (sent_octets c block id) symbol) ≡ symbol

-- There is a place for each source symbol of an object, and the mask of each block has the ids of its places.
pub record AreRows (r : Rows) : Type 0 where
  pub sound : IsSound r.plan
  pub object : is_some r.plan.l ≡ true
  pub most : all_symbols r.plan * r.plan.e ≤ 16778616
  pub octets : length r.octets.items ≡ all_symbols r.plan * r.plan.e
  pub ids : length r.ids.items ≡ all_symbols r.plan
  pub masks : length r.masks.items ≡ blocks r.plan
  pub came : (block : ℕ) → block < blocks r.plan → IsMaskOf (slice_index_or r.masks.items block []) (block_ids r.plan r.ids.items block)
