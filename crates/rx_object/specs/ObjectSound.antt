-- What an object keeps, and what it is seen as.
use Rattle.std.specs.Prelude.{ℕ, ◌≡◌, ◌<◌, ◌+◌, List, length, false, nat_lt, Option, Some, slice_index}
use Rattle.fec_plan.specs.Partition.{Cut, blocks, source_symbols}
use Rattle.norm_receive_rules.specs.Holding.{Plan, new_plan}
use Rattle.norm_receive_rules.specs.Plans.{cut_of_plan, says_stream}
use Rattle.rx_object.specs.ObjectState.{ObjectState}
use Rattle.rx_object.specs.Places.{AreApart, free_places}
use Rattle.rx_object.specs.Rows.{block_ids, coded_symbol, held_in, all_held}
use Rattle.rx_object.specs.RowsSound.{AreRows, IsCoded}
use Rattle.short_blocks.specs.State.{ShortsState, is_short}
use Rattle.rx_object.specs.declared.object.Object.TheInside.{Inside}

abbrev pub plan_inside : Inside → Plan
plan_inside o = new_plan o.index o.fti o.flags

abbrev pub symbols_inside : Inside → ℕ → ℕ → Option (List ℕ)
symbols_inside o = coded_symbol o.rows.plan o.rows.ids.items o.rows.octets.items

abbrev pub object_view : Inside → ObjectState
object_view o = record { plan = plan_inside o; info = o.info; held = all_held o.index o.rows.plan (symbols_inside o) }

-- What is kept of a block: no two places have one id, and as many symbols are held as are counted and as there are places
-- that are not free.
pub record IsBlock (index : ℕ) (c : Cut) (ids octets counts : List ℕ) (block : ℕ) : Type 0 where
  pub apart : AreApart (block_ids c ids block)
  pub count : slice_index counts block + free_places (block_ids c ids block) ≡ source_symbols c block
  pub held : length (held_in index c (coded_symbol c ids octets) block) ≡ slice_index counts block
  pub coded : (id : ℕ) → id < 255 → (x : List ℕ) → coded_symbol c ids octets block id ≡ Some x → IsCoded c block id x

-- The blocks are short that lack symbols.
pub record AreShorts (c : Cut) (counts : List ℕ) (shorts : ShortsState) : Type 0 where
  pub start : shorts.start ≡ 0
  pub all : length shorts.short ≡ blocks c
  pub short : (block : ℕ) → block < blocks c → is_short shorts block ≡ nat_lt (slice_index counts block) (source_symbols c block)

-- Of an object of data or a file the rows are those of its plan.
pub record IsObject (o : Inside) : Type 0 where
  pub plan : o.rows.plan ≡ cut_of_plan (plan_inside o)
  pub kind : says_stream o.flags ≡ false
  pub rows : AreRows o.rows
  pub counted : length o.counts.items ≡ blocks o.rows.plan
  pub each : (block : ℕ) → block < blocks o.rows.plan → IsBlock o.index o.rows.plan o.rows.ids.items o.rows.octets.items o.counts.items block
  pub shorts : AreShorts o.rows.plan o.counts.items o.shorts
