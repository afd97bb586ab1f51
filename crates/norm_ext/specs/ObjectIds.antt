-- Object transport ids (RFC 5740 section 4.2.1): 16 bits that go round. An object's index in its order has one id, and an
-- id names the index near what is known already.
use Rattle.std.specs.Prelude.{ℕ, ◌+◌, ◌-◌, ◌%◌, nat_lt, ◌||◌, Option, Some, None, if◌then◌else◌}
use Rattle.norm_base.specs.Settings.{Settings}
use Rattle.norm_base.specs.Sizes.{id_count}

-- the greatest index of an object
abbrev pub last_index : ℕ
last_index = 4294967294

-- how far below and how far above what is known an id still names an index
abbrev pub ids_below : ℕ
ids_below = 32768

abbrev pub ids_above : ℕ
ids_above = 32767

-- the object transport id of an index
abbrev pub object_id : Settings → ℕ → ℕ
object_id p index = (p.first + index) % id_count

-- how many ids lie between one and a later one, going round
abbrev pub ids_from : ℕ → ℕ → ℕ
ids_from from object = (id_count + object - from) % id_count

-- the index that is a round less than this, where an object can have that
abbrev pub index_round_below : ℕ → Option ℕ
index_round_below n = if nat_lt n id_count || nat_lt (last_index + id_count) n then None else Some (n - id_count)

-- The index that an id names to a node that knows indices up to this one: of the 65,536 from 32,768 below it on, the one
-- that has the id; nothing where no object can have that index. (The sum is a round above, since an index 32,768 below
-- may be below 0.)
abbrev pub index_named : Settings → ℕ → ℕ → Option ℕ
index_named p known object = index_round_below (known + ids_below + ids_from (object_id p (known + ids_below)) object)
