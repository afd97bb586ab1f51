-- Items of repair requests and the symbols that they name (RFC 5740 section 4.3.1).
use Rattle.std.specs.Prelude.{Option, Some, None}
use Rattle.norm_base.specs.Settings.{Settings}
use Rattle.fec_plan.specs.declared.position.Position.{Position}
use Rattle.norm_ext.specs.ObjectIds.{object_id}
use Rattle.norm_ext.specs.declared.head.Item.{Item}

-- both ends of a range, where there are both
abbrev pub both_of : Option Position → Option Position → Option (Position × Position)
both_of (Some first) (Some last) = Some (first, last)
both_of _ _ = None

-- the item that names a symbol
abbrev pub item_of : Settings → Position → Item
item_of p at = record { object = object_id p at.index; id = record { block = at.block; symbol = at.symbol } }
