-- Places in a transport order: a point is an object and a block of it, a position a symbol of that block. Every comparison
-- of them stands here.
use Rattle.std.specs.Prelude.{ℕ, Bool, false, ◌==◌, ◌&&◌, ◌||◌, ◌<◌, nat_lt, not, Option, None, Some, if◌then◌else◌}
use Rattle.std.specs.declared.cmp.Ordering.{Ordering}
use Rattle.std.specs.Ordering.{nat_cmp, ordering_then}
use Rattle.fec_plan.specs.Partition.{most_blocks}

-- an object's index, and a block of it
pub record Point : Type 0 where
  pub index : ℕ
  pub block : ℕ

-- an object's index, a block of it, and a symbol of that block
pub record Position : Type 0 where
  pub index : ℕ
  pub block : ℕ
  pub symbol : ℕ

-- a point by its parts
abbrev pub point : ℕ → ℕ → Point
point index block = record { index = index; block = block }

-- a position by its parts
abbrev pub position : ℕ → ℕ → ℕ → Position
position index block symbol = record { index = index; block = block; symbol = symbol }

-- the block that a position is in
abbrev pub point_of : Position → Point
point_of at = point at.index at.block

-- points are ordered by index, then block
abbrev pub point_cmp : Point → Point → Ordering
point_cmp a b = ordering_then (nat_cmp a.index b.index) (nat_cmp a.block b.block)

-- positions are ordered by index, then block, then symbol
abbrev pub position_cmp : Position → Position → Ordering
position_cmp p q = ordering_then (nat_cmp p.index q.index) (ordering_then (nat_cmp p.block q.block) (nat_cmp p.symbol q.symbol))

-- this point is before the other
abbrev pub point_before : Point → Point → Bool
point_before a b = nat_lt a.index b.index || (a.index == b.index && nat_lt a.block b.block)

-- this position is before the other
abbrev pub position_before : Position → Position → Bool
position_before a b =
    point_before (point_of a) (point_of b) || (a.index == b.index && a.block == b.block && nat_lt a.symbol b.symbol)

-- the same point
abbrev pub same_point : Point → Point → Bool
same_point a b = a.index == b.index && a.block == b.block

-- the same position
abbrev pub same_position : Position → Position → Bool
same_position a b = a.index == b.index && a.block == b.block && a.symbol == b.symbol

-- at this position or behind it
abbrev pub reaches : Position → Position → Bool
reaches at goal = not (position_before at goal)

-- there is such a position, and it is at this one or behind it
abbrev pub reached_by : Option Position → Position → Bool
reached_by None goal = false
reached_by (Some at) goal = reaches at goal

-- the nearer of two positions, which is the one that is before the other
abbrev pub nearer : Position → Position → Position
nearer a b = if position_before b a then b else a

-- the further of two points
abbrev pub further_point : Point → Option Point → Option Point
further_point at None = Some at
further_point at (Some other) = if point_before other at then Some at else Some other

-- the further of two positions
abbrev pub further : Position → Option Position → Option Position
further at None = Some at
further at (Some other) = if position_before other at then Some at else Some other

-- The number of a block has 24 bits, as messages have it.
abbrev pub IsBlock : ℕ → Type 0
IsBlock block = block < most_blocks
