-- The window of a sender: what was enqueued and not dropped (RFC 5740 section 5.1).
use Rattle.std.specs.Prelude.{ℕ, ◌-◌, List, length, Bool, not, nat_lt}
use Rattle.norm_base.specs.Settings.{Settings}
use Rattle.fec_plan.specs.Points.{Point, point_of, point_before}
use Rattle.norm_order.specs.Shapes.{Shape, shapes_of}
use Rattle.norm_send_rules.specs.SenderState.{SenderState}
use Rattle.norm_send_rules.specs.declared.want.Want.{Want}
use Rattle.norm_send_rules.specs.declared.want.Want.TheVariants.{Info, Symbol}

-- a want stands behind a drop point: its block was not dropped, and of an info the object
abbrev pub stands_behind : Point → Want → Bool
stands_behind drop (Info index) = not (nat_lt index drop.index)
stands_behind drop (Symbol at) = not (point_before (point_of at) drop)

-- the index of the next object
abbrev pub next_index : SenderState → ℕ
next_index s = length s.current.order

-- the index of the last entry, or 0 where there is none: indices up to it are known to the sender
abbrev pub last_index : SenderState → ℕ
last_index s = next_index s - 1

-- the shapes of the current order
abbrev pub current_shapes : Settings → SenderState → List Shape
current_shapes p s = shapes_of p s.current.order
