-- How far an entry of the order reaches, which a window keeps also once the entry was dropped.
use Rattle.std.specs.Prelude.{◌≤◌, ⊤, false}
use Rattle.norm_base.specs.Settings.{Settings}
use Rattle.fec_plan.specs.Partition.{stream_cut}
use Rattle.norm_order.specs.Shapes.{Shape}
use Rattle.tx_window.specs.WindowState.{shape_of_length}
use Rattle.tx_window.specs.declared.extent.Extent.{Extent}
use Rattle.tx_window.specs.declared.extent.Extent.TheVariants as extent

-- its shape, without info
abbrev pub shape_of_extent : Settings → Extent → Shape
shape_of_extent p (extent.Object len) = shape_of_length p len
shape_of_extent p (extent.Stream segments) = record { cut = stream_cut p.e p.b p.max_n; closed = segments; info = false }

-- an object has 1 to 16,777,216 octets
abbrev pub IsSized : Extent → Type 0
IsSized (extent.Object len) = (1 ≤ len) × (len ≤ 16777216)
IsSized (extent.Stream segments) = ⊤
