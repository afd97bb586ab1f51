-- What is promised of the sets that a union keeps, and of the states for which it stands.
use Rattle.std.specs.Prelude.{◌≡◌, ◌<◌, ◌≤◌, ◌+◌, ◌-◌, ◌*◌, ◌==◌, ℕ, min, List, [], length, true, false, slice_get, Some, None}
use Rattle.norm_base.specs.Settings.{Settings}
use Rattle.fec_plan.specs.Partition.{most_blocks}
use Rattle.fec_plan.specs.declared.position.Position.{Position}
use Rattle.norm_order.specs.Entries.{Part, Stream}
use Rattle.norm_order.specs.Shapes.{Shape, shape_of, is_encoded}
use Rattle.norm_send_rules.specs.SenderState.{SenderState}
use Rattle.norm_send_rules.specs.InWindow.{stands_behind, current_shapes, next_index, last_index}
use Rattle.norm_send_rules.specs.declared.want.Want.TheVariants.{Symbol}
use Rattle.norm_send_rules.specs.Streaming.{with_parts}
use Rattle.norm_send_rules.specs.Enqueuing.{open_stream}
use Rattle.nack_union.specs.Kept.{Marked, IsEncodedIn, MayGrow, OfLast, MayRetire, grown_to}
use Rattle.nack_union.specs.UnionState.{UnionState, Stands}
use Rattle.norm_order.specs.Sets.{with_members}
use Rattle.norm_send_rules.specs.Wants.{want_before}
use Rattle.norm_send_rules.specs.declared.want.Want.{Want}

-- what a round asks for may be collected as a set, and join the wants at its end
abbrev pub RoundsAreCollected : Type 0
RoundsAreCollected = (asked wants : List Want)
    → with_members want_before (with_members want_before asked []) wants ≡ with_members want_before asked wants

-- an encoded symbol of the order that was not dropped may be noted as sent
abbrev pub MayBeNoted : Type 0
MayBeNoted =
    (u : UnionState) (s : SenderState) (at : Position) → Stands u s → is_encoded (current_shapes u.p s) at ≡ true
    → stands_behind s.current.drop (Symbol at) ≡ true → IsEncodedIn u.kept at

-- Where the last object of a union is a stream that goes on with these parts, and no fewer of its segments are closed then, the
-- union that has as many closed stands for the state with those parts: what was collected is what was asked for by the order
-- as it stood when each request came.
abbrev pub StreamsGrow : Type 0
StreamsGrow =
    (u : UnionState) (s : SenderState) (parts : List Part) (m : Marked) → Stands u s → slice_get u.kept.objects (length u.kept.objects - 1) ≡ Some m
    → m.cut ≡ (shape_of u.p (Stream parts)).cut → m.info ≡ false → m.closed ≤ (shape_of u.p (Stream parts)).closed
    → Stands (record u { kept = grown_to (shape_of u.p (Stream parts)).closed m u.kept }) (with_parts parts s)

-- the first block that a window keeps of its last object
abbrev pub front_of : SenderState → ℕ
front_of s = elim (s.current.drop.index == last_index s) [ true ↦ s.current.drop.block | false ↦ 0 ]

-- The open stream of the window may grow: no fewer of its segments are closed then, and as many as the profile's blocks have, from the first
-- kept one on.
abbrev pub OpenStreamsMayGrow : Type 0
OpenStreamsMayGrow =
    (u : UnionState) (s : SenderState) (parts : List Part) (closed : ℕ) → Stands u s → open_stream s ≡ Some parts → s.current.drop.index ≤ last_index s
    → (shape_of u.p (Stream parts)).closed ≤ closed → closed ≤ min (front_of s + u.p.blocks) most_blocks * u.p.b → OfLast (MayGrow u.p closed) u.kept

-- a stream of the order, at an index
abbrev pub IsStreamAt : Settings → SenderState → ℕ → Type 0
IsStreamAt p s index = (shape : Shape) → slice_get (current_shapes p s) index ≡ Some shape → (shape.cut.l ≡ None) × (shape.info ≡ false)

-- A union may retire to a point of the order that does not lie before the drop point, and which lies at an object's begin or within a stream.
abbrev pub MayBeRetired : Type 0
MayBeRetired =
    (u : UnionState) (s : SenderState) (index block : ℕ) → Stands u s → s.current.drop.index ≤ index → index ≤ next_index s
    → (index ≡ s.current.drop.index → s.current.drop.block ≤ block) → (0 < block → (index < next_index s) × IsStreamAt u.p s index)
    → block ≤ most_blocks
    → MayRetire index block u.kept
