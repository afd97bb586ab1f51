-- What is promised of the order's definitions.
use Rattle.std.specs.Prelude.{◌≡◌, ◌<◌, ℕ, ◌-◌, List, [], ◌∷◌, ◌++◌, length, take, false, true, flat_map}
use Rattle.norm_base.specs.Settings.{Settings}
use Rattle.norm_base.specs.declared.node.Origin.{Origin}
use Rattle.fec_plan.specs.Points.{reaches}
use Rattle.fec_plan.specs.declared.position.Position.{Position}
use Rattle.norm_order.specs.declared.up.Up.{Up}
use Rattle.norm_order.specs.Entries.{Part, End, Stream, Entry}
use Rattle.norm_order.specs.Segments.{Segment, segments, written, unclosed, has_end}
use Rattle.norm_order.specs.Later.{OrderLater}
use Rattle.norm_order.specs.Shapes.{shapes_of, is_source}
use Rattle.norm_order.specs.Upto.{upto}

-- the octets of segments in a row
abbrev pub joined_octets : List Segment → List ℕ
joined_octets all = flat_map (λ (s : Segment). s.octets) all

-- The segments of a stream concatenate to its octets: of a stream that ended to all that was written, and of an open
-- one to all but the octets that stand in the segment that is not closed.
pub record SegmentLaws : Type 0 where
  pub of_ended : (e : ℕ) (parts : List Part) → 0 < e → has_end parts ≡ false
      → joined_octets (segments e (parts ++ End ∷ [])) ≡ written parts
  pub of_open : (e : ℕ) (parts : List Part) → 0 < e → has_end parts ≡ false
      → joined_octets (segments e parts) ≡ take (length (written parts) - unclosed e parts) (written parts)

-- what stands before a watermark is a front of what stands before a later one
abbrev pub GrowsWithPosition : Type 0
GrowsWithPosition = (p : Settings) (order : List Entry) (at later : Position)
    → is_source (shapes_of p order) at ≡ true → reaches later at ≡ true
    → (rest : List Up) × (upto p order at ++ rest ≡ upto p order later)

-- entries that join the order leave what stands before a watermark as it is
abbrev pub KeptAsOrderGrows : Type 0
KeptAsOrderGrows = (p : Settings) (order more : List Entry) (at : Position)
    → is_source (shapes_of p order) at ≡ true → upto p (order ++ more) at ≡ upto p order at

-- the order with this stream as its last entry
abbrev pub with_stream : List Entry → Origin → List Part → List Entry
with_stream order by parts = order ++ record { by = by; object = Stream parts } ∷ []

-- an open stream that goes on leaves what stands before a watermark as it is, and the watermark a source symbol
pub record KeptAsStreamGoesOn : Type 0 where
  pub still_source : (p : Settings) (order : List Entry) (by : Origin) (parts more : List Part) (at : Position)
      → 0 < p.e → has_end parts ≡ false → is_source (shapes_of p (with_stream order by parts)) at ≡ true
      → is_source (shapes_of p (with_stream order by (parts ++ more))) at ≡ true
  pub same_before : (p : Settings) (order : List Entry) (by : Origin) (parts more : List Part) (at : Position)
      → 0 < p.e → has_end parts ≡ false → is_source (shapes_of p (with_stream order by parts)) at ≡ true
      → upto p (with_stream order by (parts ++ more)) at ≡ upto p (with_stream order by parts) at

-- A source symbol of an order is one of each later order, and what stands before a watermark there is what stood before it.
pub record OrdersGrow : Type 0 where
  pub still_source : (p : Settings) (order later : List Entry) (at : Position) → 0 < p.e → OrderLater order later
      → is_source (shapes_of p order) at ≡ true → is_source (shapes_of p later) at ≡ true
  pub same_before : (p : Settings) (order later : List Entry) (at : Position) → 0 < p.e → OrderLater order later
      → is_source (shapes_of p order) at ≡ true → upto p later at ≡ upto p order at
