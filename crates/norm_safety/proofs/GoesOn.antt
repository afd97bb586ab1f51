-- Orders that go on, and drop points within them.
use Rattle.std.proofs.Common.{◌≡◌, ℕ, ◌*◌, ◌-◌, ◌<◌, ◌≤◌, List, [], ◌++◌, length, true, Some, ap, ◌∙◌}
use Rattle.std.specs.Prelude.{slice_get, ⊤}
use Rattle.std.proofs.lemmas.List.{append-nil}
use Rattle.norm_base.specs.Settings.{Settings}
use Rattle.fec_plan.specs.Points.{Point}
use Rattle.norm_order.specs.Entries.{Part, Object, Whole, Stream, Entry}
use Rattle.norm_order.specs.Segments.{closed_from, has_end}
pub use Rattle.norm_order.specs.Later.{ObjectLater, OrderLater}
pub use Rattle.norm_order.proofs.LaterLemmas.{object_itself, has_end_more, closed_later, order_itself, later_entry, later_long, later_take, source_later, upto_later}

-- it does not go on: it is data or a file, or a stream that ended
abbrev pub IsFinished : Object → Type 0
IsFinished (Whole kind info octets) = ⊤
IsFinished (Stream parts) = has_end parts ≡ true

-- so many blocks of a stream are closed
abbrev pub HasBlocks : Settings → ℕ → Object → Type 0
HasBlocks p n (Whole kind info octets) = ⊥
HasBlocks p n (Stream parts) = n * p.b ≤ length (closed_from p.e [] parts)

-- A drop point lies within an order: its index is below the order's length, or 0; objects before it are finished; and where it is within
-- one that is a stream, whose blocks before it are closed.
pub record DropWithin (p : Settings) (order : List Entry) (d : Point) : Type 0 where
  pub within : d.index ≤ length order - 1
  pub finished : (i : ℕ) (x : Entry) → slice_get order i ≡ Some x → i < d.index → IsFinished x.object
  pub blocks : 0 < d.block → (x : Entry) × (slice_get order d.index ≡ Some x) × HasBlocks p d.block x.object

-- what is finished stays
pub finished_stays : (o later : Object) → IsFinished o → ObjectLater o later → later ≡ o
finished_stays (Whole kind info octets) later f h = h
finished_stays (Stream parts) later f (more, is, none) =
    is ∙ ap (λ (xs : List Part). Stream (parts ++ xs)) (none f) ∙ ap Stream (append-nil parts)
