-- The first part of safety: accepted objects enter the transport order once each.
use Rattle.std.specs.Prelude.{ℕ, ◌==◌, ◌&&◌, List, [], ◌∷◌, ◌++◌, length, take, drop, map, flat_map, find, slice_get, nat_eq, Bool, true, false, not, None, Some, Ok, IsTrue}
use Rattle.std.specs.List.{list_all, list_any, IsDistinct, AllByRecursion}
use Rattle.std.specs.Cmp.Lexicographic.{pointwise}
use Rattle.std.specs.Option.{option_eq}
use Rattle.norm_base.specs.declared.kinds.Kind.TheVariants as kind
use Rattle.norm_base.specs.declared.node.Origin.{Origin}
use Rattle.norm_order.specs.Entries.{Part, Write, Object, Whole, Stream, Entry}
use Rattle.norm_order.specs.Segments.{written, has_end}
use Rattle.norm_send_rules.specs.SenderState.{SenderState, Instance, Watermark}
use Rattle.norm_send_rules.specs.Restarting.{instances}
use Rattle.norm_send_rules.specs.declared.job.Job.{Job}
use Rattle.norm_send_rules.specs.declared.job.Job.TheVariants as job
use Rattle.norm_send_rules.specs.declared.job.Receipt.TheVariants as receipt
use Rattle.norm_safety.specs.Events.{Event, Commanded, Answer, Gave}
use Rattle.norm_safety.specs.Fronts.{same_kind}
use Rattle.norm_safety.specs.History.{Happening, History}
use Rattle.norm_safety.specs.Lawful.{same_origin}

-- the origin of a part of a stream, where it has one
abbrev pub origin_of_part : Part → List Origin
origin_of_part (Write by octets) = by ∷ []
origin_of_part _ = []

-- the origins of an entry and of its parts
abbrev pub origins_of : Entry → List Origin
origins_of entry = entry.by ∷ elim entry.object [ Whole kind info octets ↦ [] | Stream parts ↦ flat_map origin_of_part parts ]

-- all origins among the entries, parts and watermarks of a sender
abbrev pub origins : SenderState → List Origin
origins s =
    flat_map (λ (i : Instance). flat_map origins_of i.order) (instances s)
    ++ map (λ (w : Watermark). w.by) s.watermarks

-- the ids of all instances
abbrev pub instance_ids : SenderState → List ℕ
instance_ids s = map (λ (i : Instance). i.id) (instances s)

-- the order of an instance
abbrev pub order_of : SenderState → ℕ → List Entry
order_of s id = elim (find (λ (i : Instance). i.id == id) (instances s)) [ Some i ↦ i.order | None ↦ [] ]

-- a command brings this object: its octets, as data with its info or as a file with its name; or a stream, which may have parts by now
abbrev pub brings : Job → Object → Bool
brings (job.Data info bytes) (Whole own_kind own octets) = same_kind kind.Data own_kind && option_eq (pointwise nat_eq) info own && pointwise nat_eq bytes octets
brings (job.File name bytes) (Whole own_kind own octets) =
    same_kind kind.File own_kind && option_eq (pointwise nat_eq) (Some name) own && pointwise nat_eq bytes octets
brings job.Open (Stream parts) = true
brings _ _ = false

-- an entry came by this command, and is the object that it brings
abbrev pub is_by : Origin → Job → Entry → Bool
is_by by job entry = same_origin entry.by by && brings job entry.object

-- a part of a stream is what this command wrote
abbrev pub is_write_by : Origin → List ℕ → Part → Bool
is_write_by by bytes (Write own octets) = same_origin own by && pointwise nat_eq bytes octets
is_write_by by bytes _ = false

-- the octets of a stream from an offset on are those that this command wrote, and one of its parts came by it
abbrev pub has_written : Origin → Job → ℕ → Object → Bool
has_written by (job.Write bytes) offset (Stream parts) =
    pointwise nat_eq bytes (take (length bytes) (drop offset (written parts))) && list_any (is_write_by by bytes) parts
has_written _ _ _ _ = false

-- a stream that was closed
abbrev pub is_closed : Object → Bool
is_closed (Stream parts) = has_end parts
is_closed (Whole kind info octets) = false

-- this is true of the entry of an instance at an index
abbrev pub holds_at : SenderState → ℕ → ℕ → (Entry → Bool) → Bool
holds_at s id index test = elim (slice_get (order_of s id) index) [ Some entry ↦ test entry | None ↦ false ]

-- At the answered index of the order stands an accepted object; a stream that has what was accepted for it from the answered offset on; or
-- one that was closed.
abbrev pub has_its_place : SenderState → Happening → Event → Answer → Bool
has_its_place s h (Commanded by job now) (Gave (Ok (receipt.Object index len))) = holds_at s h.before.sender.current.id index (is_by by job)
has_its_place s h (Commanded by job now) (Gave (Ok (receipt.Opened index))) = holds_at s h.before.sender.current.id index (is_by by job)
has_its_place s h (Commanded by job now) (Gave (Ok (receipt.Wrote index offset len))) =
    holds_at s h.before.sender.current.id index (λ entry. has_written by job offset entry.object)
has_its_place s h (Commanded by job now) (Gave (Ok (receipt.Closed index))) =
    holds_at s h.before.sender.current.id index (λ entry. is_closed entry.object)
has_its_place s h _ _ = true

-- Each command stands at most once among all orders and watermarks, instances have different ids, and at the index that an accepted
-- object was answered stands that object, octet for octet, as in a stream from the answered offset on what was written to it.
pub record OnceEach (h : History) : Type 0 where
  pub origins : IsDistinct same_origin (origins h.now.sender)
  pub ids : IsDistinct nat_eq (instance_ids h.now.sender)
  pub places : AllByRecursion (λ x. IsTrue (has_its_place h.now.sender x x.event x.answer)) h.happened

-- no element is equal to a later one
unfoldable pub are_distinct : {X : Type 0} → (X → X → Bool) → List X → Bool
are_distinct same [] = true
are_distinct same (x ∷ xs) = not (list_any (same x) xs) && are_distinct same xs

-- The same as a test.
abbrev pub is_once_each : History → Bool
is_once_each h =
    are_distinct same_origin (origins h.now.sender) && are_distinct nat_eq (instance_ids h.now.sender)
    && list_all (λ (x : Happening). has_its_place h.now.sender x x.event x.answer) h.happened
