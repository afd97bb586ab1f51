-- When a receiver of data and files needs nothing (RFC 5740 section 5.3): it has all that the sender sent before what it saw.
use Rattle.std.specs.Prelude.{◌≡◌, ◌<◌, ◌≤◌, ◌⊎◌, ◌+◌, ◌||◌, ℕ, List, length, true, false, Some, IfSome, is_some}
use Rattle.std.specs.List.{AllByRecursion}
use Rattle.norm_base.specs.Settings.{Settings, InRange}
use Rattle.fec_plan.specs.Points.{Point}
use Rattle.fec_plan.specs.declared.position.Position.{Position}
use Rattle.norm_order.specs.Entries.{Entry}
use Rattle.norm_order.specs.Shapes.{shapes_of, is_source, has_info}
use Rattle.norm_receive_rules.specs.AllNeeds.{needs_nothing}
use Rattle.norm_receive_rules.specs.Holding.{Holding, Plan}
use Rattle.norm_receive_rules.specs.Plans.{plan_of, is_over, holds, is_done, info_of}
use Rattle.norm_receive_rules.specs.ReceiverState.{ReceiverState}
use Rattle.norm_safety.specs.Events.{Event}
use Rattle.norm_safety.specs.InOrder.{is_stream_object}
use Rattle.norm_safety.specs.Jobs.{AreEvents}
use Rattle.norm_safety.specs.Lawful.{Lawful}
use Rattle.norm_safety.specs.World.{receiver_at}
use Rattle.norm_safety.specs.WorldStep.{run}

-- a symbol is had: its object is over, or its plan is known, and it is held or its block is done
abbrev pub IsHad : Holding → Position → Type 0
IsHad h at = (is_over h at.index ≡ true) ⊎ ((plan : Plan) × (plan_of h at.index ≡ Some plan) × ((holds h at || is_done h plan at.block) ≡ true))

-- an info is had
abbrev pub InfoIsHad : Holding → ℕ → Type 0
InfoIsHad h index = (is_over h index ≡ true) ⊎ (is_some (info_of h index) ≡ true)

-- Of an order each source symbol before a block of an object is had, and each info of the objects before that one.
pub record HadBefore (p : Settings) (order : List Entry) (h : Holding) (index block : ℕ) : Type 0 where
  pub there : index ≤ length order
  pub symbols : (at : Position) → is_source (shapes_of p order) at ≡ true → (at.index < index) ⊎ ((at.index ≡ index) × (at.block < block)) → IsHad h at
  pub infos : (i : ℕ) → has_info (shapes_of p order) i ≡ true → i < index → InfoIsHad h i

-- All is had before the farthest point that the receiver saw; and of all objects up to that of the flush that it knows.
pub record HadSeen (p : Settings) (order : List Entry) (r : ReceiverState) : Type 0 where
  pub farthest : IfSome r.knows.farthest (λ (at : Point). HadBefore p order r.holding at.index at.block)
  pub flush : IfSome r.knows.flush (λ (at : Position). HadBefore p order r.holding (at.index + 1) 0)

-- After a lawful run a receiver of the current instance needs nothing where that is so, if the order has no stream.
abbrev pub HadIsNotNeeded : Type 0
HadIsNotNeeded = (p : Settings) → InRange p → (events : List Event) → Lawful p events → AreEvents events
    → AllByRecursion (λ (x : Entry). is_stream_object x.object ≡ false) (run p events).sender.current.order → (node : ℕ) (r : ReceiverState)
    → receiver_at (run p events) node ≡ Some r → r.instance ≡ Some (run p events).sender.current.id
    → HadSeen p (run p events).sender.current.order r → needs_nothing p r ≡ true
