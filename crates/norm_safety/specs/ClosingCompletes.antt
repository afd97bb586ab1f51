-- What a closing round wants completes a block for whoever lacks no more of it than one of its requests counts (RFC 5740 section 5.4).
use Rattle.std.specs.Prelude.{◌≡◌, ℕ, ◌+◌, ◌≤◌, length, map, flat_map, slice_get, true, Some, Contains}
use Rattle.std.specs.List.{AllByRecursion}
use Rattle.norm_base.specs.Settings.{Settings}
use Rattle.fec_plan.specs.Partition.{source_symbols}
use Rattle.norm_ext.specs.Asking.{Count}
use Rattle.norm_order.specs.Shapes.{Shape, is_full}
use Rattle.norm_receive_rules.specs.Holding.{Held}
use Rattle.norm_receive_rules.specs.ReceiverState.{ReceiverState}
use Rattle.norm_send_rules.specs.Asking.{counts_of}
use Rattle.norm_send_rules.specs.Closing.{round_closed}
use Rattle.norm_send_rules.specs.InWindow.{current_shapes}
use Rattle.norm_send_rules.specs.SenderState.{Round}
use Rattle.norm_safety.specs.History.{Happening, History}
use Rattle.norm_safety.specs.RepairSuffices.{closes_by, ids_in, completes}
use Rattle.norm_safety.specs.World.{World, receiver_at}

-- A receiver of the current instance lacks no more symbols of a block, of which all source symbols are closed, than a request of a
-- round counts.
pub record LacksAtMost (p : Settings) (w : World) (r : Round) (node : ℕ) (x : ReceiverState) (c : Count) (shape : Shape) : Type 0 where
  pub there : receiver_at w node ≡ Some x
  pub inside : x.instance ≡ Some w.sender.current.id
  pub counted : Contains (flat_map (counts_of (current_shapes p w.sender)) r.asked) c
  pub is : slice_get (current_shapes p w.sender) c.of.index ≡ Some shape
  pub full : is_full shape c.of.block ≡ true
  pub enough : source_symbols shape.cut c.of.block ≤ length (ids_in c.of (map (λ (h : Held). h.at) x.holding.held)) + c.lacking

-- where an event closes a round, what it holds of that block, with what is wanted then, completes it
abbrev pub EventCompletes : Settings → Happening → Type 0
EventCompletes p e = (r : Round) (node : ℕ) (x : ReceiverState) (c : Count) (shape : Shape) → closes_by p e.before e.event ≡ Some r
    → LacksAtMost p e.before r node x c shape
    → completes p (round_closed p r e.before.sender) (round_closed p r e.before.sender).wants x c.of ≡ true

-- of each closing of a run
abbrev pub ClosingCompletes : Settings → History → Type 0
ClosingCompletes p h = AllByRecursion (EventCompletes p) h.happened
