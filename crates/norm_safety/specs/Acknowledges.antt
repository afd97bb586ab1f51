-- What was handed up is acknowledged (RFC 5740 section 5.5.3): a receiver that handed up all through a flush's position, lost nothing and
-- heard the flush, which names it, says so at its next tick.
use Rattle.std.specs.Prelude.{◌≡◌, ℕ, List, [], ◌∷◌, slice_get, Bool, true, false, None, Some, Ok, IsTrue, IsSomeAnd, nat_lt}
use Rattle.norm_base.specs.Settings.{Settings}
use Rattle.fec_plan.specs.Points.{position, reaches}
use Rattle.fec_plan.specs.declared.position.Position.{Position}
use Rattle.norm_ext.specs.Message.{Flush, FlushCommand}
use Rattle.norm_ext.specs.ObjectIds.{index_named}
use Rattle.norm_ext.specs.Reading.{decoded}
use Rattle.norm_ext.specs.Written.{writes}
use Rattle.norm_order.specs.Entries.{Object, Whole, Stream, Entry}
use Rattle.norm_order.specs.Shapes.{shape_of, closed_in, last_in}
use Rattle.norm_order.specs.Upto.{upto}
use Rattle.norm_receive_rules.specs.Acknowledging.{names_this}
use Rattle.norm_receive_rules.specs.Nack.{ack_message}
use Rattle.norm_receive_rules.specs.ReceiverState.{ReceiverState}
use Rattle.norm_receive_rules.specs.Receiving.{received}
use Rattle.norm_receive_rules.specs.Taking.{took}
use Rattle.norm_receive_rules.specs.Ticking.{ticked}
use Rattle.norm_safety.specs.Fronts.{IsFront}
use Rattle.norm_safety.specs.History.{History}
use Rattle.norm_safety.specs.HoldsSaid.{handed_by}
use Rattle.norm_safety.specs.OnceEach.{order_of}
use Rattle.norm_safety.specs.World.{receiver_at}

-- an acknowledgement of a position, or of a further one, is due
abbrev pub owes : ReceiverState → Position → Bool
owes r at = elim r.knows.due [ Some due ↦ reaches due at | None ↦ false ]

-- with the position something of the object is handed up: data and files with their last source symbol, a stream with each segment
abbrev pub EndsPart : Settings → Position → Object → Type 0
EndsPart p at (Whole kind info octets) = last_in at.index (shape_of p (Whole kind info octets)) ≡ Some at
EndsPart p at (Stream parts) = IsTrue (nat_lt at.symbol (closed_in (shape_of p (Stream parts)) at.block))

-- the same of the order, as of each watermark
abbrev pub EndsPartOf : Settings → List Entry → Position → Type 0
EndsPartOf p order at = IsSomeAnd (slice_get order at.index) (λ (entry : Entry). EndsPart p at entry.object)

-- A receiver handed up everything before a position in an instance that it is in, taken or not, and lost nothing there.
pub record HandedAll (p : Settings) (h : History) (node id : ℕ) (r : ReceiverState) (at : Position) : Type 0 where
  pub there : receiver_at h.now node ≡ Some r
  pub inside : r.instance ≡ Some id
  pub ends : EndsPartOf p (order_of h.now.sender id) at
  pub lost : r.holding.lost ≡ []
  pub front : IsFront (upto p (order_of h.now.sender id) at) (handed_by h r id)

-- Whoever handed up everything before a flush's position and hears that flush of the sender, which names it, owes an acknowledgement
-- of that position or a further one.
abbrev pub OwesWhatItHanded : Settings → History → Type 0
OwesWhatItHanded p h = (node index : ℕ) (r : ReceiverState) (octets : List ℕ) (now draw : ℕ) (m : FlushCommand)
    → decoded octets ≡ Ok (Flush m) → m.head.source ≡ p.sender → names_this r m.nodes ≡ true → index_named p r.knows.known m.object ≡ Some index
    → HandedAll p h node m.head.instance r (position index m.id.block m.id.symbol)
    → owes (received p r octets now draw) (position index m.id.block m.id.symbol) ≡ true

-- What is owed stays so, whatever the receiver hears in its instance and whatever is taken of it; and its next tick says it.
pub record OwingLaws : Type 0 where
  pub hears : (p : Settings) (r : ReceiverState) (octets : List ℕ) (now draw : ℕ) (at : Position)
      → (received p r octets now draw).instance ≡ r.instance → owes r at ≡ true → owes (received p r octets now draw) at ≡ true
  pub takes : (r : ReceiverState) (at : Position) → owes r at ≡ true → owes (took r).0 at ≡ true
  pub says : (p : Settings) (r : ReceiverState) (now : ℕ) (at : Position) → owes r at ≡ true
      → (due : Position) × (reaches due at ≡ true) × ((ticked p r now).1 ≡ Some (writes (ack_message p r due) (due.index ∷ [])))
