-- A flush goes as soon as nothing else is to be sent, and who hears it knows its position (RFC 5740 section 5.5.3).
use Rattle.std.specs.Prelude.{◌≡◌, ℕ, ◌+◌, ◌*◌, ◌<◌, ◌≤◌, List, Some, Ok, IfSome, true}
use Rattle.norm_base.specs.Settings.{Settings}
use Rattle.fec_plan.specs.Points.{position, reached_by}
use Rattle.fec_plan.specs.declared.position.Position.{Position}
use Rattle.norm_ext.specs.Message.{Flush, FlushCommand}
use Rattle.norm_ext.specs.ObjectIds.{index_named}
use Rattle.norm_ext.specs.Reading.{decoded}
use Rattle.norm_receive_rules.specs.Acknowledging.{acknowledges}
use Rattle.norm_receive_rules.specs.Leaving.{entered}
use Rattle.norm_receive_rules.specs.ReceiverState.{ReceiverState}
use Rattle.norm_receive_rules.specs.Receiving.{received}
use Rattle.norm_receive_rules.specs.Taking.{took}
use Rattle.norm_receive_rules.specs.Ticking.{ticked as receiver_ticked}
use Rattle.norm_send_rules.specs.Flushing.{most_flushes, flushes_for}
use Rattle.norm_send_rules.specs.SenderState.{SenderState, Watermark}
use Rattle.norm_send_rules.specs.Ticking.{ticked}
use Rattle.norm_send_rules.specs.Watermarks.{oldest}
use Rattle.norm_safety.specs.Acknowledges.{owes}
use Rattle.norm_recovery.specs.RunsOut.{to_send, ClosesNone}

-- A tick that closes no round comes due; nothing is to be sent; two round trips have passed since the last flush; fewer than 20 were counted;
-- and this is the oldest open watermark.
pub record MayFlush (p : Settings) (now : ℕ) (s : SenderState) (w : Watermark) : Type 0 where
  pub closes_none : ClosesNone p now s
  pub due : s.next_send ≤ now
  pub nothing : to_send p s ≡ 0
  pub apart : IfSome s.last_flush (λ last. last + 2 * p.grtt ≤ now)
  pub few : s.flushes < most_flushes
  pub is_oldest : oldest s ≡ Some w

-- That tick flushes for this watermark.
abbrev pub FlushGoes : Type 0
FlushGoes = (p : Settings) (now : ℕ) (s : SenderState) (w : Watermark) → MayFlush p now s w → ticked p s now ≡ flushes_for p now w s

-- a receiver is in an instance, and knows a flush of this position or of a further one
pub record KnowsFlush (r : ReceiverState) (id : ℕ) (at : Position) : Type 0 where
  pub inside : r.instance ≡ Some id
  pub flush : reached_by r.knows.flush at ≡ true

-- What a receiver that hears a flush of the sender knows, and owes.
pub record FlushHeard : Type 0 where
  -- in the instance that it is in or goes on to, if the id names an index there, it knows that position or a further one
  pub knows : (p : Settings) (r t : ReceiverState) (octets : List ℕ) (now draw index : ℕ) (m : FlushCommand) → decoded octets ≡ Ok (Flush m)
      → m.head.source ≡ p.sender → entered r m.head.instance ≡ Some t → index_named p t.knows.known m.object ≡ Some index
      → KnowsFlush (received p r octets now draw) m.head.instance (position index m.id.block m.id.symbol)
  -- and if the flush asks it and all through that position was handed up, it owes an acknowledgement of that position or a further one
  pub owed : (p : Settings) (r t : ReceiverState) (octets : List ℕ) (now draw index : ℕ) (m : FlushCommand) → decoded octets ≡ Ok (Flush m)
      → m.head.source ≡ p.sender → entered r m.head.instance ≡ Some t → index_named p t.knows.known m.object ≡ Some index
      → acknowledges t (position index m.id.block m.id.symbol) m.nodes ≡ true
      → owes (received p r octets now draw) (position index m.id.block m.id.symbol) ≡ true
  -- it knows it whatever it hears in that instance, ticks, or is taken of it
  pub hears : (p : Settings) (r : ReceiverState) (octets : List ℕ) (now draw id : ℕ) (at : Position)
      → (received p r octets now draw).instance ≡ r.instance → KnowsFlush r id at → KnowsFlush (received p r octets now draw) id at
  pub ticks : (p : Settings) (r : ReceiverState) (now id : ℕ) (at : Position) → KnowsFlush r id at → KnowsFlush (receiver_ticked p r now).0 id at
  pub takes : (r : ReceiverState) (id : ℕ) (at : Position) → KnowsFlush r id at → KnowsFlush (took r).0 id at
