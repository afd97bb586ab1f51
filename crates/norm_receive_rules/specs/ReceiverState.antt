-- The state of a receiver (RFC 5740 sections 5.2 and 5.3): what it holds and handed up, what it knows of the sender, and what it has
-- to say.
use Rattle.std.specs.Prelude.{ℕ, Option, None}
use Rattle.fec_plan.specs.Points.{Point}
use Rattle.fec_plan.specs.declared.position.Position.{Position}
use Rattle.norm_receive_rules.specs.Heard.{Heard, heard_nothing}
use Rattle.norm_receive_rules.specs.Holding.{Holding, holding_nothing}

-- What a receiver knows in an instance besides what it holds: the greatest index that a message named; the farthest point
-- seen, and the greatest flush position; what others asked for while it backs off; the moment at which the back-off ends, and
-- the one before which none begins; the acknowledgement that is due.
pub record Knowledge : Type 0 where
  pub known : ℕ
  pub farthest : Option Point
  pub flush : Option Position
  pub heard : Heard
  pub backoff : Option ℕ
  pub holdoff : ℕ
  pub due : Option Position

-- as an instance begins
abbrev pub knowing_nothing : Knowledge
knowing_nothing = record {
  known = 0;
  farthest = None;
  flush = None;
  heard = heard_nothing;
  backoff = None;
  holdoff = 0;
  due = None;
}

-- The state of a node: the current instance or none, what is held and what is known of it, and the sequence number, which
-- goes on from one instance to the next.
pub record ReceiverState : Type 0 where
  pub node : ℕ
  pub instance : Option ℕ
  pub holding : Holding
  pub knows : Knowledge
  pub sequence : ℕ

-- as a node's receiver begins
abbrev pub receiver_opening : ℕ → ReceiverState
receiver_opening node = record { node = node; instance = None; holding = holding_nothing; knows = knowing_nothing; sequence = 0 }
