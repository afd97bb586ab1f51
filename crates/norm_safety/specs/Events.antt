-- What happens in a world of a sender and its receivers, and what each event answers.
use Rattle.std.specs.Prelude.{ℕ, List, Option, Result}
use Rattle.norm_base.specs.declared.node.Origin.{Origin}
use Rattle.norm_ext.specs.Written.{Written}
use Rattle.norm_order.specs.declared.up.Up.{Up}
use Rattle.norm_send_rules.specs.declared.job.Job.{Job}
use Rattle.norm_send_rules.specs.declared.job.Receipt.{Receipt}
use Rattle.norm_send_rules.specs.declared.fault.SendFault.{SendFault}
use Rattle.norm_send_rules.specs.declared.news.News.{News}

-- A command comes to the sender; a datagram is delivered to a node, with a draw; a node ticks; a node's datagram is
-- offered to the network; a node's next hand-up is taken; the sender's news are asked for.
pub data Event : Type 0 where
  Commanded : (by : Origin) (job : Job) (now : ℕ) → Event
  Delivered : (node : ℕ) (datagram : List ℕ) (now draw : ℕ) → Event
  Ticked : (node now : ℕ) → Event
  Offered : (node : ℕ) (datagram : List ℕ) → Event
  UpTaken : (node : ℕ) → Event
  NewsAsked : Event

-- what an event answers: a receipt or a fault, a datagram or none, a hand-up or none, news or none, or nothing
pub data Answer : Type 0 where
  Gave : (result : Result Receipt SendFault) → Answer
  Sent : (datagram : Option Written) → Answer
  Took : (up : Option Up) → Answer
  Told : (news : Option News) → Answer
  Silent : Answer
