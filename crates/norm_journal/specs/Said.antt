-- What a printed line says: all that stands in it, as the event had it.
use Rattle.std.specs.Prelude.{◌≡◌, ℕ, ◌<◌, ◌^◌, List, length, All, Option, None, Some, Result, Ok, Err, IfSome, is_some, option_and_then, ⊤}
use Rattle.std.specs.Option.{option_map}
use Rattle.norm_base.specs.Octets.{AreOctets}
use Rattle.fec_plan.specs.declared.position.Position.{Position}
use Rattle.norm_base.specs.declared.kinds.Kind.{Kind}
use Rattle.norm_base.specs.declared.node.Origin.{Origin}
use Rattle.norm_order.specs.declared.up.Up.{Up}
use Rattle.norm_order.specs.declared.up.Up.TheVariants as up
use Rattle.norm_script.specs.declared.script.Verb.{Verb}
use Rattle.norm_send_rules.specs.declared.job.Receipt.{Receipt}
use Rattle.norm_send_rules.specs.declared.job.Receipt.TheVariants as receipt
use Rattle.norm_send_rules.specs.declared.fault.SendFault.{SendFault}
use Rattle.norm_send_rules.specs.declared.fault.SendFault.TheVariants as send
use Rattle.norm_send_rules.specs.declared.fault.EnqueueFault.TheVariants as enqueue
use Rattle.norm_send_rules.specs.declared.fault.StreamFault.TheVariants as stream
use Rattle.norm_send_rules.specs.declared.fault.MarkFault.TheVariants as mark
use Rattle.norm_send_rules.specs.declared.fault.StrikeFault.TheVariants as strike
use Rattle.norm_send_rules.specs.declared.news.News.{News}
use Rattle.norm_send_rules.specs.declared.news.News.TheVariants as news
use Rattle.norm_send_rules.specs.declared.news.Outcome.{Outcome}
use Rattle.norm_send_rules.specs.declared.news.Outcome.TheVariants as outcome
use Rattle.norm_journal.specs.declared.event.Event.{Event}
use Rattle.norm_journal.specs.declared.event.Event.TheVariants as event
use Rattle.norm_journal.specs.declared.totals.Totals.{Totals}
use Rattle.norm_journal.specs.Judged.{Judged}
use Rattle.norm_journal.specs.Totals.{CountsFit}
use Rattle.norm_journal.specs.Lines.{kind_of, quorum_of, reason_of}
use Rattle.norm_journal.specs.Printed.{instance_now, command_at, left_in, line_of}

-- A command enqueued an object, opened, wrote to or closed a stream, made a watermark with a quorum or without, began an
-- instance, or struck a receiver; it was refused for good. A receiver handed something up. A receiver is newly listed; a
-- watermark was satisfied, expired while these were left, or was cut. The summary.
pub data Said : Type 0 where
  Enqueued : (by : Origin) (instance index : ℕ) (kind : Kind) (len : ℕ) → Said
  Opened : (by : Origin) (instance index : ℕ) → Said
  Wrote : (by : Origin) (instance index offset len : ℕ) → Said
  Closed : (by : Origin) (instance index : ℕ) → Said
  Marked : (by : Origin) (instance number : ℕ) (at : Position) (quorum : Option ℕ) → Said
  Restarted : (by : Origin) (instance : ℕ) → Said
  Struck : (by : Origin) (node : ℕ) → Said
  Refused : (by : Origin) (fault : SendFault) → Said
  HandedUp : (node instance : ℕ) (up : Up) → Said
  Listed : (node instance : ℕ) (at : Position) → Said
  Satisfied : (number : ℕ) → Said
  Expired : (number : ℕ) (left : List ℕ) → Said
  Cut : (number : ℕ) → Said
  Summary : (totals : Totals) → Said

-- what a command's receipt says
abbrev pub receipt_said : Origin → ℕ → Verb → Receipt → Said
receipt_said by instance v (receipt.Object index len) = Enqueued by instance index (kind_of v) len
receipt_said by instance v (receipt.Opened index) = Opened by instance index
receipt_said by instance v (receipt.Wrote index offset len) = Wrote by instance index offset len
receipt_said by instance v (receipt.Closed index) = Closed by instance index
receipt_said by instance v (receipt.Mark number at) = Marked by instance number at (quorum_of v)
receipt_said by instance v (receipt.Restarted next) = Restarted by next
receipt_said by instance v (receipt.Struck node) = Struck by node

-- what is said of a command that was refused; of one that waits nothing is
abbrev pub refusal_said : Origin → SendFault → Option Said
refusal_said by fault = option_map (λ reason. Refused by fault) (reason_of fault)

-- what is said of what a command gave
abbrev pub gave_said : Origin → ℕ → Verb → Result Receipt SendFault → Option Said
gave_said by instance v (Ok receipt) = Some (receipt_said by instance v receipt)
gave_said by instance v (Err fault) = refusal_said by fault

-- what is said of a watermark's outcome; of an open one nothing is
abbrev pub done_said : ℕ → List ℕ → Outcome → Option Said
done_said number left (outcome.Open many) = None
done_said number left outcome.Satisfied = Some (Satisfied number)
done_said number left (outcome.Expired many) = Some (Expired number left)
done_said number left outcome.Cut = Some (Cut number)

-- what is said of a change
abbrev pub news_said : ℕ → List ℕ → News → Option Said
news_said instance left (news.Past node at) = Some (Listed node instance at)
news_said instance left (news.Done number outcome) = done_said number left outcome

-- what is said of an event, if anything is
abbrev pub said_of : Judged → Event → Option Said
said_of j (event.Job by job gave) = option_and_then (λ v. gave_said by (instance_now j) v gave) (command_at j.place)
said_of j (event.Length by name len fault) = refusal_said by fault
said_of j (event.Up node instance up) = Some (HandedUp node instance up)
said_of j (event.News news) = news_said (instance_now j) (left_in j news) news
said_of j event.End = Some (Summary j.totals)
said_of j _ = None

-- a number of 64 bits
abbrev pub Is64 : ℕ → Type 0
Is64 n = n < 2 ^ 64

-- a command's name has numbers of 64 bits
pub record OriginInRange (by : Origin) : Type 0 where
  pub producer : Is64 by.producer
  pub number : Is64 by.number

-- a position has numbers of 64 bits
pub record PositionInRange (at : Position) : Type 0 where
  pub index : Is64 at.index
  pub block : Is64 at.block
  pub symbol : Is64 at.symbol

-- octets are below 256, and their count is a number of 64 bits
pub record OctetsInRange (octets : List ℕ) : Type 0 where
  pub each : AreOctets octets
  pub count : Is64 (length octets)

-- a hand-up's numbers have 64 bits, and its octets are below 256
abbrev pub UpInRange : Up → Type 0
UpInRange (up.Object index kind info octets) = Is64 index × IfSome info OctetsInRange × OctetsInRange octets
UpInRange (up.StreamOpen index) = Is64 index
UpInRange (up.StreamBytes index offset octets) = Is64 index × Is64 offset × OctetsInRange octets
UpInRange (up.StreamEnd index) = Is64 index
UpInRange (up.Lost index) = Is64 index

-- a fault's number has 64 bits; one that is told by no line has none
abbrev pub FaultInRange : SendFault → Type 0
FaultInRange (send.Enqueue (enqueue.TooBig len)) = Is64 len
FaultInRange (send.Enqueue (enqueue.InfoTooBig len)) = Is64 len
FaultInRange (send.Enqueue (enqueue.StreamOpen index)) = Is64 index
FaultInRange (send.Enqueue (enqueue.Stream (stream.Spent octets))) = Is64 octets
FaultInRange (send.Mark (mark.Quorum q)) = Is64 q
FaultInRange (send.Strike (strike.NotMember node)) = Is64 node
FaultInRange (send.Strike (strike.LastMember node)) = Is64 node
FaultInRange (send.IdUsed instance) = Is64 instance
FaultInRange _ = ⊤

-- The numbers of what is said have 64 bits, and its octets are below 256, as the types of an event have them.
abbrev pub InRange : Said → Type 0
InRange (Enqueued by instance index kind len) = OriginInRange by × Is64 instance × Is64 index × Is64 len
InRange (Opened by instance index) = OriginInRange by × Is64 instance × Is64 index
InRange (Wrote by instance index offset len) = OriginInRange by × Is64 instance × Is64 index × Is64 offset × Is64 len
InRange (Closed by instance index) = OriginInRange by × Is64 instance × Is64 index
InRange (Marked by instance number at quorum) = OriginInRange by × Is64 instance × Is64 number × PositionInRange at × IfSome quorum Is64
InRange (Restarted by instance) = OriginInRange by × Is64 instance
InRange (Struck by node) = OriginInRange by × Is64 node
InRange (Refused by fault) = OriginInRange by × FaultInRange fault
InRange (HandedUp node instance up) = UpInRange up × Is64 node × Is64 instance
InRange (Listed node instance at) = Is64 node × Is64 instance × PositionInRange at
InRange (Satisfied number) = Is64 number
InRange (Expired number left) = Is64 number × All Is64 left
InRange (Cut number) = Is64 number
InRange (Summary totals) = CountsFit totals

-- Lines read back: an event has a line exactly where something is said of it, and two events with one line say the same, in
-- whichever states they come.
pub record LinesReadBack : Type 0 where
  pub printed : (j : Judged) (e : Event) → is_some (line_of j e) ≡ is_some (said_of j e)
  pub same : (j k : Judged) (e f : Event) (text : List ℕ) → IfSome (said_of j e) InRange → IfSome (said_of k f) InRange
      → line_of j e ≡ Some text → line_of k f ≡ Some text → said_of j e ≡ said_of k f
