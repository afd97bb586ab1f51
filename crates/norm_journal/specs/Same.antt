-- Answers that are equal, as tests that compute.
use Rattle.std.specs.Prelude.{◌==◌, ◌&&◌, Bool, true, false, Option, None, Some, Result, Ok, Err}
use Rattle.std.specs.Option.{option_eq}
use Rattle.norm_base.specs.declared.kinds.Sent.{Sent}
use Rattle.norm_base.specs.declared.kinds.Sent.TheVariants as sent
use Rattle.fec_plan.specs.Points.{same_position}
use Rattle.norm_ext.specs.Written.{Written}
use Rattle.norm_send_rules.specs.declared.job.Receipt.{Receipt}
use Rattle.norm_send_rules.specs.declared.job.Receipt.TheVariants as receipt
use Rattle.norm_send_rules.specs.declared.fault.EnqueueFault.{EnqueueFault}
use Rattle.norm_send_rules.specs.declared.fault.EnqueueFault.TheVariants as enqueue
use Rattle.norm_send_rules.specs.declared.fault.MarkFault.{MarkFault}
use Rattle.norm_send_rules.specs.declared.fault.MarkFault.TheVariants as mark
use Rattle.norm_send_rules.specs.declared.fault.StreamFault.{StreamFault}
use Rattle.norm_send_rules.specs.declared.fault.StreamFault.TheVariants as stream
use Rattle.norm_send_rules.specs.declared.fault.StrikeFault.{StrikeFault}
use Rattle.norm_send_rules.specs.declared.fault.StrikeFault.TheVariants as strike
use Rattle.norm_send_rules.specs.declared.fault.SendFault.{SendFault}
use Rattle.norm_send_rules.specs.declared.fault.SendFault.TheVariants as send
use Rattle.norm_send_rules.specs.declared.news.News.{News}
use Rattle.norm_send_rules.specs.declared.news.News.TheVariants as news
use Rattle.norm_safety.specs.Events.{Answer, Gave, Took, Told, Silent}
use Rattle.norm_safety.specs.Fronts.{same_up}
use Rattle.norm_safety.specs.SatisfiedExactly.{same_outcome}

-- two receipts
abbrev pub same_receipt : Receipt → Receipt → Bool
same_receipt (receipt.Object i len) (receipt.Object j octets) = i == j && len == octets
same_receipt (receipt.Opened i) (receipt.Opened j) = i == j
same_receipt (receipt.Wrote i offset len) (receipt.Wrote j other octets) = i == j && offset == other && len == octets
same_receipt (receipt.Closed i) (receipt.Closed j) = i == j
same_receipt (receipt.Mark m at) (receipt.Mark n there) = m == n && same_position at there
same_receipt (receipt.Restarted i) (receipt.Restarted j) = i == j
same_receipt (receipt.Struck a) (receipt.Struck b) = a == b
same_receipt _ _ = false

-- two faults of a stream
abbrev pub same_stream : StreamFault → StreamFault → Bool
same_stream stream.Closed stream.Closed = true
same_stream (stream.Spent a) (stream.Spent b) = a == b
same_stream (stream.Full a) (stream.Full b) = a == b
same_stream _ _ = false

-- two faults of enqueuing
abbrev pub same_enqueue : EnqueueFault → EnqueueFault → Bool
same_enqueue enqueue.Empty enqueue.Empty = true
same_enqueue (enqueue.TooBig a) (enqueue.TooBig b) = a == b
same_enqueue (enqueue.InfoTooBig a) (enqueue.InfoTooBig b) = a == b
same_enqueue (enqueue.StreamOpen a) (enqueue.StreamOpen b) = a == b
same_enqueue enqueue.NoStream enqueue.NoStream = true
same_enqueue enqueue.IdsSpent enqueue.IdsSpent = true
same_enqueue (enqueue.Stream a) (enqueue.Stream b) = same_stream a b
same_enqueue (enqueue.WindowFull a) (enqueue.WindowFull b) = a == b
same_enqueue enqueue.Memory enqueue.Memory = true
same_enqueue _ _ = false

-- two faults of a mark
abbrev pub same_mark : MarkFault → MarkFault → Bool
same_mark (mark.Quorum a) (mark.Quorum b) = a == b
same_mark mark.NothingEnqueued mark.NothingEnqueued = true
same_mark (mark.TooMany a) (mark.TooMany b) = a == b
same_mark mark.Memory mark.Memory = true
same_mark _ _ = false

-- two faults of a strike
abbrev pub same_strike : StrikeFault → StrikeFault → Bool
same_strike (strike.NotMember a) (strike.NotMember b) = a == b
same_strike (strike.LastMember a) (strike.LastMember b) = a == b
same_strike _ _ = false

-- two faults of a sender
abbrev pub same_fault : SendFault → SendFault → Bool
same_fault (send.Enqueue a) (send.Enqueue b) = same_enqueue a b
same_fault (send.Mark a) (send.Mark b) = same_mark a b
same_fault (send.Strike a) (send.Strike b) = same_strike a b
same_fault (send.IdUsed a) (send.IdUsed b) = a == b
same_fault send.Memory send.Memory = true
same_fault _ _ = false

-- what two commands gave
abbrev pub same_gave : Result Receipt SendFault → Result Receipt SendFault → Bool
same_gave (Ok a) (Ok b) = same_receipt a b
same_gave (Err a) (Err b) = same_fault a b
same_gave _ _ = false

-- two changes
abbrev pub same_news : News → News → Bool
same_news (news.Past a at) (news.Past b there) = a == b && same_position at there
same_news (news.Done a o) (news.Done b p) = a == b && same_outcome o p
same_news _ _ = false

-- two answers, but for datagrams
abbrev pub same_answer : Answer → Answer → Bool
same_answer (Gave a) (Gave b) = same_gave a b
same_answer (Took a) (Took b) = option_eq same_up a b
same_answer (Told a) (Told b) = option_eq same_news a b
same_answer Silent Silent = true
same_answer _ _ = false

-- a tick gave a datagram or none
abbrev pub same_sent : Sent → Option Written → Bool
same_sent sent.Nothing None = true
same_sent sent.Datagram (Some datagram) = true
same_sent _ _ = false
