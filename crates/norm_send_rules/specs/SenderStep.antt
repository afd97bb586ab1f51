-- A step of a sender: what happens to it, and what it answers.
use Rattle.std.specs.Prelude.{ℕ, List, Option, Result}
use Rattle.norm_base.specs.Settings.{Settings}
use Rattle.norm_base.specs.declared.node.Origin.{Origin}
use Rattle.norm_ext.specs.Written.{Written}
use Rattle.norm_send_rules.specs.SenderState.{SenderState}
use Rattle.norm_send_rules.specs.Commanding.{commanded}
use Rattle.norm_send_rules.specs.Hearing.{heard}
use Rattle.norm_send_rules.specs.Ticking.{ticked}
use Rattle.norm_send_rules.specs.Telling.{told}
use Rattle.norm_send_rules.specs.declared.job.Job.{Job}
use Rattle.norm_send_rules.specs.declared.job.Receipt.{Receipt}
use Rattle.norm_send_rules.specs.declared.fault.SendFault.{SendFault}
use Rattle.norm_send_rules.specs.declared.news.News.{News}

-- what happens to a sender: a command, a datagram, a tick, or its news are asked for
pub data SenderEvent : Type 0 where
  Commanded : (by : Origin) (job : Job) (now : ℕ) → SenderEvent
  Delivered : (datagram : List ℕ) (now : ℕ) → SenderEvent
  Ticked : (now : ℕ) → SenderEvent
  NewsAsked : SenderEvent

-- what it answers: a receipt or a fault, nothing, a datagram or none, news or none
pub data SenderAnswer : Type 0 where
  Answered : (gave : Result Receipt SendFault) → SenderAnswer
  Silent : SenderAnswer
  Sent : (datagram : Option Written) → SenderAnswer
  Told : (news : Option News) → SenderAnswer

-- a step's state and answer, the answer under its word
abbrev pub answer_as : {A : Type 0} → (A → SenderAnswer) → SenderState × A → SenderState × SenderAnswer
answer_as word step = (step.0, word step.1)

-- A step of the sender is a function of its state and of what happens (RFC 5740 section 5.1).
abbrev pub sender_step : Settings → SenderState → SenderEvent → SenderState × SenderAnswer
sender_step p s (Commanded by job now) = answer_as Answered (commanded p s by job)
sender_step p s (Delivered datagram now) = (heard p s datagram now, Silent)
sender_step p s (Ticked now) = answer_as Sent (ticked p s now)
sender_step p s NewsAsked = answer_as Told (told s)
