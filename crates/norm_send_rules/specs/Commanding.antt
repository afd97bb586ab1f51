-- What a command does to a sender, and what it answers.
use Rattle.std.specs.Prelude.{Some, Result, Ok, Err}
use Rattle.norm_base.specs.Settings.{Settings}
use Rattle.norm_base.specs.declared.kinds.Kind.TheVariants as kind
use Rattle.norm_base.specs.declared.node.Origin.{Origin}
use Rattle.norm_send_rules.specs.SenderState.{SenderState}
use Rattle.norm_send_rules.specs.Enqueuing.{enqueued}
use Rattle.norm_send_rules.specs.Streaming.{opened, wrote, closed}
use Rattle.norm_send_rules.specs.Marking.{marked}
use Rattle.norm_send_rules.specs.Restarting.{restarted}
use Rattle.norm_send_rules.specs.Striking.{strikes}
use Rattle.norm_send_rules.specs.declared.job.Job.{Job}
use Rattle.norm_send_rules.specs.declared.job.Job.TheVariants as job
use Rattle.norm_send_rules.specs.declared.job.Receipt.{Receipt}
use Rattle.norm_send_rules.specs.declared.fault.SendFault.{SendFault}
use Rattle.norm_send_rules.specs.declared.fault.SendFault.TheVariants.{Enqueue, Mark, Strike}

-- a fault of a part, as the sender's
abbrev pub refused_as : {E : Type 0} → (E → SendFault) → Result Receipt E → Result Receipt SendFault
refused_as word (Ok receipt) = Ok receipt
refused_as word (Err fault) = Err (word fault)

-- a part's step, as the sender's
abbrev pub answered : {E : Type 0} → (E → SendFault) → SenderState × Result Receipt E → SenderState × Result Receipt SendFault
answered word step = (step.0, refused_as word step.1)

-- A file's info is its name.
abbrev pub commanded : Settings → SenderState → Origin → Job → SenderState × Result Receipt SendFault
commanded p s by (job.Data info bytes) = answered Enqueue (enqueued p s by kind.Data info bytes)
commanded p s by (job.File name bytes) = answered Enqueue (enqueued p s by kind.File (Some name) bytes)
commanded p s by job.Open = answered Enqueue (opened p s by)
commanded p s by (job.Write bytes) = answered Enqueue (wrote p s by bytes)
commanded p s by job.Close = answered Enqueue (closed p s)
commanded p s by (job.Mark quorum) = answered Mark (marked p s by quorum)
commanded p s by (job.Restart instance) = restarted s instance
commanded p s by (job.Strike node) = answered Strike (strikes s node)
