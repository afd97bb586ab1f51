-- What a sender may be asked to do, what it answers, and what a refusal gives back.
use Rattle.std.specs.Prelude.{ℕ, ◌≡◌, ◌≢◌, ◌⊎◌, Option, None, Some, Result, Ok, Err, IfErr}
use Rattle.norm_base.specs.declared.node.Origin.{Origin}
use Rattle.norm_send_rules.specs.SenderState.{SenderState}
use Rattle.norm_send_rules.specs.Commanding.{commanded}
use Rattle.norm_send_rules.specs.declared.job.Job.{Job}
use Rattle.norm_send_rules.specs.declared.job.Job.TheVariants.{Open, Mark}
use Rattle.norm_send_rules.specs.declared.job.Receipt.{Receipt}
use Rattle.norm_send_rules.specs.declared.fault.EnqueueFault.{EnqueueFault}
use Rattle.norm_send_rules.specs.declared.fault.EnqueueFault.TheVariants.{Memory as NoRoom}
use Rattle.norm_send_rules.specs.declared.fault.MarkFault.{MarkFault}
use Rattle.norm_send_rules.specs.declared.fault.MarkFault.TheVariants.{Memory as NoMemory}
use Rattle.norm_send_rules.specs.declared.fault.SendFault.{SendFault}
use Rattle.norm_send_rules.specs.declared.fault.SendFault.TheVariants.{Enqueue, Mark as MarkRefused, Memory}
use Rattle.norm_sender.specs.SenderKept.{SenderKept, Agrees}

-- an answer, without what a refusal gives back
abbrev pub answer_of : {X : Type 0} → Result Receipt (Option X × SendFault) → Result Receipt SendFault
answer_of (Ok receipt) = Ok receipt
answer_of (Err refusal) = Err refusal.1

-- what was given comes back exactly where memory was not what lacked
abbrev pub GivesBack : {X : Type 0} → X → Option X × SendFault → Type 0
GivesBack given refusal = ((refusal.1 ≡ Memory) × (refusal.0 ≡ None)) ⊎ ((refusal.1 ≢ Memory) × (refusal.0 ≡ Some given))

-- what a refused opening is answered
abbrev pub open_refusal : EnqueueFault → Option Job × SendFault
open_refusal NoRoom = (None, Memory)
open_refusal fault = (Some Open, Enqueue fault)

-- what a refused mark is answered
abbrev pub mark_refusal : Option ℕ → MarkFault → Option Job × SendFault
mark_refusal quorum NoMemory = (None, Memory)
mark_refusal quorum fault = (Some (Mark quorum), MarkRefused fault)

-- A command does and answers what the rules say, or is refused for want of memory; then the sender is as it was.
pub record Obeys (old new : SenderKept) (job : Job) (result : Result Receipt (Option Job × SendFault)) : Type 0 where
  pub stands : (s : SenderState) (by : Origin) → Agrees old s → answer_of result ≢ Err Memory
      → Agrees new (commanded old.p s by job).0 × (answer_of result ≡ (commanded old.p s by job).1)
  pub back : IfErr result (λ refusal. GivesBack job refusal)
  pub memory : answer_of result ≡ Err Memory → new ≡ old
