-- What becomes of the first hand-up that waits, and of all of them, as the code answers it.
use Rattle.std.specs.Prelude.{ℕ, ◌≡◌, List, Option, None, Some, Result, Ok, Err}
use Rattle.norm_order.specs.declared.up.Up.{Up}
use Rattle.norm_send_rules.specs.declared.fault.SendFault.{SendFault}
use Rattle.norm_send_rules.specs.declared.job.Job.{Job}
use Rattle.norm_send_rules.specs.declared.job.Receipt.{Receipt}
use Rattle.norm_send_rules.specs.declared.job.Receipt.TheVariants.{Struck}
use Rattle.norm_relay.specs.Pumping.{Stop, Emptied, Crowded, Refused, Pumped, job_of, commands, passes}
use Rattle.norm_relay.specs.RelayKept.{RelayKept, Agrees, StandsFor, below, having}
use Rattle.norm_relay.specs.RelayState.{Relaying}
use Rattle.norm_relay.specs.declared.pumping.Enqueued.{Enqueued}
use Rattle.norm_relay.specs.declared.pumping.Lower.{Lower}
use Rattle.norm_relay.specs.declared.pumping.Offer.{Offer}
use Rattle.norm_relay.specs.declared.pumping.Offer.TheVariants as offer
use Rattle.norm_relay.specs.declared.pumping.Stop.{Stop as Ended}
use Rattle.norm_relay.specs.declared.pumping.Stop.TheVariants as ended
use Rattle.norm_relay.specs.declared.waiting.Waiting.{Waiting}
use Rattle.norm_relay.specs.declared.waiting.Waiting.TheVariants.{Given}

-- it is done with after this many jobs, or its job was refused
pub data Offered : Type 0 where
  Goes : (jobs : ℕ) (state : Relaying) → Offered
  Ends : (fault : SendFault) (state : Relaying) → Offered

-- a job of a hand-up was given, and answered so
abbrev pub answers : Up → Relaying → Result Receipt SendFault → Offered
answers u x (Ok receipt) = Goes 1 (passes u x)
answers u x (Err fault) = Ends fault x

-- a hand-up is offered as this job, or is none
abbrev pub offers_job : ℕ → Up → Relaying → Option Job → Offered
offers_job now u x None = Goes 0 (passes u x)
offers_job now u x (Some given) = answers u (commands now given x).0 (commands now given x).1

-- a hand-up is offered
abbrev pub offers : ℕ → Up → Relaying → Offered
offers now u x = offers_job now u x (job_of x.opened u)

-- the code answers an offer so, and agrees with the state that it led to
abbrev pub IsOffered : RelayKept → Lower → Waiting → Offer → Offered → Type 0
IsOffered k lower first said (Goes jobs x) = (said ≡ offer.Done jobs) × Agrees (below lower k) x
IsOffered k lower first said (Ends fault x) = (said ≡ offer.Refused first fault) × Agrees (below lower k) x

-- what a refusal gave back waits again
abbrev pub IsBack : Option Job → SendFault → Offer → Type 0
IsBack None fault said = ⊥
IsBack (Some given) fault said = said ≡ offer.Refused (Given given) fault

abbrev pub IsRefused : Option Job × SendFault → Offer → Type 0
IsRefused refusal said = IsBack refusal.0 refusal.1 said

-- why enqueuing ended
abbrev pub stop_of : Ended → Stop
stop_of ended.Emptied = Emptied
stop_of ended.Crowded = Crowded
stop_of (ended.Refused fault) = Refused fault

-- the code answers enqueuing so, and stands for the state that it led to
pub record IsEnqueued (k : RelayKept) (lower : Lower) (waiting : List Waiting) (said : Enqueued) (done : Pumped) : Type 0 where
  pub stands : StandsFor (having waiting (below lower k)) done.state
  pub jobs : said.jobs ≡ done.count
  pub stop : stop_of said.stop ≡ done.stop

-- an answer without its receipt
abbrev pub without_receipt : Result Receipt SendFault → Result (Unit {0}) SendFault
without_receipt (Ok receipt) = Ok tt
without_receipt (Err fault) = Err fault

-- the answer of a strike by what is told of it
abbrev pub given_struck : ℕ → Result (Unit {0}) SendFault → Result Receipt SendFault
given_struck node (Ok unit) = Ok (Struck node)
given_struck node (Err fault) = Err fault
