-- Hand-ups as they wait for the session below: as the jobs that they become.
use Rattle.std.specs.Prelude.{Bool, true, false, Option, None, Some}
use Rattle.norm_order.specs.declared.up.Up.{Up}
use Rattle.norm_order.specs.declared.up.Up.TheVariants as up
use Rattle.norm_send_rules.specs.declared.job.Job.{Job}
use Rattle.norm_send_rules.specs.declared.job.Job.TheVariants as job
use Rattle.norm_relay.specs.Pumping.{object_job}
use Rattle.norm_relay.specs.declared.waiting.Waiting.{Waiting}
use Rattle.norm_relay.specs.declared.waiting.Waiting.TheVariants.{Given, Lost}

-- a hand-up, as it waits
abbrev pub waiting_of : Up → Waiting
waiting_of (up.Object index kind info bytes) = Given (object_job kind info bytes)
waiting_of (up.StreamOpen index) = Given job.Open
waiting_of (up.StreamBytes index offset bytes) = Given (job.Write bytes)
waiting_of (up.StreamEnd index) = Given job.Close
waiting_of (up.Lost index) = Lost index

-- What waits, as a job. A loss is one only if a stream is open.
abbrev pub job_at : Bool → Waiting → Option Job
job_at opened (Given given) = Some given
job_at true (Lost index) = Some job.Close
job_at false (Lost index) = None

-- a stream is open after a job of a hand-up
abbrev pub job_opens : Job → Bool
job_opens job.Open = true
job_opens (job.Write bytes) = true
job_opens _ = false

-- a stream is open after what waits
abbrev pub opens : Waiting → Bool
opens (Given given) = job_opens given
opens (Lost index) = false
