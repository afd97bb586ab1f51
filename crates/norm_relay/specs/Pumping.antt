-- What a relay enqueues below of what it was handed up above, and when it asks the members below to confirm it.
use Rattle.std.specs.Prelude.{ℕ, suc, ◌+◌, ◌%◌, List, [], ◌∷◌, ◌++◌, Bool, true, false, is_none, Option, None, Some, Result, Ok, Err}
use Rattle.norm_base.specs.declared.kinds.Kind.{Kind}
use Rattle.norm_base.specs.declared.kinds.Kind.TheVariants as kind
use Rattle.fec_plan.specs.declared.position.Position.{Position}
use Rattle.norm_ext.specs.Written.{Written}
use Rattle.norm_order.specs.declared.up.Up.{Up}
use Rattle.norm_order.specs.declared.up.Up.TheVariants as up
use Rattle.norm_send_rules.specs.Waiting.{may_wait}
use Rattle.norm_send_rules.specs.Watermarks.{all_past, oldest}
use Rattle.norm_send_rules.specs.declared.fault.SendFault.{SendFault}
use Rattle.norm_send_rules.specs.declared.fault.SendFault.TheVariants as fault
use Rattle.norm_send_rules.specs.declared.job.Job.{Job}
use Rattle.norm_send_rules.specs.declared.job.Job.TheVariants as job
use Rattle.norm_send_rules.specs.declared.job.Receipt.{Receipt}
use Rattle.norm_send_rules.specs.declared.job.Receipt.TheVariants as receipt
use Rattle.norm_safety.specs.Events.{Answer, Gave, Commanded}
use Rattle.norm_relay.specs.Flat.{leaves_open}
use Rattle.norm_relay.specs.Sides.{happens_in}
use Rattle.norm_relay.specs.RelayState.{Relaying, Pledge, next_origin, lower_instance}

-- an object as a job: a file if it is one and has a name
abbrev pub object_job : Kind → Option (List ℕ) → List ℕ → Job
object_job kind.File (Some name) bytes = job.File name bytes
object_job kind.File None bytes = job.Data None bytes
object_job kind.Data info bytes = job.Data info bytes

-- A hand-up as a job. A loss ends a stream that is open. Any other loss is nothing.
abbrev pub job_of : Bool → Up → Option Job
job_of opened (up.Object index kind info bytes) = Some (object_job kind info bytes)
job_of opened (up.StreamOpen index) = Some job.Open
job_of opened (up.StreamBytes index offset bytes) = Some (job.Write bytes)
job_of opened (up.StreamEnd index) = Some job.Close
job_of true (up.Lost index) = Some job.Close
job_of false (up.Lost index) = None

-- what a job was answered
abbrev pub gave : Answer → Result Receipt SendFault
gave (Gave result) = result
gave _ = Err fault.Memory

-- an accepted job counts
abbrev pub counts : Result Receipt SendFault → ℕ → ℕ
counts (Ok receipt) jobs = jobs + 1
counts (Err fault) jobs = jobs

-- why a job was refused, if it was
abbrev pub fault_of : Result Receipt SendFault → Option SendFault
fault_of (Ok receipt) = None
fault_of (Err fault) = Some fault

-- a job is given to the lower sender
abbrev pub commands : ℕ → Job → Relaying → Relaying × Result Receipt SendFault
commands now job x =
    let step = happens_in x.lower (Commanded (next_origin x) job now) in
    (record x { lower = step.0; jobs = counts (gave step.1) x.jobs }, gave step.1)

-- a hand-up is done with
abbrev pub passes : Up → Relaying → Relaying
passes u x = record x { done = x.done ++ u ∷ []; opened = leaves_open u }

-- why enqueuing ended: nothing waits any more, the lower session has no room yet, or it refused a job for good
pub data Stop : Type 0 where
  Emptied : Stop
  Crowded : Stop
  Refused : (fault : SendFault) → Stop

-- what enqueuing led to, how many jobs were accepted, and why it ended
pub record Pumped : Type 0 where
  pub state : Relaying
  pub count : ℕ
  pub stop : Stop

-- it ends before these hand-ups
abbrev pub stops : Stop → List Up → Relaying → Pumped
stops stop ups x = record { state = record x { waiting = ups }; count = 0; stop = stop }

-- a fault ends it
abbrev pub stop_by : SendFault → Stop
stop_by fault = elim (may_wait fault) [ true ↦ Crowded | false ↦ Refused fault ]

-- one more was accepted
abbrev pub one_more : Pumped → Pumped
one_more done = record done { count = suc done.count }

-- Hand-ups are enqueued in order for as long as the lower session takes them.
unfoldable pub enqueues : ℕ → List Up → Relaying → Pumped
enqueues now [] x = stops Emptied [] x
enqueues now (u ∷ ups) x = elim (job_of x.opened u) [
  | None ↦ enqueues now ups (passes u x)
  | Some job ↦ let step = commands now job x in elim step.1 [
    | Ok receipt ↦ one_more (enqueues now ups (passes u step.0))
    | Err fault ↦ stops (stop_by fault) (u ∷ ups) step.0
  ]
]

-- the lower session began anew, and nothing of this upper instance is enqueued yet
abbrev pub anew_is_done : Relaying → Relaying
anew_is_done x = record x { anew = false; done = []; opened = false }

-- the job by which the lower session begins anew: the next id, modulo 65,536
abbrev pub restart_job : Relaying → Job
restart_job x = job.Restart ((lower_instance x + 1) % 65536)

-- If the upper session began anew, the lower one does first.
abbrev pub begins_anew : ℕ → Relaying → Relaying × Option SendFault
begins_anew now x = elim x.anew [
  | false ↦ (x, None)
  | true ↦ let step = commands now (restart_job x) x in elim step.1 [
    | Ok receipt ↦ (anew_is_done step.0, None)
    | Err fault ↦ (step.0, Some fault)
  ]
]

-- what waits is enqueued, unless the lower session could not begin anew
abbrev pub enqueues_first : ℕ → Relaying × Option SendFault → Pumped
enqueues_first now step = elim step.1 [
  | None ↦ enqueues now (step.0).waiting step.0
  | Some fault ↦ stops (Refused fault) (step.0).waiting step.0
]

-- the position of a mark's receipt
abbrev pub mark_position : Receipt → Option Position
mark_position (receipt.Mark mark at) = Some at
mark_position _ = None

-- an acknowledgement has a watermark now
abbrev pub pledges : Written → Position → Relaying → Relaying
pledges datagram at x = record x { unmarked = None; pledge = Some (record { datagram = datagram; at = at }) }

-- the acknowledgement that a watermark was made for has that one now; if none was made, nothing changes
abbrev pub with_pledge : Written → Result Receipt SendFault → Relaying → Relaying
with_pledge datagram (Ok receipt) x = elim (mark_position receipt) [ Some at ↦ pledges datagram at x | None ↦ x ]
with_pledge datagram (Err fault) x = x

-- a mark without a quorum is given to the lower sender
abbrev pub marks : ℕ → Relaying → Relaying × Result Receipt SendFault
marks now x = commands now (job.Mark None) x

-- a mark is made for room alone
abbrev pub marks_for_room : ℕ → Relaying → Relaying × Option SendFault
marks_for_room now x = let step = marks now x in (step.0, fault_of step.1)

-- a mark is made for an acknowledgement
abbrev pub marks_for : ℕ → Written → Relaying → Relaying × Option SendFault
marks_for now datagram x = let step = marks now x in (with_pledge datagram step.1 step.0, fault_of step.1)

-- every member below is listed past the watermark of an acknowledgement
abbrev pub is_met : Relaying → Pledge → Bool
is_met x pledge = all_past x.lower.world.sender pledge.at

-- an acknowledgement whose watermark ended unmet gets another one
abbrev pub marks_again : ℕ → Relaying → Relaying × Option SendFault
marks_again now x = elim x.pledge [
  | Some pledge ↦ elim (is_met x pledge) [ true ↦ (x, None) | false ↦ marks_for now pledge.datagram x ]
  | None ↦ (x, None)
]

-- no watermark is open below
abbrev pub asks_nothing : Relaying → Bool
asks_nothing x = is_none (oldest x.lower.world.sender)

-- What a relay asks the members below once it enqueued what it could, if no watermark is open: to confirm all of it, if an
-- acknowledgement waits for that, or if there is no room for what waits. Why the mark was refused, if it was.
abbrev pub asks_for : ℕ → Stop → Relaying → Relaying × Option SendFault
asks_for now Emptied x = elim x.unmarked [ Some datagram ↦ marks_for now datagram x | None ↦ marks_again now x ]
asks_for now Crowded x = marks_for_room now x
asks_for now (Refused fault) x = (x, None)

-- it asks if no watermark is open
abbrev pub asks : ℕ → Stop → Relaying → Relaying × Option SendFault
asks now stop x = elim (asks_nothing x) [ true ↦ asks_for now stop x | false ↦ (x, None) ]

-- what a job or a mark that was refused is told as
abbrev pub told_unless : ℕ → Option SendFault → Result ℕ SendFault
told_unless count None = Ok count
told_unless count (Some fault) = Err fault

-- what is told of a pump: how many jobs were accepted, or why one was refused for good, or a mark was
abbrev pub told_of : ℕ → Stop → Option SendFault → Result ℕ SendFault
told_of count Emptied refused = told_unless count refused
told_of count Crowded refused = told_unless count refused
told_of count (Refused fault) refused = Err fault

-- once what waits was enqueued, the members below are asked
abbrev pub finishes : ℕ → Pumped → Relaying × Result ℕ SendFault
finishes now done =
    let asked = asks now done.stop done.state in
    (asked.0, told_of done.count done.stop asked.1)

-- A pump: the lower session begins anew if it has to, what waits is enqueued, and the members below are asked.
abbrev pub pumped : ℕ → Relaying → Relaying × Result ℕ SendFault
pumped now x = finishes now (enqueues_first now (begins_anew now x))
