-- Commands in a turn: a pull gives the next one, and it is offered to the sender, again in each turn while it has to wait.
use Rattle.std.specs.Prelude.{ℕ, ◌&&◌, List, true, false, Option, None, Some, Result, Ok, Err, option_and_then}
use Rattle.std.specs.Option.{option_map}
use Rattle.norm_base.specs.declared.node.Origin.{Origin}
use Rattle.norm_script.specs.declared.script.Line.{Line}
use Rattle.norm_send_rules.specs.declared.job.Job.{Job}
use Rattle.norm_send_rules.specs.declared.job.Receipt.{Receipt}
use Rattle.norm_send_rules.specs.declared.fault.SendFault.{SendFault}
use Rattle.norm_send_rules.specs.Waiting.{may_wait}
use Rattle.norm_safety.specs.Events.{Commanded, Gave}
use Rattle.norm_safety.specs.Lawful.{same_origin}
use Rattle.norm_journal.specs.InWorld.{comes}
use Rattle.norm_journal.specs.Jobs.{job_of, is_job_of, is_read, is_file_of, is_length, file_of_length}
use Rattle.norm_journal.specs.Judged.{Judged}
use Rattle.norm_journal.specs.Places.{Place, Pulling, Giving, Again, Sending}
use Rattle.norm_journal.specs.Pulling.{pulled, origin_of}
use Rattle.norm_journal.specs.Totals.{with_gave}

-- the line whose command waits after this answer: where the sender only has no room for it yet
abbrev pub waiting_after : Line → Result Receipt SendFault → Option Line
waiting_after line (Ok receipt) = None
waiting_after line (Err fault) = elim (may_wait fault) [ true ↦ Some line | false ↦ None ]

-- a line's command was offered, and gave this
abbrev pub offered : Line → Result Receipt SendFault → Judged → Judged
offered line gave j = record j { waiting = waiting_after line gave; totals = with_gave gave j.totals; place = Sending }

-- a line's command is offered to the sender
abbrev pub offers : Line → Origin → Job → Result Receipt SendFault → Judged → Option Judged
offers line by job gave j = option_map (offered line gave) (comes (Commanded by job j.now) (Gave gave) j)

-- the line that was pulled left its producer, and its command is to be offered
abbrev pub line_pulled : Judged → Line × List Line → Judged
line_pulled j found = record j { left = found.1; place = Giving found.0 }

-- a pull
abbrev pub pulls_at : Place → Judged → Origin → Option Judged
pulls_at Pulling j by = option_map (line_pulled j) (pulled by j.left)
pulls_at _ j by = None

-- the line whose command is offered and told what it is: the first time, and a file each time
abbrev pub telling : Place → Option Line
telling (Giving line) = Some line
telling (Again line) = elim (job_of line.verb) [ Some job ↦ None | None ↦ Some line ]
telling _ = None

-- the line whose command is offered again, and the job that was told
abbrev pub repeating : Place → Option (Line × Job)
repeating (Again line) = option_map (λ job. (line, job)) (job_of line.verb)
repeating _ = None

-- an offer of a line's command, with its job
abbrev pub gives : Line → Origin → Job → Result Receipt SendFault → Judged → Option Judged
gives line by job gave j = elim (same_origin (origin_of line) by && is_job_of j.files line.verb job && is_read job gave) [
  | true ↦ offers line by job gave j
  | false ↦ None
]

-- another offer of a command that had to wait, whose job is known
abbrev pub repeats : Line × Job → Origin → Result Receipt SendFault → Judged → Option Judged
repeats known by gave j = elim (same_origin (origin_of known.0) by) [ true ↦ offers known.0 by known.1 gave j | false ↦ None ]

-- an offer of a command
abbrev pub jobs_at : Place → Judged → Origin → Option Job → Result Receipt SendFault → Option Judged
jobs_at place j by (Some job) gave = option_and_then (λ line. gives line by job gave j) (telling place)
jobs_at place j by None gave = option_and_then (λ known. repeats known by gave j) (repeating place)

-- a file that is refused for its name and its length
abbrev pub refuses : Line → Origin → List ℕ → ℕ → SendFault → Judged → Option Judged
refuses line by name len fault j = elim (same_origin (origin_of line) by && is_file_of line.verb name && is_length j.files name len) [
  | true ↦ offers line by (file_of_length name len) (Err fault) j
  | false ↦ None
]

-- an offer of a file whose octets are not read
abbrev pub lengths_at : Place → Judged → Origin → List ℕ → ℕ → SendFault → Option Judged
lengths_at place j by name len fault = option_and_then (λ line. refuses line by name len fault j) (telling place)
