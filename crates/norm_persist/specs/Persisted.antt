-- What the judge of a run that persists knows beside the judge of journals, and what an event changes in it.
use Rattle.std.specs.Prelude.{ℕ, ◌+◌, ◌==◌, ◌&&◌, ◌||◌, not, List, length, map, Bool, true, false, nat_le, Option, None, is_some, Result, Ok}
use Rattle.norm_base.specs.declared.node.Origin.{Origin}
use Rattle.norm_script.specs.Commands.{Commands}
use Rattle.norm_send_rules.specs.declared.job.Job.{Job}
use Rattle.norm_send_rules.specs.declared.fault.SendFault.{SendFault}
use Rattle.norm_send_rules.specs.declared.job.Receipt.{Receipt}
use Rattle.norm_send_rules.specs.declared.job.Receipt.TheVariants as receipt
use Rattle.norm_send_rules.specs.declared.news.News.TheVariants as news
use Rattle.norm_send_rules.specs.declared.news.Outcome.TheVariants as outcome
use Rattle.norm_journal.specs.declared.event.Event.{Event}
use Rattle.norm_journal.specs.declared.event.Event.TheVariants as event
use Rattle.norm_journal.specs.Jobs.{Told}
use Rattle.norm_journal.specs.Judged.{Judged, judged_opening, is_whole}
use Rattle.norm_journal.specs.Places.{Place, Sending}
use Rattle.norm_journal.specs.Printed.{left_of}
use Rattle.norm_persist.specs.declared.account.Account.{Account}
use Rattle.norm_persist.specs.Accounts.{accounts_of, begun_anew, excused_by, risen, passed_by, lacks, last_position}
use Rattle.norm_persist.specs.Persisting.{own_job, one_lacks, all_silent}

-- The judge's state; after how many marks a member is given up, if that was asked for; the accounts of all receivers; how many own
-- commands were made, the turn of the last one, and the number of the last own mark, or 0. That is the only own mark that can be open: one is
-- made only if none is (`own_have_reasons`).
pub record Persisted : Type 0 where
  pub judged : Judged
  pub give_up : Option ℕ
  pub accounts : List Account
  pub own : ℕ
  pub own_turn : ℕ
  pub own_mark : ℕ

-- as the run of a script with these receivers begins
abbrev pub persisted_opening : Commands → Told → List ℕ → Option ℕ → Persisted
persisted_opening script files nodes give_up = record {
  judged = judged_opening script files nodes;
  give_up = give_up;
  accounts = accounts_of script.profile;
  own = 0;
  own_turn = 0;
  own_mark = 0;
}

-- Producers are numbered from 1 on. Commands of producer 0 are the run's own.
abbrev pub is_own : Origin → Bool
is_own by = by.producer == 0

-- the number of the last own mark, after an own command was answered so
abbrev pub mark_after : Result Receipt SendFault → ℕ → ℕ
mark_after (Ok (receipt.Mark number at)) last = number
mark_after _ last = last

-- the accounts after an event
abbrev pub accounts_after : Judged → Event → List Account → List Account
accounts_after j (event.News (news.Past node at)) accounts = map (risen node at) accounts
accounts_after j (event.News (news.Done number (outcome.Expired many))) accounts = map (passed_by (left_of j number)) accounts
accounts_after j (event.Job by job (Ok (receipt.Restarted instance))) accounts = map begun_anew accounts
accounts_after j (event.Job by job (Ok (receipt.Struck node))) accounts = elim (is_own by) [ true ↦ accounts | false ↦ map (excused_by node) accounts ]
accounts_after j _ accounts = accounts

-- an event led the judge to this state
abbrev pub led_to : Persisted → Event → Judged → Persisted
led_to x e next = record x { judged = next; accounts = accounts_after x.judged e x.accounts }

-- the script has stopped: a command of it waits, or all were pulled
abbrev pub has_stopped : Judged → Bool
has_stopped j = is_some j.waiting || length j.left == 0

-- the sender's tick is due
abbrev pub is_sending : Place → Bool
is_sending Sending = true
is_sending _ = false

-- A turn makes at most one own command, after its command of the script and before the sender's tick.
abbrev pub may_own : Persisted → Bool
may_own x = is_sending x.judged.place && not (x.own_turn == x.judged.turn)

-- a job, unless there is none now
abbrev pub job_unless : Bool → Option Job → Option Job
job_unless true due = None
job_unless false due = due

-- the own command that is due
abbrev pub own_due : Persisted → Option Job
own_due x = elim (may_own x) [
  | true ↦ own_job x.judged.profile x.judged.world.sender x.give_up (has_stopped x.judged) x.accounts
  | false ↦ None
]

-- the name of the own command after so many
abbrev pub name_after : ℕ → Origin
name_after own = record { producer = 0; number = own + 1 }

-- the name of the next own command
abbrev pub own_name : Persisted → Origin
own_name x = name_after x.own

-- the run is whole: nothing is left to do, and no member lacks anything
abbrev pub is_complete : Persisted → Bool
is_complete x = is_whole x.judged && not (one_lacks x.judged.profile x.judged.world.sender x.accounts)

-- the run is given up: every member is silent
abbrev pub is_given_up : Persisted → Bool
is_given_up x = all_silent x.give_up x.judged.world.sender x.accounts

-- the last turn of any run
abbrev pub most_turns : ℕ
most_turns = 4294967295

-- The last turn was done: the first after which the run is whole or given up. The profile's number of turns does not end it.
abbrev pub is_over : Persisted → Bool
is_over x = nat_le 1 x.judged.turn && (is_complete x || is_given_up x || x.judged.turn == most_turns)

-- a receiver lacks something, after all that was enqueued in the current instance
abbrev pub lacks_now : Persisted → Account → Bool
lacks_now x a = lacks (last_position x.judged.profile x.judged.world.sender) a
