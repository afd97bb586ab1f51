-- The rule of a run that persists: when it makes a command of its own, and when it ends.
use Rattle.std.specs.Prelude.{ℕ, ◌==◌, ◌&&◌, List, length, find, Bool, true, false, Option, None, Some}
use Rattle.std.specs.List.{list_all, list_any}
use Rattle.norm_base.specs.Settings.{Settings}
use Rattle.norm_send_rules.specs.SenderState.{SenderState}
use Rattle.norm_send_rules.specs.Ticking.{is_idle}
use Rattle.norm_send_rules.specs.Watermarks.{open_watermarks}
use Rattle.norm_send_rules.specs.declared.job.Job.{Job}
use Rattle.norm_send_rules.specs.declared.job.Job.TheVariants as job
use Rattle.norm_persist.specs.declared.account.Account.{Account}
use Rattle.norm_persist.specs.Accounts.{last_position, lacks, is_silent, of_members}

-- some member lacks something
abbrev pub one_lacks : Settings → SenderState → List Account → Bool
one_lacks p s accounts = list_any (lacks (last_position p s)) (of_members s accounts)

-- every member is silent
abbrev pub all_silent : Option ℕ → SenderState → List Account → Bool
all_silent give_up s accounts = list_all (is_silent give_up) (of_members s accounts)

-- the silent member with the lowest id
abbrev pub first_silent : Option ℕ → SenderState → List Account → Option Account
first_silent give_up s accounts = find (is_silent give_up) (of_members s accounts)

-- Nothing goes on by itself, and a member lacks something: the sender is idle, and no watermark is open.
abbrev pub calls_for_mark : Settings → SenderState → List Account → Bool
calls_for_mark p s accounts = is_idle p s && length (open_watermarks s) == 0 && one_lacks p s accounts

-- the strike of a node, unless all are silent
abbrev pub struck_unless : Bool → ℕ → Option Job
struck_unless all node = elim all [ true ↦ None | false ↦ Some (job.Strike node) ]

-- a mark for all members, if one is called for
abbrev pub marked_if : Bool → Option Job
marked_if called = elim called [ true ↦ Some (job.Mark None) | false ↦ None ]

-- What a run does of itself, where its script has `stopped`: a command of it waits, or all were pulled. Of silent members the first is
-- struck, whatever is open, but not if all are silent. If nobody is silent, a mark is made where one is called for.
abbrev pub own_job : Settings → SenderState → Option ℕ → Bool → List Account → Option Job
own_job p s give_up stopped accounts = elim (first_silent give_up s accounts) [
  | Some a ↦ struck_unless (all_silent give_up s accounts) a.node
  | None ↦ marked_if (stopped && calls_for_mark p s accounts)
]
