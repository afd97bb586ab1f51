-- What a run that persists says of its end: how it ended, who lacks what, and how many commands were not accepted.
use Rattle.std.specs.Prelude.{◌≡◌, ◌≢◌, ◌⊎◌, ℕ, ◌+◌, not, List, length, filter, Bool, true, false, Option, None, Some}
use Rattle.std.specs.List.{list_any}
use Rattle.norm_script.specs.declared.script.Line.{Line}
use Rattle.norm_journal.specs.Judged.{Judged}
use Rattle.norm_journal.specs.Places.{Over}
use Rattle.norm_journal.specs.Printed.{instance_now}
use Rattle.norm_persist.specs.declared.account.Account.{Account}
use Rattle.norm_persist.specs.declared.report.Report.{Report}
use Rattle.norm_persist.specs.declared.report.Verdict.{Verdict}
use Rattle.norm_persist.specs.declared.report.Verdict.TheVariants as verdict
use Rattle.norm_persist.specs.Laws.{AllConfirmed}
use Rattle.norm_persist.specs.Persisted.{Persisted, is_complete, is_given_up, lacks_now}
use Rattle.norm_persist.specs.PersistRun.{Ending, Whole, GivenUp, Spent, status_of}

-- how a run ended that had its last turn
abbrev pub verdict_when : (complete given_up : Bool) → Verdict
verdict_when true given_up = verdict.Whole
verdict_when false true = verdict.GivenUp
verdict_when false false = verdict.Spent

abbrev pub verdict_of : Persisted → Verdict
verdict_of x = verdict_when (is_complete x) (is_given_up x)

-- the ending that a verdict names
abbrev pub ending_by : Verdict → Ending
ending_by verdict.Whole = Whole
ending_by verdict.GivenUp = GivenUp
ending_by verdict.Spent = Spent

-- the receivers that lack something, struck ones too, in order
abbrev pub lacking_now : Persisted → List Account
lacking_now x = filter (lacks_now x) x.accounts

-- one that waits counts
abbrev pub waiting_count : Option Line → ℕ
waiting_count None = 0
waiting_count (Some line) = 1

-- how many commands of the script were not accepted or refused: they were not pulled, or one waits
abbrev pub left_count : Judged → ℕ
left_count j = length j.left + waiting_count j.waiting

-- A report is of a state after the summary.
pub record IsReport (x : Persisted) (r : Report) : Type 0 where
  pub over : x.judged.place ≡ Over
  pub verdict_is : r.verdict ≡ verdict_of x
  pub instance_is : r.instance ≡ instance_now x.judged
  pub left_is : r.left ≡ left_count x.judged
  pub lacking_is : r.lacking.items ≡ lacking_now x

-- a receiver lacks something that the script did not strike
abbrev pub is_lacking_in : List Account → Bool
is_lacking_in lacking = list_any (λ (a : Account). not a.excused) lacking

-- the exit status of a report
abbrev pub report_status : Report → ℕ
report_status r = status_of (ending_by r.verdict) (is_lacking_in r.lacking.items)

-- Status 0 says that every receiver, except those that the script struck, confirmed everything that was accepted in the last instance; 15 that
-- one did not. One of these is the status of a run that ended whole or given up; of one whose turns were spent it is 8.
pub record ReportSays (x : Persisted) (r : Report) : Type 0 where
  pub zero : report_status r ≡ 0 → AllConfirmed x
  pub other : report_status r ≡ 15 → AllConfirmed x → ⊥
  pub ended : r.verdict ≢ verdict.Spent → (report_status r ≡ 0) ⊎ (report_status r ≡ 15)
  pub spent : r.verdict ≡ verdict.Spent → report_status r ≡ 8

abbrev pub ReportsSay : Type 0
ReportsSay = (x : Persisted) (r : Report) → IsReport x r → ReportSays x r
