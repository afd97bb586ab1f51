-- What a run that persists keeps beside what every run keeps: its ledger.
use Rattle.std.specs.Prelude.{ℕ, ◌+◌, ◌==◌, List, map, true, false, Option, None, Some, Result, Ok, Err}
use Rattle.norm_base.specs.Settings.{Settings}
use Rattle.norm_base.specs.declared.node.Origin.{Origin}
use Rattle.norm_send_rules.specs.declared.fault.SendFault.{SendFault}
use Rattle.norm_send_rules.specs.declared.job.Receipt.{Receipt}
use Rattle.norm_send_rules.specs.declared.job.Receipt.TheVariants as receipt
use Rattle.norm_send_rules.specs.declared.news.News.{News}
use Rattle.norm_send_rules.specs.declared.news.News.TheVariants as news
use Rattle.norm_send_rules.specs.declared.news.Outcome.TheVariants as outcome
use Rattle.norm_journal.specs.Judged.{Judged}
use Rattle.norm_persist.specs.declared.account.Account.{Account}
use Rattle.norm_persist.specs.Accounts.{accounts_of, begun_anew, excused_by, risen, passed_by}
use Rattle.norm_persist.specs.Persisted.{Persisted, is_own, mark_after}

-- After how many marks a member is given up, if that was asked for; the accounts of all receivers; how many own commands were made, the turn
-- of the last one, and the number of the last own mark.
pub record LedgerState : Type 0 where
  pub give_up : Option ℕ
  pub accounts : List Account
  pub own : ℕ
  pub own_turn : ℕ
  pub own_mark : ℕ

-- as a run begins
abbrev pub ledger_opening : Settings → Option ℕ → LedgerState
ledger_opening p give_up = record { give_up = give_up; accounts = accounts_of p; own = 0; own_turn = 0; own_mark = 0 }

-- the judge's state of a run that persists, by its ledger and the judge of journals
abbrev pub with_ledger : LedgerState → Judged → Persisted
with_ledger l j = record { judged = j; give_up = l.give_up; accounts = l.accounts; own = l.own; own_turn = l.own_turn; own_mark = l.own_mark }

abbrev pub ledger_of : Persisted → LedgerState
ledger_of x = record { give_up = x.give_up; accounts = x.accounts; own = x.own; own_turn = x.own_turn; own_mark = x.own_mark }

-- the accounts after a change was told, by the members that it names
abbrev pub accounts_heard : News → List ℕ → List Account → List Account
accounts_heard (news.Past node at) left accounts = map (risen node at) accounts
accounts_heard (news.Done number (outcome.Expired many)) left accounts = map (passed_by left) accounts
accounts_heard _ left accounts = accounts

-- the accounts after the answer to a command
abbrev pub accounts_gave : Origin → Result Receipt SendFault → List Account → List Account
accounts_gave by (Ok (receipt.Restarted instance)) accounts = map begun_anew accounts
accounts_gave by (Ok (receipt.Struck node)) accounts = elim (is_own by) [ true ↦ accounts | false ↦ map (excused_by node) accounts ]
accounts_gave by _ accounts = accounts

-- the ledger with these accounts
abbrev pub accounted : List Account → LedgerState → LedgerState
accounted accounts l = record l { accounts = accounts }

-- an own command was made in a turn, and was answered so
abbrev pub own_noted : ℕ → Result Receipt SendFault → LedgerState → LedgerState
own_noted turn gave l = record l { own = l.own + 1; own_turn = turn; own_mark = mark_after gave l.own_mark }
