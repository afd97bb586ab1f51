-- The judge of a run, by whether it persists. Without a ledger each of these is what `norm_journal` says; with one it is what is said here of a
-- run that persists.
use Rattle.std.specs.Prelude.{◌≡◌, ℕ, List, [], ◌∷◌, Bool, None, Some, Option, ⊤}
use Rattle.std.specs.Option.{option_map}
use Rattle.norm_send_rules.specs.declared.news.Outcome.{Outcome}
use Rattle.norm_journal.specs.declared.event.Event.{Event}
use Rattle.norm_journal.specs.declared.event.Event.TheVariants as event
use Rattle.norm_journal.specs.Accepting.{accepts, judged_from}
use Rattle.norm_journal.specs.Judged.{Judged, is_done}
use Rattle.norm_journal.specs.Printed.{line_of, lines_from}
use Rattle.norm_journal.specs.Projections.{outcomes_in}
use Rattle.norm_persist.specs.Accepting.{accepts_persisting, persisted_from}
use Rattle.norm_persist.specs.Ledger.{LedgerState, accounted, with_ledger}
use Rattle.norm_persist.specs.Persisted.{accounts_after, own_due, is_over}
use Rattle.norm_persist.specs.Printed.{told_line, told_lines, outcome_of, script_outcomes}

-- A journal leads the judge from one state to another, and the ledger with it.
abbrev pub IsLedTo : Judged → Option LedgerState → List Event → Judged → Option LedgerState → Type 0
IsLedTo start None journal j now = judged_from start journal ≡ Some j
IsLedTo start (Some l) journal j (Some now) = persisted_from (with_ledger l start) journal ≡ Some (with_ledger now j)
IsLedTo start (Some l) journal j None = ⊥

-- An event does, that is judged.
abbrev pub IsJudged : Option LedgerState → Judged → Event → Judged → Option LedgerState → Type 0
IsJudged None j e next None = accepts j e ≡ Some next
IsJudged None j e next (Some now) = ⊥
IsJudged (Some l) j e next (Some now) = accepts_persisting (with_ledger l j) e ≡ Some (with_ledger now next)
IsJudged (Some l) j e next None = ⊥

-- the ledger after an event that is no own command
abbrev pub ledger_on : Judged → Event → Option LedgerState → Option LedgerState
ledger_on j (event.News news) o = option_map (λ (l : LedgerState). accounted (accounts_after j (event.News news) l.accounts) l) o
ledger_on j (event.Job by job gave) o = option_map (λ (l : LedgerState). accounted (accounts_after j (event.Job by job gave) l.accounts) l) o
ledger_on j _ o = o

-- no own command is due
abbrev pub IsNoneDue : Option LedgerState → Judged → Type 0
IsNoneDue None j = ⊤
IsNoneDue (Some l) j = own_due (with_ledger l j) ≡ None

-- the last turn was done
abbrev pub over_by : Option LedgerState → Judged → Bool
over_by None j = is_done j
over_by (Some l) j = is_over (with_ledger l j)

-- the line of an event
abbrev pub line_by : Option LedgerState → Judged → Event → Option (List ℕ)
line_by None j e = line_of j e
line_by (Some l) j e = told_line j e

-- the lines of a journal from a state on, without those of who lacks what
abbrev pub lines_by : Option LedgerState → Judged → List Event → List (List ℕ)
lines_by None start journal = lines_from start journal
lines_by (Some l) start journal = told_lines (with_ledger l start) journal

-- the outcomes that an event tells the producers
abbrev pub outcome_by : Option LedgerState → Judged → Event → List (ℕ × Outcome)
outcome_by None j e = outcomes_in (e ∷ [])
outcome_by (Some l) j e = outcome_of (with_ledger l j) e

-- and those of a journal from a state on
abbrev pub outcomes_by : Option LedgerState → Judged → List Event → List (ℕ × Outcome)
outcomes_by None start journal = outcomes_in journal
outcomes_by (Some l) start journal = script_outcomes (with_ledger l start) journal
