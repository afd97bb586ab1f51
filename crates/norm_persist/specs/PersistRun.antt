-- A run that persists, how it ended, and the exit status that this gives.
use Rattle.std.specs.Prelude.{◌≡◌, ℕ, ◌&&◌, not, List, Bool, true, false, Option, None, Some}
use Rattle.std.specs.List.{list_any}
use Rattle.norm_script.specs.Commands.{Commands}
use Rattle.norm_script.specs.declared.script.Verb.{Verb}
use Rattle.norm_script.specs.declared.script.Verb.TheVariants as verb
use Rattle.norm_journal.specs.declared.event.Event.{Event}
use Rattle.norm_journal.specs.Jobs.{Told, may_be_absent}
use Rattle.norm_journal.specs.Places.{Place, Giving, Again, Over}
use Rattle.norm_persist.specs.Accepting.{persisted_from}
use Rattle.norm_persist.specs.Persisted.{Persisted, persisted_opening, is_complete, is_given_up, lacks_now}

-- the judge's state after a journal
abbrev pub persisted : Commands → Told → List ℕ → Option ℕ → List Event → Option Persisted
persisted script files nodes give_up journal = persisted_from (persisted_opening script files nodes give_up) journal

-- how a run ended: whole; given up; with its turns spent; or at a file that is not there
pub data Ending : Type 0 where
  Whole : Ending
  GivenUp : Ending
  Spent : Ending
  Absent : (name : List ℕ) → Ending

-- a command's file is not there
abbrev pub absent_of : Told → Verb → Option Ending
absent_of files (verb.File name) = elim (may_be_absent files name) [ true ↦ Some (Absent name) | false ↦ None ]
absent_of files _ = None

-- the ending after the last turn
abbrev pub ending_after : Persisted → Ending
ending_after x = elim (is_complete x) [ true ↦ Whole | false ↦ elim (is_given_up x) [ true ↦ GivenUp | false ↦ Spent ] ]

-- the ending of a run at a place
abbrev pub ends_in : Place → Persisted → Option Ending
ends_in Over x = Some (ending_after x)
ends_in (Giving line) x = absent_of x.judged.files line.verb
ends_in (Again line) x = absent_of x.judged.files line.verb
ends_in _ x = None

-- the ending of a run that has this state last
abbrev pub ending_of : Persisted → Option Ending
ending_of x = ends_in x.judged.place x

-- A journal is a run of a script that persists, with these receivers, and has this ending.
pub record IsPersistRun (script : Commands) (files : Told) (nodes : List ℕ) (give_up : Option ℕ) (journal : List Event) (ending : Ending) : Type 0 where
  pub last : Persisted
  pub begun : persisted script files nodes give_up journal ≡ Some last
  pub ended : ending_of last ≡ Some ending

-- a receiver lacks something that the script did not strike
abbrev pub is_lacking : Persisted → Bool
is_lacking x = list_any (λ a. lacks_now x a && not a.excused) x.accounts

-- A run that ended whole or given up has status 15 if such a receiver lacks something, and else 0. One whose turns were spent has 8, and
-- one that met a file which is not there 7.
abbrev pub status_of : Ending → Bool → ℕ
status_of Whole lacking = elim lacking [ true ↦ 15 | false ↦ 0 ]
status_of GivenUp lacking = elim lacking [ true ↦ 15 | false ↦ 0 ]
status_of Spent lacking = 8
status_of (Absent name) lacking = 7
