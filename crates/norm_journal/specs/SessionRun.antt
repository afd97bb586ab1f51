-- What a session may do: its journal is one that the judge accepts event by event, from the opening on.
use Rattle.std.specs.Prelude.{◌≡◌, ℕ, List, [], true, false, Option, None, Some, IsSome}
use Rattle.norm_base.specs.Members.{receivers_of}
use Rattle.norm_script.specs.Commands.{Commands}
use Rattle.norm_script.specs.declared.script.Verb.{Verb}
use Rattle.norm_script.specs.declared.script.Verb.TheVariants as verb
use Rattle.norm_journal.specs.declared.event.Event.{Event}
use Rattle.norm_journal.specs.Accepting.{judged_from}
use Rattle.norm_journal.specs.Jobs.{Told, may_be_absent}
use Rattle.norm_journal.specs.Judged.{Judged, judged_opening, is_whole}
use Rattle.norm_journal.specs.Places.{Place, Giving, Again, Over}

-- the judge's state after a journal
abbrev pub judged : Commands → Told → List ℕ → List Event → Option Judged
judged script files nodes journal = judged_from (judged_opening script files nodes) journal

-- a journal is the beginning of a run with these receivers
abbrev pub Begun : Commands → Told → List ℕ → List Event → Type 0
Begun script files nodes journal = IsSome (judged script files nodes journal)

-- how a run ended: whole; with its turns spent; or at a file that is not there
pub data Ending : Type 0 where
  Whole : Ending
  Spent : Ending
  Absent : (name : List ℕ) → Ending

-- a command's file is not there
abbrev pub absent_of : Told → Verb → Option Ending
absent_of files (verb.File name) = elim (may_be_absent files name) [ true ↦ Some (Absent name) | false ↦ None ]
absent_of files _ = None

-- the ending of a run at a place
abbrev pub ends_in : Place → Judged → Option Ending
ends_in Over j = elim (is_whole j) [ true ↦ Some Whole | false ↦ Some Spent ]
ends_in (Giving line) j = absent_of j.files line.verb
ends_in (Again line) j = absent_of j.files line.verb
ends_in _ j = None

-- the ending of a run that has this state last
abbrev pub ending_of : Judged → Option Ending
ending_of j = ends_in j.place j

-- A journal is a whole run of a script with these receivers, and has this ending.
pub record IsRun (script : Commands) (files : Told) (nodes : List ℕ) (journal : List Event) (ending : Ending) : Type 0 where
  pub last : Judged
  pub begun : judged script files nodes journal ≡ Some last
  pub ended : ending_of last ≡ Some ending

-- A session has every receiver of its profile.
abbrev pub SessionRun : Commands → Told → List Event → Ending → Type 0
SessionRun script files journal ending = IsRun script files (receivers_of script.profile script.profile.receivers) journal ending

-- A sender may also run alone: its receivers are elsewhere, and it hears of them by what it takes.
abbrev pub SenderRun : Commands → Told → List Event → Ending → Type 0
SenderRun script files journal ending = IsRun script files [] journal ending
