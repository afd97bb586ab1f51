-- Sessions whose number of turns their script tells: data, files and marks alone, and each object is sent as it comes.
use Rattle.std.specs.Prelude.{◌≡◌, ◌≤◌, ℕ, ◌+◌, ◌*◌, List, length, count_by, Bool, true, false, IfSome, Err}
use Rattle.std.specs.Int.{div_ceil}
use Rattle.std.specs.List.{AllByRecursion}
use Rattle.norm_base.specs.Members.{receivers_of}
use Rattle.norm_base.specs.Settings.{Settings}
use Rattle.fec_plan.specs.Points.{point}
use Rattle.norm_script.specs.Commands.{Commands}
use Rattle.norm_script.specs.declared.script.Line.{Line}
use Rattle.norm_script.specs.declared.script.Verb.{Verb}
use Rattle.norm_script.specs.declared.script.Verb.TheVariants as verb
use Rattle.norm_send_rules.specs.InWindow.{current_shapes}
use Rattle.norm_send_rules.specs.Sending.{new_from}
use Rattle.norm_send_rules.specs.declared.fault.SendFault.TheVariants as send
use Rattle.norm_journal.specs.declared.event.Event.{Event}
use Rattle.norm_journal.specs.declared.event.Event.TheVariants as event
use Rattle.norm_journal.specs.Jobs.{Told}
use Rattle.norm_journal.specs.Judged.{Judged}
use Rattle.norm_journal.specs.SessionRun.{judged}

-- a command is of data, of a file, or a mark
abbrev pub is_plain : Verb → Bool
is_plain (verb.Data info octets) = true
is_plain (verb.File name) = true
is_plain (verb.Mark quorum) = true
is_plain _ = false

-- it is a mark
abbrev pub is_mark : Verb → Bool
is_mark (verb.Mark quorum) = true
is_mark _ = false

-- an event refuses an object, for good or for now
abbrev pub refuses_object : Event → Bool
refuses_object (event.Job by job (Err (send.Enqueue fault))) = true
refuses_object (event.Length by name len fault) = true
refuses_object _ = false

-- such a line, and such an event
abbrev pub IsPlain : Line → Type 0
IsPlain line = is_plain line.verb ≡ true

abbrev pub RefusesNoObject : Event → Type 0
RefusesNoObject e = refuses_object e ≡ false

-- nothing was dropped
abbrev pub KeptAll : Judged → Type 0
KeptAll last = last.world.sender.current.drop ≡ point 0 0

-- A journal of a session is steady: its commands are of data and files, or marks; a turn is no shorter than the gap; each object that was offered
-- was accepted at its first offer; and at the end nothing was dropped.
pub record Steady (script : Commands) (files : Told) (journal : List Event) : Type 0 where
  pub commands : AllByRecursion IsPlain script.lines
  pub spaced : 1 ≤ script.profile.gap
  pub paced : script.profile.gap ≤ script.profile.step
  pub accepted : AllByRecursion RefusesNoObject journal
  pub kept : IfSome (judged script files (receivers_of script.profile script.profile.receivers) journal) KeptAll

-- So many turns are enough for so many commands, new symbols and infos, and marks: one for each, for each mark besides as many as two round trips
-- take and two more, and two at the end.
abbrev pub enough_turns : Settings → (commands fresh marks : ℕ) → ℕ
enough_turns p commands fresh marks = commands + fresh + marks * (div_ceil (2 * p.grtt) p.step + 2) + 2

-- how many of these lines are marks
abbrev pub marks_of : List Line → ℕ
marks_of lines = count_by (λ (line : Line). is_mark line.verb) lines

-- how many symbols and infos are new of what was accepted, parity that is sent by itself included
abbrev pub fresh_of : Settings → Judged → ℕ
fresh_of p j = length (new_from p 0 (current_shapes p j.world.sender))

-- the turns that are enough for a script, of which this is the last state
abbrev pub turns_of : Commands → Judged → ℕ
turns_of script last = enough_turns script.profile (length script.lines) (fresh_of script.profile last) (marks_of script.lines)
