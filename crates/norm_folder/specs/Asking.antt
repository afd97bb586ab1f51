-- What a journal says of a folder that was not received whole: what was refused first, and which watermark expired first.
use Rattle.std.specs.Prelude.{ℕ, List, [], ◌∷◌, Option, None, Some, Err, if◌then◌else◌}
use Rattle.norm_journal.specs.declared.event.Event.{Event}
use Rattle.norm_journal.specs.declared.event.Event.TheVariants as event
use Rattle.norm_script.specs.Words.{is_file_name}
use Rattle.norm_send_rules.specs.Waiting.{may_wait}
use Rattle.norm_send_rules.specs.declared.news.News.TheVariants as news
use Rattle.norm_send_rules.specs.declared.news.Outcome.TheVariants as outcome
use Rattle.norm_mirror.specs.declared.outcome.Unaccepted.{Unaccepted}
use Rattle.norm_mirror.specs.declared.outcome.Unaccepted.TheVariants.{Manifest, File}
use Rattle.norm_mirror.specs.declared.outcome.Unsatisfied.{Unsatisfied}

-- a file of a folder, by its name and its length
abbrev pub file_named : List ℕ → ℕ → Option Unaccepted
file_named name len = if is_file_name name then Some (File name len) else None

-- what an event refused for good; if it is no file it is the manifest, since a mark is refused only behind that
abbrev pub unaccepted_by : Event → Option Unaccepted
unaccepted_by (event.Job by job (Err fault)) = if may_wait fault then None else Some Manifest
unaccepted_by (event.Length by name len fault) = if may_wait fault then None else file_named name len
unaccepted_by _ = None

-- the watermark that an event gave up, and how many receivers had not confirmed it
abbrev pub unsatisfied_by : Event → Option Unsatisfied
unsatisfied_by (event.News (news.Done mark (outcome.Expired left))) = Some (record { mark = mark; left = left })
unsatisfied_by _ = None

-- the first of these
abbrev pub first_by : {X : Type 0} → (Event → Option X) → List Event → Option X
first_by by [] = None
first_by by (e ∷ events) = elim (by e) [ Some x ↦ Some x | None ↦ first_by by events ]
