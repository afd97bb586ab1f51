-- What is free in a session: all else is decided by what came before.
use Rattle.std.specs.Prelude.{◌≡◌, ◌⊎◌, Option, None, Some, ⊤}
use Rattle.norm_send_rules.specs.declared.job.Job.{Job}
use Rattle.norm_send_rules.specs.declared.job.Job.TheVariants as job
use Rattle.norm_journal.specs.declared.event.Event.{Event}
use Rattle.norm_journal.specs.declared.event.Event.TheVariants as event
use Rattle.norm_journal.specs.Follows.{Follows}
use Rattle.norm_journal.specs.Judged.{Judged}

-- the job of a file's command
abbrev pub IsFile : Option Job → Type 0
IsFile (Some (job.File name octets)) = ⊤
IsFile _ = ⊥

-- Free are what the network gives, whose command comes, a turn's moment where the step is 0, and a file's length and octets
-- where it is not told which files are there.
abbrev pub IsFree : Judged → Event → Type 0
IsFree j (event.Took to octets) = ⊤
IsFree j event.Empty = ⊤
IsFree j (event.Pull by) = ⊤
IsFree j (event.Turn turn now) = j.profile.step ≡ 0
IsFree j (event.Job by job gave) = (j.files ≡ None) × IsFile job
IsFree j (event.Length by name len fault) = j.files ≡ None
IsFree j _ = ⊥

-- Two events that may come after one state are one, but for those that are free.
abbrev pub OnlyTheseAreFree : Type 0
OnlyTheseAreFree = (j a b : Judged) (e f : Event) → Follows j e a → Follows j f b → (e ≡ f) ⊎ (IsFree j e × IsFree j f)
