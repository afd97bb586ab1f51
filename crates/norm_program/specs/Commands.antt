-- How the program ends: by what its words ask for, or as words that are of no form.
use Rattle.std.specs.Prelude.{◌≡◌, ◌⊎◌, ⊤, ℕ, List, [], ◌∷◌, map, Option, None, Some}
use Rattle.norm_journal.specs.Jobs.{Told}
use Rattle.norm_args.specs.NodeTasks.{node_task_of}
use Rattle.norm_args.specs.Tasks.{task_of}
use Rattle.norm_args.specs.declared.node_tasks.NodeTask.{NodeTask}
use Rattle.norm_args.specs.declared.node_tasks.NodeTask.TheVariants.{Send, Receive, Hub, Gather, Relay}
use Rattle.norm_args.specs.declared.tasks.Task.{Task}
use Rattle.norm_args.specs.declared.tasks.Task.TheVariants.{Session, Show, Generate, Mirror}
use Rattle.norm_endings.specs.Outside.{Outside}
use Rattle.norm_endings.specs.StatusOf.{status_of}
use Rattle.norm_endings.specs.declared.status.Ending.{Ending}
use Rattle.norm_endings.specs.declared.status.Ending.TheVariants.{Words, Memory}
use Rattle.norm_program.specs.Ends.{RefusedWords}
use Rattle.norm_program.specs.GatherEnds.{EndsGather}
use Rattle.norm_program.specs.GenerateEnds.{GenerateEnds}
use Rattle.norm_program.specs.MirrorEnds.{EndsMirror}
use Rattle.norm_program.specs.NodeEnds.{EndsUnder, EndsSender, EndsReceiver, EndsHub}
use Rattle.norm_program.specs.RelayEnds.{EndsRelay}
use Rattle.norm_program.specs.ShowEnds.{ShowEnds}
use Rattle.norm_program.specs.TailEnds.{EndsSession}
use Rattle.norm_program.specs.declared.words.WordsFault.{WordsFault}
use Rattle.norm_program.specs.declared.words.WordsFault.TheVariants.{NotText, Memory as NoMemory}

-- what was asked for under profiles ended so; words that ask for nothing are refused
abbrev pub EndsNode : Option NodeTask → Ending → Outside → Outside → Type 0
EndsNode None ending before after = (ending ≡ Words) × RefusedWords before after
EndsNode (Some (Send path instance)) ending before after = EndsUnder path (EndsSender instance) ending before after
EndsNode (Some (Receive path node)) ending before after = EndsUnder path (EndsReceiver node) ending before after
EndsNode (Some (Hub path)) ending before after = EndsUnder path EndsHub ending before after
EndsNode (Some (Gather pairs)) ending before after = EndsGather pairs ending before after
EndsNode (Some (Relay up node down instance)) ending before after = EndsRelay up node down instance ending before after

-- what was asked for ended so
abbrev pub EndsTask : Task → Ending → Outside → Outside → Type 0
EndsTask (Session options) ending before after = EndsSession options ending before after
EndsTask Show ending before after = ShowEnds ending before after
EndsTask (Generate n) ending before after = GenerateEnds n ending before after
EndsTask Mirror ending before after = EndsMirror ending before after

-- a task, or else one of a node
abbrev pub EndsAsked : Option Task → Option NodeTask → Ending → Outside → Outside → Type 0
EndsAsked (Some task) other ending before after = EndsTask task ending before after
EndsAsked None other ending before after = EndsNode other ending before after

-- there was no memory to read the words in, and nothing was done
abbrev pub ReadsNoWords : Ending → Outside → Outside → Type 0
ReadsNoWords ending before after = (ending ≡ Memory) × (after ≡ before)

-- how words that ask for no other task ended
abbrev pub EndsOther : Ending → List (List ℕ) → Outside → Outside → Type 0
EndsOther ending words before after = EndsNode (node_task_of words) ending before after ⊎ ReadsNoWords ending before after

-- how a call with these words ended
abbrev pub EndsBy : Ending → List (List ℕ) → Outside → Outside → Type 0
EndsBy ending words before after = EndsAsked (task_of words) (node_task_of words) ending before after ⊎ ReadsNoWords ending before after

-- A call with these words ended so: it answers the ending's status, and what the ending says holds.
pub record EndsWith (status : ℕ) (words : List (List ℕ)) (before after : Outside) : Type 0 where
  pub ending : Ending
  pub is : status ≡ status_of ending
  pub holds : EndsBy ending words before after

-- The words of the command line were not read: one is no text, which is refused as other words are, or there was no memory
-- for them, and nothing was done.
abbrev pub EndsUnread : WordsFault → ℕ → Outside → Outside → Type 0
EndsUnread NotText status before after = (status ≡ status_of Words) × RefusedWords before after
EndsUnread NoMemory status before after = (status ≡ status_of Memory) × (after ≡ before)

-- The files have what they had, but where a receiver puts those that it hands up: what it puts is said by its run.
abbrev pub KeepsNodeFiles : Option NodeTask → (before after : Told) → Type 0
KeepsNodeFiles None before after = after ≡ before
KeepsNodeFiles (Some (Send path instance)) before after = after ≡ before
KeepsNodeFiles (Some (Receive path node)) before after = ⊤
KeepsNodeFiles (Some (Hub path)) before after = after ≡ before
KeepsNodeFiles (Some (Gather pairs)) before after = after ≡ before
KeepsNodeFiles (Some (Relay up node down instance)) before after = after ≡ before

-- What `mirror` puts is said by how it ends (`EndsMirror`).
abbrev pub KeepsTaskFiles : Task → (before after : Told) → Type 0
KeepsTaskFiles (Session options) before after = after ≡ before
KeepsTaskFiles Show before after = after ≡ before
KeepsTaskFiles (Generate n) before after = after ≡ before
KeepsTaskFiles Mirror before after = ⊤

-- a task, or else one of a node
abbrev pub KeepsFiles : Option Task → Option NodeTask → (before after : Told) → Type 0
KeepsFiles (Some task) other before after = KeepsTaskFiles task before after
KeepsFiles None other before after = KeepsNodeFiles other before after

-- the paths of the profiles that are asked for
abbrev pub paths_asked : Option NodeTask → List (List ℕ)
paths_asked None = []
paths_asked (Some (Send path instance)) = path ∷ []
paths_asked (Some (Receive path node)) = path ∷ []
paths_asked (Some (Hub path)) = path ∷ []
paths_asked (Some (Gather pairs)) = map (λ (pair : List ℕ × ℕ). pair.0) pairs
paths_asked (Some (Relay up node down instance)) = up ∷ down ∷ []
