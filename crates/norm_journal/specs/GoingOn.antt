-- A run that has no ending yet goes on.
use Rattle.std.specs.Prelude.{ℕ, ◌≡◌, List, Contains, None, Some}
use Rattle.std.specs.List.{AllByRecursion}
use Rattle.norm_base.specs.Settings.{Settings}
use Rattle.norm_base.specs.Members.{receivers_of}
use Rattle.norm_script.specs.Commands.{Commands}
use Rattle.norm_journal.specs.declared.event.Event.{Event}
use Rattle.norm_journal.specs.Accepting.{accepts}
use Rattle.norm_journal.specs.Jobs.{Told}
use Rattle.norm_journal.specs.Judged.{Judged}
use Rattle.norm_journal.specs.SessionRun.{judged, ending_of}

-- these nodes are receivers of a profile
abbrev pub AreReceivers : Settings → List ℕ → Type 0
AreReceivers p nodes = AllByRecursion (λ node. Contains (receivers_of p p.receivers) node) nodes

-- Where a run has no ending yet, some event may come.
abbrev pub GoesOn : Type 0
GoesOn = (script : Commands) (files : Told) (nodes : List ℕ) (events : List Event) (last : Judged) → AreReceivers script.profile nodes
    → judged script files nodes events ≡ Some last → ending_of last ≡ None → (e : Event) × (next : Judged) × (accepts last e ≡ Some next)
