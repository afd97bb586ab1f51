-- What a run keeps of its journal: all of it, or nothing where its sender is alone.
use Rattle.std.specs.Prelude.{◌≡◌, List, [], ◌∷◌, ◌++◌, Bool, true, false, Option, None, Some, ⊤}
use Rattle.norm_journal.specs.declared.event.Event.{Event}
use Rattle.norm_send_rules.specs.declared.job.Job.{Job}

-- what is kept of a journal
abbrev pub kept_of : Bool → List Event → Option (List Event)
kept_of true journal = None
kept_of false journal = Some journal

-- with one event more, where they are kept
abbrev pub noted : Option (List Event) → Event → Option (List Event)
noted None e = None
noted (Some journal) e = Some (journal ++ e ∷ [])

-- what an event tells of a job is at hand, where the event is kept
abbrev pub IsAtHand : Option (List Event) → (at_hand told : Option Job) → Type 0
IsAtHand None at_hand told = ⊤
IsAtHand (Some journal) at_hand told = at_hand ≡ told
