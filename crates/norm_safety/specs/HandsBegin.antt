-- Nothing is handed up in an instance before its node comes to it.
use Rattle.std.specs.Prelude.{◌≡◌, ℕ, ◌==◌, List, [], false, None}
use Rattle.std.specs.List.{list_any}
use Rattle.norm_base.specs.Settings.{Settings}
use Rattle.norm_safety.specs.Events.{Event}
use Rattle.norm_safety.specs.Hands.{hands}
use Rattle.norm_safety.specs.History.{History, history}
use Rattle.norm_safety.specs.InOrder.{came_to}

-- an instance that a node never came to has no hand-ups of it
abbrev pub HandsBegin : History → Type 0
HandsBegin h = (node id : ℕ) → list_any (λ other. other == id) (came_to node None h.happened) ≡ false → hands h.happened node id ≡ []

-- so it is in each run
abbrev pub HandsBeginInRuns : Type 0
HandsBeginInRuns = (p : Settings) (events : List Event) → HandsBegin (history p events)
