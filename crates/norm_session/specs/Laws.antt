-- What is promised of a run's places.
use Rattle.std.specs.Prelude.{◌≡◌, false}
use Rattle.norm_base.specs.Network.{Network}
use Rattle.norm_base.specs.Told.{Pieces}
use Rattle.norm_journal.specs.Places.{Place}
use Rattle.norm_session.specs.Context.{Context, with_posted}
use Rattle.norm_session.specs.RunKept.{RunKept}
use Rattle.norm_session.specs.SoFar.{At}
use Rattle.producer_gate.specs.Boards.{BoardState}

-- A run that keeps its journal is at one place, whatever the network told, was written and is on the board.
abbrev pub IsAtOnePlace : Type 0
IsAtOnePlace =
    (x : Context) (before now : BoardState) (k : RunKept) (place other : Place) (network told : Network) (written lines : Pieces)
    → k.alone ≡ false → At (with_posted x before) k place network written → At (with_posted x now) k other told lines → place ≡ other
