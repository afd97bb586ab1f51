-- What a delivery does to a run, and what a take does.
use Rattle.std.specs.Prelude.{◌≡◌, ℕ, List, Option, Bool}
use Rattle.norm_base.specs.Network.{Network, with_answer}
use Rattle.norm_base.specs.Told.{Pieces}
use Rattle.norm_journal.specs.Places.{Place, Taking}
use Rattle.norm_journal.specs.Takes.{delivered}
use Rattle.norm_safety.specs.World.{World}
use Rattle.norm_world.specs.WorldKept.{StandsFor}
use Rattle.norm_session.specs.Context.{Context, judged_of}
use Rattle.norm_session.specs.RunKept.{RunKept}
use Rattle.norm_session.specs.SoFar.{MayAnswer, HasAll, At, HasTaken}
use Rattle.norm_session.specs.Stopping.{Stopped}
use Rattle.norm_turns.specs.declared.fault.SessionFault.{SessionFault}

-- The run is the one that the judge's delivery leads to; its journal is as it was.
pub record IsDelivered (x : Context) (k new : RunKept) (w : World) (place : Place) (node : ℕ) (octets : List ℕ) : Type 0 where
  pub profile : new.p ≡ k.p
  pub alone : new.alone ≡ k.alone
  pub nodes : new.world.p ≡ k.world.p
  pub journal : new.journal ≡ k.journal
  pub stands : StandsFor new.world (delivered node octets (judged_of x k w place)).world
  pub state : judged_of x new (delivered node octets (judged_of x k w place)).world place ≡ delivered node octets (judged_of x k w place)

-- a datagram comes to a node, wherever the run is
abbrev pub Delivers : RunKept → RunKept → ℕ → List ℕ → Type 0
Delivers k new node octets = (x : Context) (w : World) (place : Place) → HasAll x k → StandsFor k.world w → IsDelivered x k new w place node octets

-- what a run does with what a take answered: it goes on from there
abbrev pub GoesOn : RunKept → RunKept → Option (ℕ × List ℕ) → Bool → Type 0
GoesOn old new answer took = (x : Context) (before now : Network) (written : Pieces) (count : ℕ) → now ≡ with_answer before answer
    → MayAnswer before answer → At x old (Taking count) before written → HasTaken took x new count now written

-- or it stops there
abbrev pub StopsAfter : RunKept → Option (ℕ × List ℕ) → SessionFault → Type 0
StopsAfter old answer fault = (x : Context) (before now : Network) (written : Pieces) (count : ℕ) → now ≡ with_answer before answer
    → MayAnswer before answer → At x old (Taking count) before written → Stopped x fault now written
