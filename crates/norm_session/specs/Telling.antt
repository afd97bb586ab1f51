-- What the sender still has to tell, and a run that tells it.
use Rattle.std.specs.Prelude.{◌≡◌, ℕ, ◌+◌, ◌-◌, length, Bool, true, false}
use Rattle.norm_base.specs.Network.{Network}
use Rattle.norm_base.specs.Told.{Pieces}
use Rattle.norm_journal.specs.Places.{Place}
use Rattle.norm_safety.specs.World.{World}
use Rattle.norm_send_rules.specs.SenderState.{SenderState}
use Rattle.norm_session.specs.Context.{Context}
use Rattle.norm_session.specs.RunKept.{RunKept}
use Rattle.norm_session.specs.SoFar.{SoFar, At}

-- how many changes a sender did not tell yet
abbrev pub untold_count : SenderState → ℕ
untold_count s = length s.untold_nodes + length s.untold_marks

-- A run is at a place, where so many changes are to be told.
pub record IsTellingOf (x : Context) (k : RunKept) (place : Place) (network : Network) (written : Pieces) (many : ℕ) : Type 0 where
  pub world : World
  pub so_far : SoFar x k world place network written
  pub count : untold_count world.sender ≡ many

-- where one was told there is one fewer, and where there was none nothing is to be told
abbrev pub HasTold : Bool → Context → RunKept → Place → Network → Pieces → ℕ → Type 0
HasTold true x k place network written many = IsTellingOf x k place network written (many - 1)
HasTold false x k place network written many = At x k place network written
