-- A receiver's part of a turn.
use Rattle.std.specs.Prelude.{◌≡◌, ℕ, [], Some}
use Rattle.norm_receiver.specs.ReceiverKept.{ReceiverKept}
use Rattle.norm_world.specs.WorldKept.{WorldKept}
use Rattle.norm_world.specs.WorldMoves.{receiver_of}

-- A node's receiver is there, and all its hand-ups were taken.
pub record HasTakenAll (k : WorldKept) (node : ℕ) : Type 0 where
  pub receiver : ReceiverKept
  pub there : receiver_of k node ≡ Some receiver
  pub taken : receiver.hold.ups ≡ []
