-- The plan of an object, as it is handed on.
use Rattle.std.specs.Prelude.{ℕ, ◌≡◌, Some}
use Rattle.fec_plan.specs.Partition.{Cut}
use Rattle.norm_receive_rules.specs.Holding.{Holding}
use Rattle.rx_hold.specs.EntryHold.{EntryHold, StandsFor as HoldStands}
use Rattle.rx_hold.specs.Told.{plan_at}
use Rattle.rx_hold.specs.FrontSound.{plan_in}

-- A plan is that of the object with this index, in whatever a hold stands for.
pub record IsPlanOf (hold : EntryHold) (index : ℕ) (plan : Cut) : Type 0 where
  pub held : plan_in hold index ≡ Some plan
  pub state : (s : Holding) → HoldStands hold s → Some plan ≡ plan_at s index
