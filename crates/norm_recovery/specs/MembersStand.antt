-- Where members stand in `hold` mode.
use Rattle.std.specs.Prelude.{◌≡◌, ℕ, List, [], true, false, Some}
use Rattle.norm_base.specs.Settings.{Settings, InRange}
use Rattle.norm_base.specs.declared.kinds.Mode.TheVariants.{Hold}
use Rattle.fec_plan.specs.Points.{point, point_of, point_before}
use Rattle.norm_receive_rules.specs.Leaving.{is_in}
use Rattle.norm_receive_rules.specs.ReceiverState.{ReceiverState}
use Rattle.norm_send_rules.specs.SenderState.{SenderState}
use Rattle.norm_send_rules.specs.Watermarks.{has_member}
use Rattle.norm_safety.specs.Events.{Event}
use Rattle.norm_safety.specs.Tail.{Course}
use Rattle.norm_safety.specs.World.{World, receiver_at}
use Rattle.norm_safety.specs.WorldStep.{run}
use Rattle.norm_recovery.specs.TailLawful.{MayGoOn}
use Rattle.norm_recovery.specs.TailOf.{IsTail, IsMoment}

-- A receiver that is in the sender's current instance stands at the drop point or past it, and lost nothing there. If it is in another
-- instance or in none, nothing was dropped of the current one.
pub record Stands (s : SenderState) (r : ReceiverState) : Type 0 where
  pub inside : is_in r s.current.id ≡ true → (point_before (point_of r.holding.point) s.current.drop ≡ false) × (r.holding.lost ≡ [])
  pub outside : is_in r s.current.id ≡ false → s.current.drop ≡ point 0 0

-- In `hold` mode each member stands so, at every moment of each tail of a run that may go on.
abbrev pub MembersStand : Type 0
MembersStand = (p : Settings) → InRange p → p.mode ≡ Hold → (events : List Event) → MayGoOn p events → (c : Course) → IsTail p (run p events) c
    → (v : World) → IsMoment p (run p events) c v → (node : ℕ) (r : ReceiverState) → receiver_at v node ≡ Some r → has_member node v.sender ≡ true
    → Stands v.sender r
