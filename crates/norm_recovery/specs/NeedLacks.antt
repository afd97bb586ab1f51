-- What a member needs it lacks: of each need of it there is something of the window that it does not have.
use Rattle.std.specs.Prelude.{◌≡◌, ◌==◌, ℕ, List, Contains, true, false, Some}
use Rattle.norm_base.specs.Settings.{Settings, InRange}
use Rattle.norm_base.specs.declared.kinds.Mode.TheVariants.{Hold}
use Rattle.norm_receive_rules.specs.AllNeeds.{needs}
use Rattle.norm_receive_rules.specs.Lazy.{all_of}
use Rattle.norm_receive_rules.specs.Leaving.{is_in}
use Rattle.norm_receive_rules.specs.NackLaws.{width_at}
use Rattle.norm_receive_rules.specs.Needs.{Need}
use Rattle.norm_receive_rules.specs.ReceiverState.{ReceiverState}
use Rattle.norm_send_rules.specs.InWindow.{current_shapes}
use Rattle.norm_send_rules.specs.Repairable.{streams}
use Rattle.norm_send_rules.specs.SenderState.{SenderState}
use Rattle.norm_send_rules.specs.Watermarks.{has_member}
use Rattle.norm_send_rules.specs.declared.want.Want.{Want}
use Rattle.norm_safety.specs.Events.{Event}
use Rattle.norm_safety.specs.Jobs.{AreEvents}
use Rattle.norm_safety.specs.Lawful.{Lawful}
use Rattle.norm_safety.specs.World.{receiver_at}
use Rattle.norm_safety.specs.WorldStep.{run}
use Rattle.norm_recovery.specs.Left.{in_window, has}
use Rattle.norm_recovery.specs.RoundAsks.{IsOfNeed, is_info_or_source, IsNarrow}

-- Of a need, an info or a closed source symbol of the window that its receiver lacks.
pub record LacksOf (p : Settings) (s : SenderState) (r : ReceiverState) (need : Need) : Type 0 where
  pub y : Want
  pub within : Contains (in_window p s) y
  pub lacks : has p s r y ≡ false
  pub of : IsOfNeed need y
  pub narrow : IsNarrow (width_at r.holding need) y
  pub source : is_info_or_source (current_shapes p s) y ≡ true

-- In `hold` mode, with no stream in the window, after a lawful run: so it is of each need of a member that is in the current instance.
abbrev pub NeedLacks : Type 0
NeedLacks = (p : Settings) → InRange p → p.mode ≡ Hold → (events : List Event) → Lawful p events → AreEvents events → streams (run p events).sender ≡ 0
    → (node : ℕ) → (node == p.sender) ≡ false → (r : ReceiverState) → receiver_at (run p events) node ≡ Some r → has_member node (run p events).sender ≡ true
    → is_in r (run p events).sender.current.id ≡ true → (need : Need) → Contains (all_of (needs p r)) need → LacksOf p (run p events).sender r need
