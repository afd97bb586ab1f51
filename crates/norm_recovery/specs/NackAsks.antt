-- A NACK makes the sender's round ask for something that its receiver lacks (RFC 5740 sections 5.3 and 5.4).
use Rattle.std.specs.Prelude.{◌≡◌, ◌==◌, ℕ, List, Contains, true, false, Some}
use Rattle.norm_base.specs.Settings.{Settings, InRange}
use Rattle.norm_base.specs.declared.kinds.Mode.TheVariants.{Hold}
use Rattle.norm_ext.specs.Message.{Nack, NackMessage}
use Rattle.norm_ext.specs.Written.{Written}
use Rattle.norm_receive_rules.specs.Leaving.{is_in}
use Rattle.norm_receive_rules.specs.ReceiverState.{ReceiverState}
use Rattle.norm_receive_rules.specs.Ticking.{ticked}
use Rattle.norm_send_rules.specs.Hearing.{heard}
use Rattle.norm_send_rules.specs.Repairable.{streams}
use Rattle.norm_send_rules.specs.SenderState.{SenderState}
use Rattle.norm_send_rules.specs.Watermarks.{has_member}
use Rattle.norm_send_rules.specs.declared.want.Want.{Want}
use Rattle.norm_safety.specs.Events.{Event}
use Rattle.norm_safety.specs.World.{receiver_at}
use Rattle.norm_safety.specs.WorldStep.{run}
use Rattle.norm_recovery.specs.Left.{in_window, has}
use Rattle.norm_recovery.specs.RoundAsks.{asks_open}
use Rattle.norm_recovery.specs.TailLawful.{MayGoOn}

-- Something of the window that a receiver lacks, and that a sender's open round asks for.
pub record AskedOf (p : Settings) (s t : SenderState) (r : ReceiverState) : Type 0 where
  pub y : Want
  pub within : Contains (in_window p s) y
  pub lacks : has p s r y ≡ false
  pub asked : asks_open p t y ≡ true

-- In `hold` mode, with no stream in the window, after a run that may go on: if the tick of a member in the current instance gives a NACK, and the
-- sender hears that, its open round asks then for something of the window that the member lacks.
abbrev pub NackAsks : Type 0
NackAsks = (p : Settings) → InRange p → p.mode ≡ Hold → (events : List Event) → MayGoOn p events → streams (run p events).sender ≡ 0 → (node : ℕ)
    → (node == p.sender) ≡ false → (r : ReceiverState) → receiver_at (run p events) node ≡ Some r → has_member node (run p events).sender ≡ true
    → is_in r (run p events).sender.current.id ≡ true → (now later : ℕ) (d : Written) (m : NackMessage) → (ticked p r now).1 ≡ Some d → d.message ≡ Nack m
    → AskedOf p (run p events).sender (heard p (run p events).sender d.octets later) r
