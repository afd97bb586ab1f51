-- What may be noted of a window: what it answered while it stood for a state of the sender.
use Rattle.std.specs.Prelude.{◌≡◌, None}
use Rattle.norm_send_rules.specs.SenderState.{SenderState}
use Rattle.tx_window.specs.WindowState.{WindowState, Stands}

-- a window stands for some state of a sender, and no object is being filled
pub record IsStanding (w : WindowState) : Type 0 where
  pub state : SenderState
  pub stands : Stands w state
  pub filling : w.filling ≡ None
