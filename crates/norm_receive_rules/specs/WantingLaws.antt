-- What it says of a datagram that a receiver may want memory for it.
use Rattle.std.specs.Prelude.{ℕ, ◌≡◌, List, false}
use Rattle.norm_base.specs.Settings.{Settings}
use Rattle.norm_receive_rules.specs.ReceiverState.{ReceiverState}
use Rattle.norm_receive_rules.specs.Receiving.{received}
use Rattle.norm_receive_rules.specs.Wanting.{may_want}

-- Any other datagram changes nothing.
pub record WantingLaws : Type 0 where
  pub nothing : (p : Settings) (s : ReceiverState) (bytes : List ℕ) (now draw : ℕ) → may_want p s bytes ≡ false → received p s bytes now draw ≡ s
