-- What is followed of a receiver is what its rules do.
use Rattle.std.specs.Prelude.{◌≡◌, ℕ, List}
use Rattle.norm_base.specs.Settings.{Settings}
use Rattle.norm_receive_rules.specs.ReceiverState.{ReceiverState}
use Rattle.norm_receive_rules.specs.Receiving.{received}
use Rattle.udp_rules.specs.Hearing.{heard_in}
use Rattle.norm_watch.specs.Following.{followed_by}

-- After each datagram, in whatever state, the receiver is in the instance that is followed.
pub record FollowingLaws : Type 0 where
  pub instance : (p : Settings) (s : ReceiverState) (octets : List ℕ) (now draw : ℕ)
      → (received p s octets now draw).instance ≡ followed_by p s.instance (heard_in octets)
