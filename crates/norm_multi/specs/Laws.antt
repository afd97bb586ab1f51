-- What is promised of several senders beside what each call does.
use Rattle.std.specs.Prelude.{ℕ, ◌≡◌, ◌≢◌, List, Some}
use Rattle.norm_base.specs.Settings.{Settings}
use Rattle.norm_receive_rules.specs.ReceiverState.{ReceiverState}
use Rattle.norm_receive_rules.specs.Receiving.{received}
use Rattle.norm_multi.specs.Owner.{owner_of}

-- A datagram that belongs to another sender or to nobody changes nothing of a receiver. So each is also as if it heard all datagrams.
pub record OwnLaws : Type 0 where
  pub others : (p : Settings) (r : ReceiverState) (datagram : List ℕ) (now draw : ℕ) → owner_of datagram ≢ Some p.sender
      → received p r datagram now draw ≡ r
