-- Each receiver is in the current instance from the first datagram of the sender on that it hears in a tail.
use Rattle.std.specs.Prelude.{◌≡◌, ℕ, List, Contains, true, Some, Ok}
use Rattle.norm_base.specs.Settings.{Settings, InRange}
use Rattle.norm_ext.specs.Message.{Message, Info, Data, Flush, Squelch}
use Rattle.norm_ext.specs.Reading.{decoded}
use Rattle.norm_ext.specs.Written.{Written}
use Rattle.norm_receive_rules.specs.Leaving.{is_in}
use Rattle.norm_receive_rules.specs.ReceiverState.{ReceiverState}
use Rattle.norm_receive_rules.specs.Receiving.{received}
use Rattle.norm_send_rules.specs.Ticking.{ticked}
use Rattle.norm_safety.specs.Events.{Event}
use Rattle.norm_safety.specs.Jobs.{AreEvents}
use Rattle.norm_safety.specs.Lawful.{Lawful}
use Rattle.norm_safety.specs.Tail.{Course}
use Rattle.norm_safety.specs.World.{World, receiver_at}
use Rattle.norm_safety.specs.WorldStep.{run}
use Rattle.norm_recovery.specs.TailLawful.{MayGoOn}
use Rattle.norm_recovery.specs.TailOf.{IsTail, IsMoment}

-- a message of the sender, of this instance
abbrev pub IsOwnMessage : Settings → ℕ → Message → Type 0
IsOwnMessage p id (Info m) = (m.head.source ≡ p.sender) × (m.head.instance ≡ id)
IsOwnMessage p id (Data m) = (m.head.source ≡ p.sender) × (m.head.instance ≡ id)
IsOwnMessage p id (Flush m) = (m.head.source ≡ p.sender) × (m.head.instance ≡ id)
IsOwnMessage p id (Squelch m) = (m.head.source ≡ p.sender) × (m.head.instance ≡ id)
IsOwnMessage p id _ = ⊥

-- a datagram spells such a message
pub record IsOwn (p : Settings) (id : ℕ) (d : Written) : Type 0 where
  pub message : IsOwnMessage p id d.message
  pub read : decoded d.octets ≡ Ok d.message

-- What a tick of the sender gives after a lawful run is of its current instance. And whoever hears such a datagram at a moment of a tail is
-- in that instance then.
pub record MembersEnter : Type 0 where
  pub own : (p : Settings) → InRange p → (events : List Event) → Lawful p events → AreEvents events → (now : ℕ) (d : Written)
      → (ticked p (run p events).sender now).1 ≡ Some d → IsOwn p (run p events).sender.current.id d
  pub enters : (p : Settings) → InRange p → (events : List Event) → MayGoOn p events → (c : Course) → IsTail p (run p events) c → (v : World)
      → IsMoment p (run p events) c v → (from : ℕ) (d : Written) → Contains v.offered (from, d) → IsOwn p v.sender.current.id d → (node : ℕ) (r : ReceiverState)
      → receiver_at v node ≡ Some r → (now draw : ℕ) → is_in (received p r d.octets now draw) v.sender.current.id ≡ true
