-- Ticks in a turn, the offers of what they gave, and hand-ups before a receiver's.
use Rattle.std.specs.Prelude.{ℕ, ◌==◌, ◌&&◌, List, true, false, Option, None, Some}
use Rattle.std.specs.Option.{option_map}
use Rattle.norm_base.specs.declared.kinds.Sent.{Sent}
use Rattle.norm_order.specs.declared.up.Up.{Up}
use Rattle.norm_safety.specs.Events.{Ticked, Offered, UpTaken, Sent as Gives, Took, Answer, Silent}
use Rattle.norm_safety.specs.Hands.{is_at}
use Rattle.norm_safety.specs.Lawful.{all_taken}
use Rattle.norm_safety.specs.World.{receiver_at, same_octets}
use Rattle.norm_journal.specs.InWorld.{world_after, answer_to, at, comes}
use Rattle.norm_journal.specs.Judged.{Judged}
use Rattle.norm_journal.specs.Places.{Place, Sending, Offering, Taking, Handing, handing, after_tick}
use Rattle.norm_journal.specs.Same.{same_sent}
use Rattle.norm_journal.specs.Totals.{with_up}

-- a tick gave a datagram or none, as was said
abbrev pub gave_datagram : ℕ → Sent → Place → Answer → Judged → Option Judged
gave_datagram node sent next (Gives datagram) j = elim (same_sent sent datagram) [
  | true ↦ Some (at (after_tick node datagram next) j)
  | false ↦ None
]
gave_datagram node sent next _ j = None

-- a node ticks
abbrev pub ticks : ℕ → Sent → Place → Judged → Option Judged
ticks node sent next j =
    let e = Ticked node j.now in gave_datagram node sent next (answer_to e j) (world_after e j)

-- the tick of the node whose turn it is, where all its hand-ups were taken
abbrev pub tick_of : ℕ → Place → Judged → ℕ → Sent → Option Judged
tick_of due next j node sent = elim (node == due && all_taken (receiver_at j.world node)) [
  | true ↦ ticks node sent next j
  | false ↦ None
]

-- a tick: the sender's, and then the turn takes; or a receiver's
abbrev pub ticks_at : Place → Judged → ℕ → Sent → Option Judged
ticks_at Sending j node sent = tick_of j.profile.sender (Taking 0) j node sent
ticks_at (Handing due nodes) j node sent = tick_of due (handing nodes) j node sent
ticks_at _ j node sent = None

-- an offer: of what the last tick gave
abbrev pub offers_at : Place → Judged → ℕ → List ℕ → Option Judged
offers_at (Offering node datagram next) j from octets = elim (from == node && same_octets octets datagram) [
  | true ↦ option_map (at next) (comes (Offered from octets) Silent j)
  | false ↦ None
]
offers_at _ j from octets = None

-- with a hand-up counted
abbrev pub handed : Up → Judged → Judged
handed up j = record j { totals = with_up up j.totals }

-- a hand-up of the node whose turn it is, in the instance that it is in
abbrev pub ups_at : Place → Judged → ℕ → ℕ → Up → Option Judged
ups_at (Handing due nodes) j node instance up = elim (node == due && is_at j.world node instance) [
  | true ↦ option_map (handed up) (comes (UpTaken node) (Took (Some up)) j)
  | false ↦ None
]
ups_at _ j node instance up = None
