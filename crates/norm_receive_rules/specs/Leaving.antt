-- Instances (RFC 5740 section 4.2.1): a receiver follows the sender to one whose id lies above its own, and never goes back.
use Rattle.std.specs.Prelude.{ℕ, ◌==◌, Bool, true, false, Option, None, Some}
use Rattle.norm_ext.specs.InstanceIds.{is_above}
use Rattle.norm_receive_rules.specs.Holding.{holding_nothing}
use Rattle.norm_receive_rules.specs.ReceiverState.{ReceiverState, knowing_nothing}

-- the receiver is in this instance
abbrev pub is_in : ReceiverState → ℕ → Bool
is_in s instance = elim s.instance [ Some current ↦ current == instance | None ↦ false ]

-- The current instance is left and all of it forgotten, hand-ups that were not taken included.
abbrev pub enters : ℕ → ReceiverState → ReceiverState
enters instance s = record s { instance = Some instance; holding = holding_nothing; knows = knowing_nothing }

-- the receiver goes on to this instance: it is in none, or this one lies above its own
abbrev pub goes_to : ReceiverState → ℕ → Bool
goes_to s instance = elim s.instance [ Some current ↦ is_above current instance | None ↦ true ]

-- the state in which a message of this instance is received, where one is
abbrev pub entered : ReceiverState → ℕ → Option ReceiverState
entered s instance = elim (is_in s instance) [
  | true ↦ Some s
  | false ↦ elim (goes_to s instance) [ true ↦ Some (enters instance s) | false ↦ None ]
]
