-- An instance that a receiver left is never entered again (RFC 5740 section 4.2.1).
use Rattle.std.specs.Prelude.{◌≡◌, ◌<◌, ◌≤◌, ◌+◌, ◌⊎◌, ℕ, List, [], ◌∷◌, fold, Option, None, Some, IfSome}
use Rattle.norm_base.specs.Settings.{Settings}
use Rattle.norm_ext.specs.InstanceIds.{rise, most_rise}
use Rattle.norm_receive_rules.specs.ReceiverState.{ReceiverState}
use Rattle.norm_receive_rules.specs.ReceiverStep.{ReceiverEvent, receiver_step}

-- the state after these events
abbrev pub after : Settings → ReceiverState → List ReceiverEvent → ReceiverState
after p s events = fold (λ t event. (receiver_step p t event).0) s events

-- The instance is none, or its id lies less than half of all ids above the first: no sender comes to others.
abbrev pub IsNearFirst : ℕ → ReceiverState → Type 0
IsNearFirst first s = IfSome s.instance (λ id. (id < 65536) × (rise first id ≤ most_rise))

-- before and after each of these events
abbrev pub StaysNearFirst : Settings → ℕ → ReceiverState → List ReceiverEvent → Type 0
StaysNearFirst p first s [] = IsNearFirst first s
StaysNearFirst p first s (event ∷ events) = IsNearFirst first s × StaysNearFirst p first (receiver_step p s event).0 events

-- how high an instance lies above the first, and none below all
abbrev pub height : ℕ → Option ℕ → ℕ
height first None = 0
height first (Some id) = rise first id + 1

-- Each change of the instance leads higher. So what was left lies lower than what is current ever after, and is never
-- entered again.
pub record InstanceLaws : Type 0 where
  pub higher : (p : Settings) (first : ℕ) (s : ReceiverState) (events : List ReceiverEvent) → first < 65536 → StaysNearFirst p first s events
      → ((after p s events).instance ≡ s.instance) ⊎ (height first s.instance < height first (after p s events).instance)
