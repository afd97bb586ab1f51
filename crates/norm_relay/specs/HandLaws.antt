-- What is promised of the hand-ups above: what was enqueued and what waits is all that the node handed up in its instance.
use Rattle.std.specs.Prelude.{ℕ, ⊤, ◌≡◌, List, [], ◌∷◌, ◌++◌, Bool, true, false, Option, None, Some}
use Rattle.norm_base.specs.Settings.{Settings}
use Rattle.norm_order.specs.declared.up.Up.{Up}
use Rattle.norm_safety.specs.Hands.{hands}
use Rattle.norm_relay.specs.Handing.{history_of, IsLawfulSide, HandsOn}
use Rattle.norm_relay.specs.RelayState.{Relaying, relay_opening, can_relay, upper_instance}
use Rattle.norm_relay.specs.RelayStep.{RelayEvent, UpDelivered, receiver_hears, relay_step, relay_run}
use Rattle.norm_relay.specs.Sides.{Side}

-- what a node handed up in an instance
abbrev pub handed_in : Side → ℕ → ℕ → List Up
handed_in s node id = hands (history_of s).happened node id

-- What was enqueued and what waits is what was handed up. Until a restart below that waits is made, what waits is.
abbrev pub HandsAs : Bool → List Up → List Up → List Up → Type 0
HandsAs false handed done waiting = handed ≡ done ++ waiting
HandsAs true handed done waiting = handed ≡ waiting

-- so it is in the instance that the node is in, and in none there is nothing
abbrev pub HandsIn : Bool → (ℕ → List Up) → List Up → List Up → Option ℕ → Type 0
HandsIn anew handed done waiting None = (done ≡ []) × (waiting ≡ [])
HandsIn anew handed done waiting (Some id) = HandsAs anew (handed id) done waiting

-- an instance that the node goes on to is one of which it handed up nothing
abbrev pub IsFresh : Relaying → RelayEvent → Type 0
IsFresh x (UpDelivered datagram now draw) = x.waiting ≡ [] → (id : ℕ) → upper_instance (receiver_hears datagram now draw x) ≡ Some id
    → (upper_instance x ≡ Some id → ⊥) → handed_in x.upper x.node id ≡ []
IsFresh x _ = ⊤

abbrev pub AreFresh : Relaying → List RelayEvent → Type 0
AreFresh x [] = ⊤
AreFresh x (e ∷ events) = IsFresh x e × AreFresh (relay_step x e).0 events

-- what was enqueued and what waits is what the node handed up in its instance
abbrev pub IsWhole : Relaying → Type 0
IsWhole x = HandsIn x.anew (handed_in x.upper x.node) x.done x.waiting (upper_instance x)

-- so it is after any calls in which the node never comes back to an instance
abbrev pub HandsFresh : Type 0
HandsFresh = (up : Settings) (node : ℕ) (down : Settings) (events : List RelayEvent) → can_relay up node down ≡ true
    → AreFresh (relay_opening up node down) events → IsWhole (relay_run up node down events)

-- and after any calls that leave the session above lawful
abbrev pub HandsWhole : Type 0
HandsWhole = (up : Settings) (node : ℕ) (down : Settings) (events : List RelayEvent) → can_relay up node down ≡ true
    → IsLawfulSide (relay_run up node down events).upper → IsWhole (relay_run up node down events)

-- Below it hands on what it was handed up: the second sentence of the law of a relay.
abbrev pub HandsOnInRuns : Type 0
HandsOnInRuns = (up : Settings) (node : ℕ) (down : Settings) (events : List RelayEvent) → can_relay up node down ≡ true
    → IsLawfulSide (relay_run up node down events).upper → HandsOn (relay_run up node down events)
