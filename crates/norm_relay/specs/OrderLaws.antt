-- What is promised of the order below: as items it is what was enqueued.
use Rattle.std.specs.Prelude.{ℕ, ⊤, ◌≡◌, List, [], ◌∷◌, false, None}
use Rattle.std.specs.List.{AllByRecursion}
use Rattle.norm_base.specs.Settings.{Settings}
use Rattle.norm_base.specs.declared.kinds.Kind.TheVariants as kind
use Rattle.norm_order.specs.declared.up.Up.{Up}
use Rattle.norm_order.specs.declared.up.Up.TheVariants as up
use Rattle.norm_send_rules.specs.SenderState.{SenderState}
use Rattle.norm_relay.specs.Flat.{Item, flat, open_behind, order_items}
use Rattle.norm_relay.specs.RelayState.{Relaying, relay_opening}
use Rattle.norm_relay.specs.RelayStep.{RelayEvent, relay_step, relay_from}

-- the current order as items
abbrev pub now_items : SenderState → List Item
now_items s = order_items s.current.order

-- the order below is, as items, what was enqueued, and a stream is open if that leaves one open
pub record Ordered (x : Relaying) : Type 0 where
  pub order : now_items x.lower.world.sender ≡ flat x.done
  pub opened : open_behind false x.done ≡ x.opened

-- a file has a name, as each does that a command enqueued above
abbrev pub IsNamed : Up → Type 0
IsNamed (up.Object index kind.File None bytes) = ⊥
IsNamed _ = ⊤

abbrev pub AreNamed : List Up → Type 0
AreNamed ups = AllByRecursion IsNamed ups

-- what waits has names, at each moment
abbrev pub AreNamedAlong : Relaying → List RelayEvent → Type 0
AreNamedAlong x [] = ⊤
AreNamedAlong x (e ∷ events) = AreNamed x.waiting × AreNamedAlong (relay_step x e).0 events

-- After any calls in which each file that waits has a name, the order below is, as items, what was enqueued.
abbrev pub LowerOrder : Type 0
LowerOrder = (up : Settings) (node : ℕ) (down : Settings) (events : List RelayEvent) → AreNamedAlong (relay_opening up node down) events
    → Ordered (relay_from (relay_opening up node down) events)
