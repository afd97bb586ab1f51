-- What was handed up to a node while it was in an instance: the hand-ups that were taken, in order.
use Rattle.std.specs.Prelude.{ℕ, ◌==◌, List, [], ◌∷◌, flat_map, Bool, true, false, Option, None, Some}
use Rattle.norm_order.specs.declared.up.Up.{Up}
use Rattle.norm_receive_rules.specs.Leaving.{is_in}
use Rattle.norm_safety.specs.Events.{Event, UpTaken, Answer, Took}
use Rattle.norm_safety.specs.World.{World, receiver_at}
use Rattle.norm_safety.specs.History.{Happening}

-- the node's receiver is in this instance
abbrev pub is_at : World → ℕ → ℕ → Bool
is_at w node instance = elim (receiver_at w node) [ Some r ↦ is_in r instance | None ↦ false ]

-- what an event took from a node
abbrev pub taken_in : ℕ → Event → Answer → List Up
taken_in node (UpTaken other) (Took (Some up)) = elim (other == node) [ true ↦ up ∷ [] | false ↦ [] ]
taken_in node _ _ = []

-- what was taken from a node while it was in an instance
abbrev pub hands : List Happening → ℕ → ℕ → List Up
hands happened node instance = flat_map
    (λ (h : Happening). elim (is_at h.before node instance) [ true ↦ taken_in node h.event h.answer | false ↦ [] ])
    happened

-- the instance that a node is in, where it is in one
abbrev pub instance_at : World → ℕ → Option ℕ
instance_at w node = elim (receiver_at w node) [ Some r ↦ r.instance | None ↦ None ]
