-- What one node handed up, among all that a journal says.
use Rattle.std.specs.Prelude.{ℕ, ◌==◌, List, [], ◌∷◌, true, false}
use Rattle.std.specs.List.{flat_map}
use Rattle.norm_order.specs.declared.up.Up.{Up}

-- a hand-up, where it is this node's
abbrev pub up_of : ℕ → ℕ × Up → List Up
up_of node hand = elim (hand.0 == node) [ true ↦ hand.1 ∷ [] | false ↦ [] ]

-- what this node handed up, in order, in whatever instance
abbrev pub ups_of : ℕ → List (ℕ × Up) → List Up
ups_of node hands = flat_map (up_of node) hands
