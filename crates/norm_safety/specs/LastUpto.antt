-- Everything up to the last closed source symbol of an order is all that is handed up of it, but for a stream that only begins.
use Rattle.std.specs.Prelude.{◌≡◌, ◌⊎◌, ℕ, List, [], ◌∷◌, ◌++◌, Some}
use Rattle.norm_base.specs.Settings.{Settings}
use Rattle.fec_plan.specs.declared.position.Position.{Position}
use Rattle.norm_order.specs.declared.up.Up.{Up}
use Rattle.norm_order.specs.declared.up.Up.TheVariants as up
use Rattle.norm_order.specs.Entries.{Entry}
use Rattle.norm_order.specs.Shapes.{shapes_of, last_source}
use Rattle.norm_order.specs.Upto.{all_parts, upto}
use Rattle.norm_safety.specs.History.{History}

-- nothing, or the beginning of a stream of which nothing is closed
abbrev pub IsBeginning : List Up → Type 0
IsBeginning ups = (ups ≡ []) ⊎ ((index : ℕ) × (ups ≡ up.StreamOpen index ∷ []))

-- Up to a position stands all that is handed up of an order, but for a beginning. Where the open stream is cut, that is all of the order.
pub record IsAllOf (p : Settings) (order : List Entry) (at : Position) : Type 0 where
  pub rest : List Up
  pub beginning : IsBeginning rest
  pub whole : upto p order at ++ rest ≡ all_parts p 0 order

-- of the current order the last closed source symbol is such a position
abbrev pub LastUpto : Settings → History → Type 0
LastUpto p h =
    (at : Position) → last_source (shapes_of p h.now.sender.current.order) ≡ Some at → IsAllOf p h.now.sender.current.order at
