-- What hand-ups bring, without how it was cut: objects, and the octets of streams one by one, without indices.
use Rattle.std.specs.Prelude.{ℕ, List, [], ◌∷◌, ◌++◌, map, flat_map, Bool, true, false, Option}
use Rattle.norm_base.specs.declared.kinds.Kind.{Kind}
use Rattle.norm_order.specs.declared.up.Up.{Up}
use Rattle.norm_order.specs.declared.up.Up.TheVariants as up
use Rattle.norm_order.specs.Entries.{Object, Whole, Stream, Entry}
use Rattle.norm_order.specs.Segments.{written, has_end}

-- an object; a stream's beginning, one of its octets, or its end
pub data Item : Type 0 where
  Thing : (kind : Kind) (info : Option (List ℕ)) (octets : List ℕ) → Item
  Begins : Item
  Octet : (octet : ℕ) → Item
  Ends : Item

-- a stream is open after a hand-up
abbrev pub leaves_open : Up → Bool
leaves_open (up.Object index kind info bytes) = false
leaves_open (up.StreamOpen index) = true
leaves_open (up.StreamBytes index offset bytes) = true
leaves_open (up.StreamEnd index) = false
leaves_open (up.Lost index) = false

-- A hand-up as items. The loss of an open stream is its end. Any other loss is nothing.
abbrev pub items_of : Bool → Up → List Item
items_of opened (up.Object index kind info bytes) = Thing kind info bytes ∷ []
items_of opened (up.StreamOpen index) = Begins ∷ []
items_of opened (up.StreamBytes index offset bytes) = map Octet bytes
items_of opened (up.StreamEnd index) = Ends ∷ []
items_of true (up.Lost index) = Ends ∷ []
items_of false (up.Lost index) = []

-- hand-ups as items, if a stream is open before them or none is
unfoldable pub flat_from : Bool → List Up → List Item
flat_from opened [] = []
flat_from opened (u ∷ ups) = items_of opened u ++ flat_from (leaves_open u) ups

-- hand-ups as items
abbrev pub flat : List Up → List Item
flat ups = flat_from false ups

-- whether a stream is open after hand-ups
unfoldable pub open_behind : Bool → List Up → Bool
open_behind opened [] = opened
open_behind opened (u ∷ ups) = open_behind (leaves_open u) ups

-- the end of a stream that was closed
abbrev pub end_items : Bool → List Item
end_items ended = elim ended [ true ↦ Ends ∷ [] | false ↦ [] ]

-- an object of an order as items, with all that was written to a stream
abbrev pub object_items : Object → List Item
object_items (Whole kind info octets) = Thing kind info octets ∷ []
object_items (Stream parts) = Begins ∷ (map Octet (written parts) ++ end_items (has_end parts))

-- an order as items
abbrev pub order_items : List Entry → List Item
order_items order = flat_map (λ (entry : Entry). object_items entry.object) order
