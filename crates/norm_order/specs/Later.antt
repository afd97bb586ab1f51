-- An order later in a run: entries stay, a last one that is an open stream may have more parts, and more entries join.
use Rattle.std.specs.Prelude.{◌≡◌, List, [], ◌∷◌, ◌++◌, true, ⊤}
use Rattle.norm_order.specs.Entries.{Part, Object, Whole, Stream, Entry}
use Rattle.norm_order.specs.Segments.{has_end}

-- an object later: data and files stay; a stream that did not end may have more parts
abbrev pub ObjectLater : Object → Object → Type 0
ObjectLater (Whole kind info octets) later = later ≡ Whole kind info octets
ObjectLater (Stream parts) later = (more : List Part) × (later ≡ Stream (parts ++ more)) × (has_end parts ≡ true → more ≡ [])

-- an order later: all entries but the last stay
abbrev pub OrderLater : List Entry → List Entry → Type 0
OrderLater [] later = ⊤
OrderLater (x ∷ []) [] = ⊥
OrderLater (x ∷ []) (y ∷ later) = (y.by ≡ x.by) × ObjectLater x.object y.object
OrderLater (x ∷ z ∷ order) [] = ⊥
OrderLater (x ∷ z ∷ order) (y ∷ later) = (y ≡ x) × OrderLater (z ∷ order) later
