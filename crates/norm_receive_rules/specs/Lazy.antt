-- Lists of which only as much is made as is looked at.
use Rattle.std.specs.Prelude.{List, [], ◌∷◌, ⊤}

-- nothing, or a first element and what follows it
pub data Lazy (X : Type 0) : Type 0 where
  Nil : Lazy X
  Next : (first : X) (rest : ⊤ → Lazy X) → Lazy X

-- the elements of one, and then of another
unfoldable pub followed_by : {X : Type 0} → Lazy X → (⊤ → Lazy X) → Lazy X
followed_by Nil more = more tt
followed_by (Next x rest) more = Next x (λ u. followed_by (rest u) more)

-- the elements of a list
unfoldable pub lazily : {X : Type 0} → List X → Lazy X
lazily [] = Nil
lazily (x ∷ xs) = Next x (λ u. lazily xs)

-- all elements
unfoldable pub all_of : {X : Type 0} → Lazy X → List X
all_of Nil = []
all_of (Next x rest) = x ∷ all_of (rest tt)
