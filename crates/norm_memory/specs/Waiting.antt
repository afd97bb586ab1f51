use Rattle.std.specs.Prelude.{ℕ, List, [], ◌∷◌, Option, None, Some, if◌then◌else◌}
use Rattle.std.specs.Ordering.{is_lt, nat_cmp, on, then_cmp}
use Rattle.std.specs.declared.cmp.Ordering.{Ordering}
use Rattle.norm_memory.specs.declared.copy.WaitingCopy.{WaitingCopy}

-- The copies that wait in a network in memory stand in the order in which they are taken.

-- what becomes ready first goes first, of these the copy of the lower offer, of these that for the lower node
abbrev pub by_turn : WaitingCopy → WaitingCopy → Ordering
by_turn = then_cmp (on (λ c. c.ready) nat_cmp) (then_cmp (on (λ c. c.offer) nat_cmp) (on (λ c. c.to) nat_cmp))

-- a copy in its place among others
abbrev pub put_copy : WaitingCopy → List WaitingCopy → List WaitingCopy
put_copy c [] = c ∷ []
put_copy c (d ∷ ds) = if is_lt (by_turn d c) then d ∷ put_copy c ds else c ∷ d ∷ ds

-- copies, each in its place among others
abbrev pub put_copies : List WaitingCopy → List WaitingCopy → List WaitingCopy
put_copies [] waiting = waiting
put_copies (c ∷ cs) waiting = put_copy c (put_copies cs waiting)

-- copies in the order in which they are taken
abbrev pub in_turn : List WaitingCopy → List WaitingCopy
in_turn copies = put_copies copies []

-- the first of a list
abbrev pub first_of : {X : Type 0} → List X → Option X
first_of [] = None
first_of (x ∷ xs) = Some x

-- copies in that order, and for how many more there is room
pub record WaitingState : Type 0 where
  pub copies : List WaitingCopy
  pub room : ℕ
