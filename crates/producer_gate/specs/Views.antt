-- What each step of the ring tells the pass that makes it.
use Rattle.std.specs.Prelude.{◌≡◌, ◌+◌, ◌*◌, ◌<◌, ◌≤◌, List, [], ◌∷◌, ◌++◌, length}
use Rattle.producer_gate.specs.declared.command.Submitted.{Submitted}
use Rattle.producer_gate.specs.declared.knows.Knows.{Knows}
use Rattle.producer_gate.specs.declared.knows.Knows.TheVariants.{Pulls, Submits, Spent}
use Rattle.producer_gate.specs.Commands.{of_producer, IsBeginning}

-- the pull seat's view once it gave out one more seat
abbrev pub one_more : Knows → Knows
one_more (Pulls given pulled ended last) = Pulls (given + 1) pulled ended last
one_more (Submits producer items) = Submits producer items
one_more Spent = Spent

-- the view of that seat
abbrev pub newcomer : Knows → Knows
newcomer (Pulls given pulled ended last) = Submits (given + 1) []
newcomer (Submits producer items) = Spent
newcomer Spent = Spent

-- the pull seat's view once it took in a producer's
abbrev pub taken_in : Knows → Knows → Knows
taken_in (Pulls given pulled ended last) (Submits producer items) = Pulls given pulled producer items
taken_in v w = v

-- a producer knows one item more
abbrev pub Added : Knows → Submitted → Knows → Type 0
Added (Submits producer items) c w = w ≡ Submits producer (items ++ c.item ∷ [])
Added (Pulls given pulled ended last) c w = ⊥
Added Spent c w = ⊥

-- The pull seat knows one command more. It is the next of its producer, and not all that could be pulled had been.
abbrev pub Taken : Knows → Submitted → Knows → Type 0
Taken (Pulls given pulled ended last) c w =
    (w ≡ Pulls given (pulled ++ c ∷ []) ended last)
    × (0 < c.producer) × (c.producer ≤ given)
    × (c.number ≡ length (of_producer c.producer pulled) + 1)
    × (length pulled < given * 4096)
Taken (Submits producer items) c w = ⊥
Taken Spent c w = ⊥

-- the pull seat knows that what was pulled of the seat that it took in last is the first that this one submitted
abbrev pub Compared : Knows → List Submitted → Type 0
Compared (Pulls given pulled ended last) ring = IsBeginning pulled ended last
Compared (Submits producer items) ring = ⊥
Compared Spent ring = ⊥

-- it is a pull seat's view
abbrev pub IsPulling : Knows → Type 0
IsPulling (Pulls given pulled ended last) = Unit {0}
IsPulling (Submits producer items) = ⊥
IsPulling Spent = ⊥
