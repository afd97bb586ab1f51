-- The commands that producers submit, and those of one producer among them.
use Rattle.std.specs.Prelude.{◌≡◌, ℕ, ◌+◌, ◌==◌, ◌≤◌, List, [], ◌∷◌, length, take, map, filter}
use Rattle.producer_gate.specs.declared.command.Submitted.{Submitted}

-- the commands of one producer, in their order
abbrev pub of_producer : ℕ → List Submitted → List Submitted
of_producer p commands = filter (λ (c : Submitted). c.producer == p) commands

-- these items as the commands of a producer, numbered from n on
abbrev pub numbered : ℕ → ℕ → List ℕ → List Submitted
numbered p n [] = []
numbered p n (item ∷ items) = record { producer = p; number = n; item = item } ∷ numbered p (n + 1) items

-- a command without its item
abbrev pub named : Submitted → ℕ × ℕ
named c = (c.producer, c.number)

-- the numbers that a producer has in a list of names
abbrev pub numbers_of : ℕ → List (ℕ × ℕ) → List ℕ
numbers_of p names = map (λ (e : ℕ × ℕ). e.1) (filter (λ (e : ℕ × ℕ). e.0 == p) names)

-- what was pulled of a producer is the first of these items, numbered 1, 2, ..
abbrev pub IsBeginning : List Submitted → ℕ → List ℕ → Type 0
IsBeginning pulled producer items =
    (length (of_producer producer pulled) ≤ length items)
    × (of_producer producer pulled ≡ numbered producer 1 (take (length (of_producer producer pulled)) items))
