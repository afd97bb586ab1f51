-- What each step on the board's words tells the seat that makes it.
use Rattle.std.specs.Prelude.{◌≡◌, ℕ, ◌+◌, ◌*◌, ◌<◌, ◌≤◌, List, [], ◌∷◌, ◌++◌, length}
use mathlib.Core.List.{IsPrefix}
use Rattle.atomic_table.specs.Table.{Me, Step}
use Rattle.producer_gate.specs.declared.words.Role.{Role}
use Rattle.producer_gate.specs.declared.words.Role.TheVariants.{Writes, Reads, Gone}
use Rattle.producer_gate.specs.Posts.{words_at}

abbrev pub IsWriter : Role → Type 0
IsWriter (Writes own first second asked) = Unit {0}
IsWriter (Reads known told) = ⊥
IsWriter Gone = ⊥

abbrev pub IsReader : Role → Type 0
IsReader (Writes own first second asked) = ⊥
IsReader (Reads known told) = Unit {0}
IsReader Gone = ⊥

-- the entries that a writer published, the words behind them, and what it asked a reader
abbrev pub own_in : Role → List (ℕ × ℕ)
own_in (Writes own first second asked) = own
own_in (Reads known told) = []
own_in Gone = []

abbrev pub first_in : Role → ℕ
first_in (Writes own first second asked) = first
first_in (Reads known told) = 0
first_in Gone = 0

abbrev pub second_in : Role → ℕ
second_in (Writes own first second asked) = second
second_in (Reads known told) = 0
second_in Gone = 0

abbrev pub asked_in : Role → List (ℕ × ℕ)
asked_in (Writes own first second asked) = asked
asked_in (Reads known told) = []
asked_in Gone = []

-- the entries that a reader knows, and those that it was told of
abbrev pub known_in : Role → List (ℕ × ℕ)
known_in (Writes own first second asked) = []
known_in (Reads known told) = known
known_in Gone = []

abbrev pub told_in : Role → List (ℕ × ℕ)
told_in (Writes own first second asked) = []
told_in (Reads known told) = told
told_in Gone = []

-- a note of what a seat knows
abbrev pub noted : Role → Role
noted (Writes own first second asked) = Reads own []
noted (Reads known told) = Reads known []
noted Gone = Gone

-- a seat that took a note in
abbrev pub heard : Role → Role → Role
heard (Writes own first second asked) note = Writes own first second (known_in note)
heard (Reads known told) note = Reads known (known_in note)
heard Gone note = Gone

abbrev pub PutFirst : Step ℕ → Me ℕ Role → ℕ → Me ℕ Role → Type 0
PutFirst s v found w =
    IsWriter w.0 × (own_in w.0 ≡ own_in v.0) × (first_in w.0 ≡ s.first) × (second_in w.0 ≡ second_in v.0) × (w.1 ≡ v.1)

abbrev pub PutSecond : Step ℕ → Me ℕ Role → ℕ → Me ℕ Role → Type 0
PutSecond s v found w =
    IsWriter w.0 × (own_in w.0 ≡ own_in v.0) × (first_in w.0 ≡ first_in v.0) × (second_in w.0 ≡ s.first) × (w.1 ≡ v.1)

abbrev pub Shown : Step ℕ → Me ℕ Role → ℕ → Me ℕ Role → Type 0
Shown s v found w = IsWriter w.0 × (own_in w.0 ≡ own_in v.0 ++ (first_in v.0, second_in v.0) ∷ []) × (w.1 ≡ v.1)

-- what is published then begins with all that the reader knew and was told of, and there are as many entries as were found
abbrev pub Looked : Step ℕ → Me ℕ Role → ℕ → Me ℕ Role → Type 0
Looked s v found w =
    IsReader w.0 × IsPrefix (known_in v.0) (known_in w.0) × IsPrefix (told_in v.0) (known_in w.0)
    × (length (known_in w.0) ≡ found) × (found ≤ 4096) × (w.1 ≡ v.1)

-- the word of an entry that the reader knows is that entry's
abbrev pub Read : Step ℕ → Me ℕ Role → ℕ → Me ℕ Role → Type 0
Read s v found w =
    (w ≡ v)
    × ((k : ℕ) → k < length (known_in v.0) → s.word ≡ 2 * k + 1 → found ≡ (words_at (known_in v.0) k).0)
    × ((k : ℕ) → k < length (known_in v.0) → s.word ≡ 2 * k + 2 → found ≡ (words_at (known_in v.0) k).1)

abbrev pub Compared : Step ℕ → Me ℕ Role → ℕ → Me ℕ Role → Type 0
Compared s v found w = (w ≡ v) × IsPrefix (asked_in v.0) (own_in v.0)
