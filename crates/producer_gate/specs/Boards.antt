-- What contracts see of a board, its readers and its fronts, and what publishing leaves.
use Rattle.std.specs.Prelude.{◌≡◌, ℕ, ◌<◌, List, [], ◌∷◌, ◌++◌, length, Result, Ok, Err}
use Rattle.atomic_table.specs.Seated.{TableId}
use Rattle.norm_base.specs.declared.fault.Memory.{Memory}
use Rattle.norm_send_rules.specs.declared.news.Outcome.{Outcome}
use Rattle.producer_gate.specs.Entries.{Entry, entry}

-- a board: which one it is, and the entries that it published, in order
pub record BoardState : Type 0 where
  pub id : TableId
  pub entries : List Entry

-- a reader: whose board it reads, and the entries that it saw or was told of
pub record ReaderState : Type 0 where
  pub board : TableId
  pub known : List Entry

-- a front: whose board it is of, and the entries that were published when it was given
pub record FrontState : Type 0 where
  pub board : TableId
  pub entries : List Entry

-- a reader that saw nothing yet
abbrev pub new_reader : TableId → ReaderState
new_reader board = record { board = board; known = [] }

-- the front of all that a board published
abbrev pub front_of : BoardState → FrontState
front_of b = record { board = b.id; entries = b.entries }

abbrev pub with_entry : BoardState → ℕ → Outcome → BoardState
with_entry b mark outcome = record b { entries = b.entries ++ entry mark outcome ∷ [] }

-- the entry was added behind the others, and the front has it too; or 4,096 are published, and all stays
abbrev pub PublishEnds : BoardState → ℕ → Outcome → Result FrontState Memory → BoardState → Type 0
PublishEnds old mark outcome (Ok front) new =
    (length old.entries < 4096) × (new ≡ with_entry old mark outcome) × (front ≡ front_of new)
PublishEnds old mark outcome (Err want) new = (length old.entries ≡ 4096) × (new ≡ old)
