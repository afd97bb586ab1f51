-- What contracts see of a gate, its seats and its pull seat, and what each call says of them.
use Rattle.std.specs.Prelude.{◌≡◌, ℕ, zero, suc, ◌+◌, ◌-◌, ◌<◌, ◌≤◌, List, [], ◌∷◌, ◌++◌, length, Option, Result, Some, None, Ok, Err}
use Rattle.std.specs.List.{range_with_len}
use Rattle.atomic_table.specs.Seated.{TableId}
use Rattle.crossbeam_queue.specs.Fifo.{Held}
use Rattle.producer_gate.specs.declared.command.Submitted.{Submitted}
use Rattle.producer_gate.specs.declared.command.GateFault.{GateFault}
use Rattle.producer_gate.specs.declared.command.GateFault.TheVariants.{Full, TooMany}
use Rattle.producer_gate.specs.declared.knows.Knows.TheVariants.{Pulls, Submits}
use Rattle.producer_gate.specs.Commands.{of_producer, numbers_of, IsBeginning}
use Rattle.producer_gate.specs.Ring.{WasSo}

-- a gate: which one it is, how many seats it has, and how many commands its ring holds at the most
pub record GateState : Type 0 where
  pub id : TableId
  pub producers : ℕ
  pub capacity : ℕ

-- a producer's seat: whose gate it is of, the producer's number, and the items that it submitted
pub record SeatState : Type 0 where
  pub gate : TableId
  pub producer : ℕ
  pub items : List ℕ

-- the pull seat: whose gate it is of, how many producers submit there, and the commands that it pulled
pub record PullState : Type 0 where
  pub gate : TableId
  pub producers : ℕ
  pub pulled : List Submitted

-- a producer's seat that submitted nothing yet
abbrev pub new_seat : TableId → ℕ → SeatState
new_seat gate producer = record { gate = gate; producer = producer; items = [] }

-- the new seats of the producers 1 to n
abbrev pub new_seats : TableId → ℕ → List SeatState
new_seats gate zero = []
new_seats gate (suc n) = new_seats gate n ++ new_seat gate (n + 1) ∷ []

-- the pull seat of a gate with so many producers, before the first pull
abbrev pub new_pull : TableId → ℕ → PullState
new_pull gate producers = record { gate = gate; producers = producers; pulled = [] }

-- A command was submitted, and has the seat's next number; or it was not, and comes back, where the seat submitted 4,096, or the
-- ring was full at one moment of the call.
abbrev pub SubmitEnds : GateState → SeatState → ℕ → Result ℕ (ℕ × GateFault) → SeatState → Type 0
SubmitEnds g old item (Ok number) new =
    (length old.items < 4096) × (number ≡ length old.items + 1) × (new ≡ record old { items = old.items ++ item ∷ [] })
SubmitEnds g old item (Err (back, TooMany)) new =
    (length old.items ≡ 4096) × (back ≡ item) × (new ≡ old)
SubmitEnds g old item (Err (back, Full)) new =
    (length old.items < 4096) × (back ≡ item) × (new ≡ old) × Held g.capacity (WasSo (Submits old.producer old.items))

-- A command was pulled, which is the next of its producer; or the ring was empty at one moment of the call.
abbrev pub PullEnds : PullState → Option Submitted → PullState → Type 0
PullEnds old (Some c) new =
    (new ≡ record old { pulled = old.pulled ++ c ∷ [] })
    × (0 < c.producer) × (c.producer ≤ old.producers)
    × (c.number ≡ length (of_producer c.producer old.pulled) + 1)
PullEnds old None new = (new ≡ old) × Held 0 (WasSo (Pulls old.producers old.pulled 0 []))

-- what was pulled of a seat is the first that it submitted, numbered 1, 2, .. in order
abbrev pub IsFront : List Submitted → SeatState → Type 0
IsFront pulled s = IsBeginning pulled s.producer s.items

-- a seat's numbers among the names of what was pulled are 1, 2, .. up to some m, each once and in this order, and no more than
-- it submitted
abbrev pub HasNumbers : List (ℕ × ℕ) → SeatState → Type 0
HasNumbers names s = (m : ℕ) × (m ≤ length s.items) × (numbers_of s.producer names ≡ range_with_len 1 m)

-- how many commands of a seat were submitted and not pulled
abbrev pub left_of : List Submitted → SeatState → ℕ
left_of pulled s = length s.items - length (of_producer s.producer pulled)
