-- What the fields of a gate and of its seats stand for, and what holds of them.
use Rattle.std.specs.Prelude.{◌≡◌, ℕ, ◌*◌, ◌≤◌, List, [], length, map, vec_capacity}
use Rattle.crossbeam_queue.specs.Passes.{view, ruled_capacity}
use Rattle.producer_gate.specs.declared.command.Submitted.{Submitted}
use Rattle.producer_gate.specs.declared.knows.Knows.{Knows}
use Rattle.producer_gate.specs.declared.knows.Knows.TheVariants.{Pulls, Submits, Spent}
use Rattle.producer_gate.specs.declared.gate.Gate.TheInside as gate
use Rattle.producer_gate.specs.declared.gate.Seat.TheInside as seat
use Rattle.producer_gate.specs.declared.gate.PullSeat.TheInside as pull
use Rattle.producer_gate.specs.Commands.{named}
use Rattle.producer_gate.specs.Seats.{GateState, SeatState, PullState}

-- the items that a producer's pass knows
abbrev pub items_in : Knows → List ℕ
items_in (Pulls given pulled ended last) = []
items_in (Submits producer items) = items
items_in Spent = []

-- how many producers and which commands the pull seat's pass knows
abbrev pub given_in : Knows → ℕ
given_in (Pulls given pulled ended last) = given
given_in (Submits producer items) = 0
given_in Spent = 0

abbrev pub pulled_in : Knows → List Submitted
pulled_in (Pulls given pulled ended last) = pulled
pulled_in (Submits producer items) = []
pulled_in Spent = []

abbrev pub gate_state : gate.Inside → GateState
gate_state g = record { id = g.ring.table.shared.table_id; producers = g.producers; capacity = ruled_capacity g.ring }

abbrev pub IsGate : gate.Inside → Type 0
IsGate g = (1 ≤ g.producers) × (g.producers ≤ 4)

abbrev pub seat_state : seat.Inside → SeatState
seat_state s = record { gate = s.pass.table_id; producer = s.producer; items = items_in (view s.pass) }

-- the pass is at rest, and knows whose it is and how many items it submitted
abbrev pub IsSeat : seat.Inside → Type 0
IsSeat s =
    (s.pass.me.1 ≡ []) × (view s.pass ≡ Submits s.producer (items_in (view s.pass)))
    × (s.count ≡ length (items_in (view s.pass))) × (s.count ≤ 4096)

abbrev pub pull_state : pull.Inside → PullState
pull_state s = record { gate = s.pass.table_id; producers = given_in (view s.pass); pulled = pulled_in (view s.pass) }

-- the pass is at rest, and the names of what it pulled are kept, with room for all that can be submitted
abbrev pub IsPullSeat : pull.Inside → Type 0
IsPullSeat s =
    (s.pass.me.1 ≡ []) × (view s.pass ≡ Pulls (given_in (view s.pass)) (pulled_in (view s.pass)) 0 [])
    × (s.names.items ≡ map named (pulled_in (view s.pass)))
    × (given_in (view s.pass) * 4096 ≤ vec_capacity s.names)
