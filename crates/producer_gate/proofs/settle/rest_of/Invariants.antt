use Rattle.std.proofs.Common.{◌≡◌, List, vec_len}
use Rattle.crossbeam_queue.specs.Passes.{view, IsPassOf}
use Rattle.producer_gate.specs.Inside.{pulled_in}
use Rattle.producer_gate.specs.Seats.{SeatState}
use Rattle.producer_gate.specs.Views.{IsPulling}
use Rattle.producer_gate.proofs.Settles.{Settled}
use Rattle.producer_gate.proofs.settle.rest_of.Given as goal

abbrev pub invariant-loop-seat : goal.invariant-loop-seat
invariant-loop-seat l =
    (done : List SeatState)
    × Settled (pulled_in (view l.initial.pull)) l.fn.seats.items l.seats.items done l.rest
    × IsPassOf l.ring l.pull
    × IsPulling (view l.pull)
    × (pulled_in (view l.pull) ≡ pulled_in (view l.initial.pull))
    × (l.pull.table_id ≡ l.initial.pull.table_id)

abbrev pub decreases-loop-seat : goal.decreases-loop-seat
decreases-loop-seat l = vec_len l.seats
