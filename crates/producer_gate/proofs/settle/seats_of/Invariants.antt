use Rattle.std.proofs.Common.{◌≡◌, ◌≤◌, All, [], vec_len, vec_capacity}
use Rattle.crossbeam_queue.specs.Passes.{view, IsPassOf}
use Rattle.producer_gate.specs.declared.knows.Knows.TheVariants.{Pulls}
use Rattle.producer_gate.specs.Seats.{new_seats}
use Rattle.producer_gate.proofs.settle.seats_of.Given as goal

abbrev pub invariant-loop-made : goal.invariant-loop-made
invariant-loop-made l =
    IsPassOf l.ring l.pull × (view l.pull ≡ Pulls l.made [] 0 [])
    × (l.seats.items ≡ new_seats l.pull.table_id l.made) × All (λ s. s.gate ≡ l.pull.table_id) l.seats.items × (vec_len l.seats ≡ l.made) × (l.producers ≤ vec_capacity l.seats)
