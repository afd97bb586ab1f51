use Rattle.std.proofs.Common.{◌≡◌, ◌≤◌, All, replicate, vec_len, vec_capacity}
use Rattle.std.specs.Arc.{arc_value}
use Rattle.producer_gate.specs.Boards.{new_reader}
use Rattle.producer_gate.specs.Places.{IsAt}
use Rattle.producer_gate.proofs.lookup.readers_of.Given as goal

abbrev pub invariant-loop-made : goal.invariant-loop-made
invariant-loop-made l =
    IsAt (arc_value l.words).shared.table_id l.place × (l.place.me ≡ l.initial.place.me)
    × (l.list.items ≡ replicate l.made (new_reader l.initial.place.table_id))
    × All (λ r. r.board ≡ l.initial.place.table_id) l.list.items
    × (vec_len l.list ≡ l.made) × (l.readers ≤ vec_capacity l.list)
