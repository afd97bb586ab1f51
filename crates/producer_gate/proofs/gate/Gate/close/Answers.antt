use Rattle.std.proofs.Common.{ℕ, List, All, sym, subst}
use Rattle.crossbeam_queue.specs.Passes.{view}
use Rattle.producer_gate.specs.Inside.{pulled_in}
use Rattle.producer_gate.specs.Seats.{HasNumbers}
use Rattle.producer_gate.proofs.Names.{all_have_numbers}
use Rattle.producer_gate.proofs.gate.Gate.close.Goals as goal

pub returns-clause-numbers : goal.returns-clause-numbers
returns-clause-numbers c =
    let seats = c.args.seats.items in
    subst (λ (z : List (ℕ × ℕ)). All (HasNumbers z) seats) (sym c.pull.invariant.2) (all_have_numbers (pulled_in (view c.pull.inside.pass)) seats c.rest_of-rest.ensures.front)
