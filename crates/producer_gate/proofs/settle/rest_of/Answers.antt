use Rattle.std.proofs.Common.{◌∷◌, ◌∙◌}
use Rattle.producer_gate.proofs.Settles.{settled_more}
use Rattle.producer_gate.proofs.settle.rest_of.Goals as goal

pub loop-seat-preserved : goal.loop-seat-preserved
loop-seat-preserved c =
    let i = c.loop-seat.invariant in
    let b = c.left_behind-rest.ensures in (
      c.in-Some.seat ∷ i.0,
      settled_more _ _ _ _ _ _ _ _ _ i.1 i.4 c.in-Some.ensures.items b.front b.left.0 b.left.1,
      b.ring.0,
      b.ring.1,
      b.ring.2 ∙ i.4,
      b.ring.3 ∙ i.5,
    )
