use Rattle.std.proofs.Common.{arith}
use Rattle.producer_gate.proofs.WordCalls.{shows}
use Rattle.producer_gate.proofs.steps.show.Goals as goal

pub store-requires : goal.store-requires
store-requires c =
    let p = c.requires.place in
    let r = c.requires.room in
    (p.0.0, omega (arith, p.0.1, r.1), shows _ _ _ _ p.0.2 p.1 r.0 r.1)
