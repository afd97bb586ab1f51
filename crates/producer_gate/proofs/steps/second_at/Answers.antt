use Rattle.std.proofs.Common.{refl, arith}
use Rattle.producer_gate.proofs.WordCalls.{reads}
use Rattle.producer_gate.proofs.steps.second_at.Goals as goal

pub load-requires : goal.load-requires
load-requires c =
    let p = c.requires.place in
    let r = c.requires.room in
    (p.0.0, omega (arith, p.0.1, r.1), reads _ _ _ _ p.0.2 p.1)

pub returns-clause-word : goal.returns-clause-word
returns-clause-word c = c.load.ensures.2.2 c.args.at c.requires.room.0 refl
