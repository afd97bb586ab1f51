use Rattle.std.proofs.Common.{arith}
use Rattle.nack_union.proofs.Wholes.{past_closed}
use Rattle.nack_union.proofs.marks.Marks.of_object.Goals as goal

pub with_room-requires-clause-behind : goal.with_room-requires-clause-behind
with_room-requires-clause-behind c = λ block le.
    past_closed c.args.plan.now c.all_symbols.result block c.blocks-2.ensures.sound
    (let all = c.all_symbols.ensures in omega (arith, all)) (let many = c.blocks-2.ensures.exact in omega (arith, many, le))
