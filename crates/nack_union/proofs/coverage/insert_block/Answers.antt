use Rattle.std.proofs.Common.{arith}
use Rattle.nack_union.proofs.coverage.insert_block.Goals as goal

pub insert_run-requires : goal.insert_run-requires
insert_run-requires c =
    let room = c.requires.room in
    let start = c.slot_of-start.ensures.slot in
    omega (arith, room, start)
