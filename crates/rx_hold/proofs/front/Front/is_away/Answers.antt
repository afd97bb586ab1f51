use Rattle.std.proofs.Common.{arith}
use Rattle.rx_hold.proofs.front.Front.is_away.Goals as goal

pub overflow_add-result : goal.overflow_add-result
overflow_add-result c = omega (arith, c.requires.front.within, c.requires.front.most, c.room_of.ensures.most)
