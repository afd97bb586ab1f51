use Rattle.rx_hold.specs.Seats.{IsSeen}
use Rattle.rx_hold.proofs.SeatLemmas.{none_becomes}
use Rattle.rx_hold.proofs.ring.see_at.Goals as goal

pub returns-in_default-clause-items : goal.returns-in_default-clause-items
returns-in_default-clause-items c =
    none_becomes c.args.ring.now.items c.args.place c.index_mut.result.now (IsSeen c.args.block) c.requires.place c.index_mut.ensures.value c.in_default.is
