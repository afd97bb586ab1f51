use Rattle.std.proofs.Common.{List, ℕ}
use Rattle.rx_hold.specs.Seats.{IsInformed}
use Rattle.rx_hold.proofs.SeatLemmas.{none_becomes}
use Rattle.rx_hold.proofs.ring.put_info_at.Goals as goal

pub returns-in_default-clause-items : goal.returns-in_default-clause-items
returns-in_default-clause-items c =
    let info : List ℕ = c.args.info in
    none_becomes c.args.ring.now.items c.args.place c.index_mut.result.now (IsInformed info) c.requires.place c.index_mut.ensures.value c.in_default.is
