use Rattle.rx_hold.specs.Seats.{IsOffered, MayOffer}
use Rattle.rx_hold.specs.declared.ring.Seat.{Seat}
use Rattle.rx_hold.proofs.SeatLemmas.{none_becomes, seat_there, there_has}
use Rattle.rx_hold.proofs.ring.offer_at.Goals as goal

pub offer-requires : goal.offer-requires
offer-requires c =
    there_has (λ (s : Seat). MayOffer s c.args.id.block c.args.solver.now c.args.stream_solver.now) _ c.in-Some.seat (seat_there c.args.ring.now.items c.args.place c.index_mut.result.now c.in-Some.seat c.requires.place c.index_mut.ensures.value c.in-Some.is) c.requires.may

pub returns-in-None-clause-items : goal.returns-in-None-clause-items
returns-in-None-clause-items c =
    none_becomes c.args.ring.now.items c.args.place c.index_mut.result.now (IsOffered _ c.args.id.block c.args.id.symbol c.args.payload.now) c.requires.place c.index_mut.ensures.value c.in-None.is
