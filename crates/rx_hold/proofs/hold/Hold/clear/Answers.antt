use Rattle.std.proofs.Common.{refl, arith}
use Rattle.rx_hold.proofs.SettledLemmas.{none_settled}
use Rattle.rx_hold.proofs.TakeLemmas.{empty_sound}
use Rattle.rx_hold.proofs.hold.Hold.clear.Goals as goal

pub invariant_of-self : goal.invariant_of-self
invariant_of-self c = record {
  front =
      empty_sound _ c.fill.ensures.items (omega (arith, c.fill.ensures.capacity, c.clear.ensures.capacity, c.self.invariant.front.places_room)) refl refl c.self.invariant.front.most
      c.clear-2.ensures.items;
  solver = c.self.invariant.solver;
  stream_solver = c.self.invariant.stream_solver;
}

pub returns-clause-settled : goal.returns-clause-settled
returns-clause-settled c = none_settled _ c.fill.new.ring.items _ c.fill.ensures.items
