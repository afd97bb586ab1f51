use Rattle.std.proofs.Common.{refl, arith, rules}
use Rattle.rx_hold.proofs.SettledLemmas.{none_settled}
use Rattle.rx_hold.proofs.TakeLemmas.{empty_sound}
use Rattle.rx_hold.proofs.hold.Hold.new.Goals as goal

pub invariant_of-result-2 : goal.invariant_of-result-2
invariant_of-result-2 c = record {
  front = empty_sound _ c.fill.ensures.items (omega (arith, c.fill.ensures.capacity, c.in_ok-ring.ensures.capacity)) refl refl (let both = c.profile.invariant.octets in omega (arith, both.0, both.1)) c.new-3.ensures.items;
  solver = search rules;
  stream_solver = search rules;
}

pub returns-clause-settled : goal.returns-clause-settled
returns-clause-settled c = none_settled _ c.fill.new.ring.items _ c.fill.ensures.items
