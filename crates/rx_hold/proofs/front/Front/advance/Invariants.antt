use Rattle.std.proofs.Common.{◌≡◌, ◌≤◌, ℕ}
use Rattle.norm_receive_rules.specs.Holding.{Holding}
use Rattle.rx_hold.specs.EntryHold.{StandsFor}
use Rattle.rx_hold.specs.FrontSound.{HasRoom, IsFront, front_view}
use Rattle.rx_hold.specs.Handing.{left_in}
use Rattle.rx_hold.proofs.HandingLemmas.{HandsMany}
use Rattle.rx_hold.proofs.front.Front.advance.Given as goal

abbrev pub invariant-loop : goal.invariant-loop
invariant-loop l = record {
  sound : IsFront l.self;
  room : (n : ℕ) → HasRoom n l.fn.self → HasRoom n l.self;
  profile : l.self.profile ≡ l.fn.self.profile;
  forward : l.fn.self.point ≤ l.self.point;
  state : (s : Holding) → StandsFor (front_view l.fn.self) s → HandsMany l.fn.self l.self s;
}

abbrev pub decreases-loop : goal.decreases-loop
decreases-loop l = left_in l.self
