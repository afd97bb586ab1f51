use Rattle.std.proofs.Common.{◌≡◌, ◌+◌, ◌-◌}
use Rattle.norm_receive_rules.specs.Holding.{Holding}
use Rattle.rx_hold.specs.EntryHold.{StandsFor}
use Rattle.rx_hold.specs.FrontSound.{HasRoom, IsFront, front_view}
use Rattle.rx_hold.specs.Handing.{IsSettled}
use Rattle.rx_hold.proofs.LoseLemmas.{LosesOn}
use Rattle.rx_hold.proofs.front.Front.lose_all_before.Given as goal

abbrev pub invariant-loop-self : goal.invariant-loop-self
invariant-loop-self l = record {
  sound : IsFront l.self;
  room : HasRoom (l.index - l.self.point + 1) l.self;
  profile : l.self.profile ≡ l.fn.self.profile;
  settled : IsSettled (front_view l.self);
  state : (s : Holding) → StandsFor (front_view l.fn.self) s → LosesOn l.index (front_view l.fn.self) (front_view l.self) s;
}

abbrev pub decreases-loop-self : goal.decreases-loop-self
decreases-loop-self l = l.index - l.self.point
