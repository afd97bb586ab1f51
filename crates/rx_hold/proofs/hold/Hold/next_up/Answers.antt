use Rattle.std.proofs.Common.{ap}
use Rattle.rx_hold.specs.EntryHold.{EntryHold}
use Rattle.rx_hold.proofs.SettledLemmas.{taken_settled}
use Rattle.rx_hold.proofs.hold.Hold.next_up.Goals as goal

pub returns-clause-settled : goal.returns-clause-settled
returns-clause-settled c =
    taken_settled c.args.self.now _ (ap (λ (h : EntryHold). record h { ups = c.pop_front.new.self.items }) c.self.view_is)
