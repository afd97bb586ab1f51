use Rattle.std.proofs.Common.{◌∙◌}
use Rattle.rx_hold.proofs.NeedLemmas.{read_no_seen, read_seen}
use Rattle.rx_hold.proofs.front.Front.seen.Goals as goal

pub returns-in-Some : goal.returns-in-Some
returns-in-Some c = λ s stands. c.seen.ensures ∙ read_seen c.args.self.now s c.args.index c.requires.front stands c.requires.reached c.in-Some.entry.now c.in-Some.ensures

pub returns-in-None : goal.returns-in-None
returns-in-None c = λ s stands. read_no_seen c.args.self.now s c.args.index c.requires.front stands c.requires.reached c.in-None.ensures
