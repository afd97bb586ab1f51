use Rattle.rx_hold.proofs.EndLemmas.{read_end, read_no_end}
use Rattle.rx_hold.proofs.front.Front.end.Goals as goal

pub returns-in-Some : goal.returns-in-Some
returns-in-Some c = λ s stands. read_end c.args.self.now s c.args.index c.requires.front stands c.requires.reached c.in-Some.entry.now c.end.result c.in-Some.ensures c.end.ensures

pub returns-in-None : goal.returns-in-None
returns-in-None c = λ s stands. read_no_end c.args.self.now s c.args.index c.requires.front stands c.requires.reached c.in-None.ensures
