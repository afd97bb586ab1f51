use Rattle.std.proofs.Common.{sym, ◌∙◌}
use Rattle.rx_hold.specs.EntryState.{entry_of}
use Rattle.rx_hold.proofs.ReadLemmas.{read_info, read_no_info}
use Rattle.rx_hold.proofs.front.Front.has_info.Goals as goal

pub returns-in-Some : goal.returns-in-Some
returns-in-Some c = λ s stands.
    c.has_info.ensures ∙ read_info c.args.self.now s c.args.index c.requires.front stands c.requires.reached (entry_of c.in-Some.entry.now) (sym c.in-Some.ensures)

pub returns-in-None : goal.returns-in-None
returns-in-None c = λ s stands. read_no_info c.args.self.now s c.args.index c.requires.front stands c.requires.reached (sym c.in-None.ensures)
