use Rattle.std.proofs.Common.{sym, arith}
use Rattle.rx_hold.specs.EntryState.{alone_in, entry_of}
use Rattle.rx_hold.proofs.FirstLemmas.{first_says}
use Rattle.rx_hold.proofs.NeedLemmas.{read_first, read_no_first, short_ahead, short_in}
use Rattle.rx_hold.proofs.front.Front.first_short.Goals as goal

pub returns-in-Some-clause-exact : goal.returns-in-Some-clause-exact
returns-in-Some-clause-exact c = λ s stands.
    read_first c.args.self.now s c.args.index c.requires.front stands c.requires.reached (entry_of c.in-Some.entry.now) c.first_short.result (sym c.in-Some.ensures) c.first_short.ensures

pub returns-in-None-clause-exact : goal.returns-in-None-clause-exact
returns-in-None-clause-exact c = λ s stands. read_no_first c.args.self.now s c.args.index c.requires.front stands c.requires.reached (sym c.in-None.ensures)

pub returns-in-Some-clause-first : goal.returns-in-Some-clause-first
returns-in-Some-clause-first c = λ s stands. first_says s c.args.index _ (returns-in-Some-clause-exact c s stands)

pub returns-in-None-clause-first : goal.returns-in-None-clause-first
returns-in-None-clause-first c = λ s stands. first_says s c.args.index _ (returns-in-None-clause-exact c s stands)

pub returns-in-Some-clause-ahead : goal.returns-in-Some-clause-ahead
returns-in-Some-clause-ahead c =
    short_ahead c.args.self.now c.args.index (entry_of c.in-Some.entry.now).point.block (entry_of c.in-Some.entry.now) (alone_in (entry_of c.in-Some.entry.now))
    (entry_of c.in-Some.entry.now).plan c.first_short.result c.requires.reached (sym c.in-Some.ensures) (omega arith) c.first_short.ensures

pub returns-in-Some-clause-short : goal.returns-in-Some-clause-short
returns-in-Some-clause-short c =
    short_in c.args.self.now c.args.index (entry_of c.in-Some.entry.now).point.block (entry_of c.in-Some.entry.now) c.first_short.result
    c.requires.front c.requires.reached (sym c.in-Some.ensures) (omega arith) c.first_short.ensures
