use Rattle.std.proofs.Common.{◌+◌, sym, arith}
use Rattle.rx_hold.specs.EntryState.{alone_in, entry_of}
use Rattle.rx_hold.specs.Asked.{IsShort}
use Rattle.rx_hold.proofs.NeedLemmas.{read_next, short_ahead, short_behind, short_in, short_nowhere, short_there}
use Rattle.rx_hold.proofs.front.Front.next_short.Goals as goal

pub next_short-requires : goal.next_short-requires
next_short-requires c =
    short_there c.args.self.now c.args.index c.args.block (entry_of c.in-Some.entry.now) c.requires.front c.requires.reached (sym c.in-Some.ensures) c.requires.short

pub returns-in-Some-clause-next : goal.returns-in-Some-clause-next
returns-in-Some-clause-next c = λ s stands.
    let here : IsShort (entry_of c.in-Some.entry.now) c.args.block =
    short_there c.args.self.now c.args.index c.args.block (entry_of c.in-Some.entry.now) c.requires.front c.requires.reached (sym c.in-Some.ensures) c.requires.short in
    read_next c.args.self.now s c.args.index c.requires.front stands c.requires.reached (entry_of c.in-Some.entry.now) c.args.block c.next_short.result (sym c.in-Some.ensures)
    here.reached c.next_short.ensures

pub returns-in-Some-clause-behind : goal.returns-in-Some-clause-behind
returns-in-Some-clause-behind c =
    short_behind (alone_in (entry_of c.in-Some.entry.now)) (entry_of c.in-Some.entry.now).plan c.args.block c.next_short.result c.next_short.ensures

pub returns-in-Some-clause-ahead : goal.returns-in-Some-clause-ahead
returns-in-Some-clause-ahead c =
    let here : IsShort (entry_of c.in-Some.entry.now) c.args.block =
    short_there c.args.self.now c.args.index c.args.block (entry_of c.in-Some.entry.now) c.requires.front c.requires.reached (sym c.in-Some.ensures) c.requires.short in
    let le = here.reached in
    short_ahead c.args.self.now c.args.index (c.args.block + 1) (entry_of c.in-Some.entry.now) (alone_in (entry_of c.in-Some.entry.now)) (entry_of c.in-Some.entry.now).plan
    c.next_short.result c.requires.reached (sym c.in-Some.ensures) (omega (arith, le)) c.next_short.ensures

pub returns-in-Some-clause-short : goal.returns-in-Some-clause-short
returns-in-Some-clause-short c =
    let here : IsShort (entry_of c.in-Some.entry.now) c.args.block =
    short_there c.args.self.now c.args.index c.args.block (entry_of c.in-Some.entry.now) c.requires.front c.requires.reached (sym c.in-Some.ensures) c.requires.short in
    let le = here.reached in
    short_in c.args.self.now c.args.index (c.args.block + 1) (entry_of c.in-Some.entry.now) c.next_short.result c.requires.front c.requires.reached (sym c.in-Some.ensures)
    (omega (arith, le)) c.next_short.ensures

pub returns-in-None-clause-next : goal.returns-in-None-clause-next
returns-in-None-clause-next c = λ s stands.
    short_nowhere c.args.self.now c.args.index c.args.block c.requires.front c.requires.reached (sym c.in-None.ensures) c.requires.short
