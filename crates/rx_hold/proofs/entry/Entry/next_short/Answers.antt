use Rattle.std.proofs.Common.{◌+◌, sym, subst}
use Rattle.rx_hold.specs.EntryState.{alone_in, entry_of}
use Rattle.rx_hold.specs.declared.entry.Entry.{Entry}
use Rattle.norm_receive_rules.specs.Short.{IsShortFrom}
use Rattle.rx_hold.proofs.entry.Entry.next_short.Goals as goal

pub returns-in-Object : goal.returns-in-Object
returns-in-Object c =
    subst (λ (k : Entry). IsShortFrom (alone_in (entry_of k)) (entry_of k).plan (c.args.block + 1) c.next_short.result) (sym c.in-Object.is) c.next_short.ensures

pub returns-in-Stream : goal.returns-in-Stream
returns-in-Stream c =
    subst (λ (k : Entry). IsShortFrom (alone_in (entry_of k)) (entry_of k).plan (c.args.block + 1) c.next_short-in-Stream.result) (sym c.in-Stream.is) c.next_short-in-Stream.ensures
