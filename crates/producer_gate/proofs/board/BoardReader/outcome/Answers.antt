use Rattle.std.proofs.Common.{List, ap, map, sym, subst}
use mathlib.Core.List.{IsPrefix}
use Rattle.producer_gate.specs.Entries.{Entry, entry_in}
use Rattle.producer_gate.specs.Plays.{known_in}
use Rattle.producer_gate.proofs.Prefixes.{prefix_map}
use Rattle.producer_gate.proofs.board.BoardReader.outcome.Goals as goal

pub returns-clause-before : goal.returns-clause-before
returns-clause-before c =
    let v = c.self.inside.place.me.0 in
    let w = c.look-count.new.place.me.0 in
    let later = prefix_map entry_in (known_in v) (known_in w) c.look-count.ensures.later.0 in
    let same = ap (λ m. map entry_in (known_in m.0)) c.find_last.ensures.place.1 in
    subst (λ (z : List Entry × List Entry). IsPrefix z.0 z.1) (λ i. ((c.self.view_is i).known, sym same i)) later
