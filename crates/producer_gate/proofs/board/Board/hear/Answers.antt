use Rattle.std.proofs.Common.{List, ap, subst}
use mathlib.Core.List.{IsPrefix}
use Rattle.producer_gate.specs.Entries.{Entry, entry_in}
use Rattle.producer_gate.proofs.Heard.{compared}
use Rattle.producer_gate.proofs.Prefixes.{prefix_map}
use Rattle.producer_gate.proofs.board.Board.hear.Goals as goal

pub returns-clause-published : goal.returns-clause-published
returns-clause-published c =
    let words = compared _ _ _ _ c.self.invariant.1 c.reader.invariant.1 c.note-theirs.ensures.note.1 c.hear.ensures.view c.compare.ensures.before in
    let known = ap (λ s. s.known) c.reader.view_is in
    let own = ap (λ s. s.entries) c.self.view_is in
    subst (λ (z : List Entry × List Entry). IsPrefix z.0 z.1) (λ i. (known i, own i)) (prefix_map entry_in _ _ words)
