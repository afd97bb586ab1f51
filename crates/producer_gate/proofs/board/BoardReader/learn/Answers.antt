use Rattle.std.proofs.Common.{List, ap, map, subst}
use mathlib.Core.List.{IsPrefix}
use Rattle.producer_gate.specs.Entries.{Entry, entry_in}
use Rattle.producer_gate.specs.Plays.{known_in}
use Rattle.producer_gate.proofs.Heard.{sees}
use Rattle.producer_gate.proofs.Prefixes.{prefix_map}
use Rattle.producer_gate.proofs.board.BoardReader.learn.Goals as goal

pub returns-clause-before : goal.returns-clause-before
returns-clause-before c =
    let v = c.self.inside.place.me.0 in
    let w = c.look-count.new.place.me.0 in
    let later = c.look-count.ensures.later in
    let both = sees v c.front.inside.place.me.0 c.hear.new.place.me.0 w c.self.invariant.1 c.hear.ensures.view later.0 later.1 in
    subst (λ (z : List Entry). IsPrefix z (map entry_in (known_in w))) (ap (λ s. s.known) c.self.view_is) (prefix_map entry_in (known_in v) (known_in w) both.0)

pub returns-clause-told : goal.returns-clause-told
returns-clause-told c =
    let n = c.front.inside.place.me.0 in
    let w = c.look-count.new.place.me.0 in
    let later = c.look-count.ensures.later in
    let both = sees c.self.inside.place.me.0 n c.hear.new.place.me.0 w c.self.invariant.1 c.hear.ensures.view later.0 later.1 in
    subst (λ (z : List Entry). IsPrefix z (map entry_in (known_in w))) (ap (λ s. s.entries) c.front.view_is) (prefix_map entry_in (known_in n) (known_in w) both.1)
