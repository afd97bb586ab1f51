use Rattle.std.proofs.Common.{nat_lt, ap, sym, ◌∙◌}
use Rattle.std.specs.Prelude.{◌&&◌}
use Rattle.symbol_mask.proofs.Below.{taken_zero, zero_none}
use Rattle.symbol_mask.proofs.mask.Mask.move_on.Goals as goal

pub returns-then-contains-clause-members : goal.returns-then-contains-clause-members
returns-then-contains-clause-members c = λ place.
    taken_zero c.take_lowest.result c.move_down.new.self.members c.take_lowest.new.self.members c.take_lowest.ensures.members
    (sym c.contains.ensures ∙ c.if-contains.true) c.rises.ensures.rises place
    ∙ ap (λ b. b && nat_lt 0 place) (c.move_down.ensures.members place)

pub returns-else-contains-clause-members : goal.returns-else-contains-clause-members
returns-else-contains-clause-members c = λ place.
    zero_none c.move_down.new.self.members (sym c.contains.ensures ∙ c.if-contains.false) place
    ∙ ap (λ b. b && nat_lt 0 place) (c.move_down.ensures.members place)
