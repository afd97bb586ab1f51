use Rattle.std.proofs.Common.{List, ℕ, ◌∙◌}
use Rattle.std.specs.Borrow.{Bor}
use Rattle.rx_hold.proofs.LoseLemmas.{none_is, none_lent}
use Rattle.rx_hold.proofs.entry.handing.lacks_next.Goals as goal

pub returns : goal.returns
returns c =
    none_is (Bor (List ℕ)) (List ℕ) (λ x. x.now) c.next.result c.is_none.result c.is_none.ensures
    ∙ none_lent _ _ _ c.next.ensures.coded
