use Rattle.std.proofs.Common.{refl, ◌∙◌}
use Rattle.producer_gate.proofs.WordSteps.{begins}
use Rattle.producer_gate.proofs.board.Board.new.Goals as goal

pub of_words-requires : goal.of_words-requires
of_words-requires c = begins 8193 c.deref.result.now refl (c.deref.ensures.value ∙ c.in_ok-cells.ensures.items_if_clones_equal (λ y h. h))
