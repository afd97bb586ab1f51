use Rattle.std.proofs.Common.{ap, ◌∙◌, ◌==◌}
use Rattle.std.specs.List.{list_all}
use Rattle.tx_object.specs.Held.{HeldObject}
use Rattle.tx_object.proofs.UnsentLemmas.{none_left}
use Rattle.tx_object.proofs.held.Held.are_symbols_sent.Goals as goal

pub returns : goal.returns
returns c = ap (λ n. n == 0) c.self.invariant.unsent ∙ none_left c.self.inside.sent.items ∙ ap (λ (h : HeldObject). list_all (λ b. b) h.sent) c.self.view_is
