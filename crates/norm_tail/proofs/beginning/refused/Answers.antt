use Rattle.std.proofs.Common.{ap, ◌∙◌}
use Rattle.norm_base.specs.Settings.{Settings}
use Rattle.norm_send_rules.specs.Repairable.{repairable}
use Rattle.norm_send_rules.specs.Watermarks.{oldest}
use Rattle.norm_tail.proofs.BeginLemmas.{none_both, asked_none}
use Rattle.norm_tail.proofs.beginning.refused.Goals as goal

pub returns : goal.returns
returns c w st =
    c.first_fault.ensures w.sender
    (asked_none c.oldest_mark.result c.is_none-closed.result c.is_none-closed.ensures ∙ none_both (oldest w.sender) _ (c.oldest_mark.ensures w st))
    (c.streams.ensures w st)
    (c.symbols.ensures w st ∙ ap (λ (q : Settings). repairable q w.sender) c.requires)
    (c.flushes.ensures w st)
