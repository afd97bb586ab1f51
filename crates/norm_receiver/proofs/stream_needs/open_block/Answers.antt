use Rattle.std.proofs.Common.{◌∙◌, sym, true, false}
use Rattle.norm_receive_rules.specs.Plans.{plan_of}
use Rattle.norm_receiver.proofs.AskLemmas.{for_some}
use Rattle.norm_receiver.proofs.StreamLemmas.{open_is}
use Rattle.norm_receiver.proofs.stream_needs.open_block.Goals as goal

pub returns-then-is_done : goal.returns-then-is_done
returns-then-is_done c = λ s stands.
    for_some (plan_of s c.args.index) (c.is_done.ensures.exact s stands) (λ found is done same. open_is s found c.args.seen true same (sym c.if-is_done.true ∙ done))

pub returns : goal.returns
returns c = λ s stands.
    for_some (plan_of s c.args.index) (c.is_done.ensures.exact s stands) (λ found is done same. open_is s found c.args.seen false same (sym c.if-is_done.false ∙ done))
