use Rattle.norm_receive_rules.specs.Plans.{plan_of}
use Rattle.norm_receiver.proofs.AskLemmas.{with_some}
use Rattle.norm_receiver.proofs.BlockLemmas.{seen_block}
use Rattle.norm_receiver.proofs.StreamLemmas.{block_is_seen, never_unseen}
use Rattle.norm_receiver.proofs.stream_needs.block_seen.Goals as goal

pub returns-in-Some-clause-seen : goal.returns-in-Some-clause-seen
returns-in-Some-clause-seen c = λ s stands seen.
    with_some (plan_of s c.args.index) (λ found is stream. block_is_seen s c.args.index c.in-Some.block c.min.result found is stream (c.in-Some.ensures s stands) (seen_block s c.args.index found seen is) c.min.ensures)

pub returns-in-None-clause-seen : goal.returns-in-None-clause-seen
returns-in-None-clause-seen c = λ s stands seen.
    with_some (plan_of s c.args.index) (λ found is stream. never_unseen s c.args.index found is stream (c.in-None.ensures s stands))
