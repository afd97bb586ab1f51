use Rattle.norm_receiver.proofs.NeedLemmas.{object_quiet}
use Rattle.norm_receiver.proofs.needs.is_object_quiet.Goals as goal

pub returns : goal.returns
returns c = λ s stands.
    object_quiet c.args.numbers.now.farthest c.args.numbers.now.flush s c.args.index c.blocks_due-due.result c.blocks-2.result c.args.plan.now c.is_done_before.result
    (c.requires.plan.state s stands) c.blocks-2.ensures.exact c.blocks_due-due.ensures.exact c.blocks_due-due.ensures.most (c.is_done_before.ensures s stands)
