use Rattle.norm_ext.specs.Asking.{span}
use Rattle.nack_union.proofs.marks.Marks.ask_named.Goals as goal

pub returns-then-is_settled-clause-more : goal.returns-then-is_settled-clause-more
returns-then-is_settled-clause-more c = c.is_settled.ensures c.if-is_settled.true c.args.index (span c.args.named.now.first c.args.named.now.last)
