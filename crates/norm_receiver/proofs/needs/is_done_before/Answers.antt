use Rattle.std.specs.Prelude.{Some, None}
use Rattle.norm_receiver.proofs.NeedLemmas.{quiet_before}
use Rattle.norm_receiver.proofs.needs.is_done_before.Goals as goal

pub returns-in-Some : goal.returns-in-Some
returns-in-Some c = λ s stands. quiet_before s c.args.index c.args.due (Some c.in-Some.block) (c.in-Some.ensures.first s stands)

pub returns-in-None : goal.returns-in-None
returns-in-None c = λ s stands. quiet_before s c.args.index c.args.due None (c.in-None.ensures.first s stands)
