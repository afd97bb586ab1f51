use Rattle.norm_sender.specs.Inside.{kept_of}
use Rattle.norm_sender.proofs.EnqueuingLemmas.{left_agrees}
use Rattle.norm_sender.proofs.parts.Parts.leave.Goals as goal

pub returns-clause-left : goal.returns-clause-left
returns-clause-left c s f h = left_agrees (kept_of c.args.self.now) c.leave.new.self c.withdraw.new.self s f h c.leave.ensures.exact c.leave.ensures.stands c.withdraw.ensures
