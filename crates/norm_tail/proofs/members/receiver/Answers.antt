use Rattle.norm_tail.proofs.PassLemmas.{receiver_place}
use Rattle.norm_tail.proofs.members.receiver.Goals as goal

pub returns-clause-place : goal.returns-clause-place
returns-clause-place c = receiver_place c.args.profile.now c.args.i c.receiver.result c.requires c.receiver.ensures
