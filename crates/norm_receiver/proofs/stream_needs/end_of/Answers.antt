use Rattle.std.proofs.Common.{◌∙◌, ap, Some}
use Rattle.norm_receiver.proofs.stream_needs.end_of.Goals as goal

pub returns-in-Some-clause-exact : goal.returns-in-Some-clause-exact
returns-in-Some-clause-exact c = λ covered s stands. ap Some c.position.ensures.exact ∙ c.in-Some.ensures s stands

pub returns-in-None-clause-exact : goal.returns-in-None-clause-exact
returns-in-None-clause-exact c = λ covered s stands. c.in-None.ensures s stands
