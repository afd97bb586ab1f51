use Rattle.std.proofs.Common.{ap, ◌∙◌}
use Rattle.norm_persist.specs.Persisting.{all_silent}
use Rattle.norm_persist.proofs.accounts.Accounts.all_silent.Goals as goal

pub returns : goal.returns
returns c = λ p s stands. c.all_silent.ensures p s stands ∙ ap (all_silent c.args.give_up s) c.all-accounts.ensures
