use Rattle.std.proofs.Common.{◌∙◌}
use Rattle.norm_ext.proofs.Lent.{none_is_empty}
use Rattle.norm_ext.proofs.requests.has_none.Goals as goal

pub returns : goal.returns
returns c = c.is_empty.ensures ∙ none_is_empty c.args.list.now
