use Rattle.std.proofs.Common.{subst}
use Rattle.norm_base.specs.Settings.{InRange}
use Rattle.norm_folder.proofs.sending.is_in_range.Goals as goal

pub returns : goal.returns
returns c = subst InRange c.profile.view_is c.profile.invariant
