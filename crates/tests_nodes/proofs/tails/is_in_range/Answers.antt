use Rattle.std.proofs.Common.{subst}
use Rattle.norm_base.specs.Settings.{InRange}
use Rattle.tests_nodes.proofs.tails.is_in_range.Goals as goal

-- a profile's type says it
pub returns : goal.returns
returns c = subst InRange c.profile.view_is c.profile.invariant
