use Rattle.std.proofs.Common.{subst}
use Rattle.norm_order.specs.Sets.{Rises}
use Rattle.nack_union.specs.Repairs.{shape_closed}
use Rattle.nack_union.specs.Coverage.{Covered}
use Rattle.nack_union.proofs.Coverages.{covered_rise}
use Rattle.nack_union.proofs.coverage.Coverage.rises.Goals as goal

pub returns : goal.returns
returns c = subst (λ (v : Covered). Rises v.members) c.self.view_is (covered_rise (shape_closed c.self.inside.plan c.self.inside.closed) c.self.inside.ends.items c.self.inside.alone.members)
