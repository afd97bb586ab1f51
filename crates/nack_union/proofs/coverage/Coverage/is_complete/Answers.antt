use Rattle.std.proofs.Common.{subst}
use Rattle.nack_union.specs.Coverage.{Covered, HasSources}
use Rattle.nack_union.proofs.coverage.Coverage.is_complete.Goals as goal

pub returns : goal.returns
returns c = λ e. subst (λ (v : Covered). HasSources v.shape v.members) c.self.view_is (c.self.invariant.complete e)
