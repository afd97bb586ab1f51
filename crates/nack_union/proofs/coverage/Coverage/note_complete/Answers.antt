use Rattle.std.proofs.Common.{subst, sym}
use Rattle.nack_union.specs.Coverage.{Covered, HasSources}
use Rattle.nack_union.proofs.coverage.Coverage.note_complete.Goals as goal

pub invariant_of-self : goal.invariant_of-self
invariant_of-self c = record {
  most = c.self.invariant.most;
  within = c.self.invariant.within;
  size = c.self.invariant.size;
  behind = c.self.invariant.behind;
  until = c.self.invariant.until;
  whole = c.self.invariant.whole;
  runs = c.self.invariant.runs;
  complete = λ e. subst (λ (v : Covered). HasSources v.shape v.members) (sym c.self.view_is) c.requires;
}
