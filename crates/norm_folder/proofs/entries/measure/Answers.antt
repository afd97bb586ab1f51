use Rattle.std.proofs.Common.{ap}
use Rattle.norm_turns.specs.Causes.{Counted}
use Rattle.norm_folder.proofs.entries.measure.Goals as goal

pub returns-then-len-eq0-clause-cause : goal.returns-then-len-eq0-clause-cause
returns-then-len-eq0-clause-cause g c = ap (λ (k : Counted). k.files) (c.in_ok-len.ensures.cause 0 0)

pub returns-clause-cause : goal.returns-clause-cause
returns-clause-cause g c = ap (λ (k : Counted). k.files) (c.in_ok-len.ensures.cause 0 0)
