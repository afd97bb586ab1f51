use Rattle.std.proofs.Common.{◌+◌, ◌<◌, length, arith}
use Rattle.norm_show.specs.Progress.{Progress}
use Rattle.norm_show.proofs.SplitLemmas.{none-append}
use Rattle.norm_show.proofs.ShowLemmas.{leaves-long}
use Rattle.norm_show.proofs.stream.Reader.add.Goals as goal

-- a line that is too long
pub returns-then-front-saturating_sub-clause-left : goal.returns-then-front-saturating_sub-clause-left
returns-then-front-saturating_sub-clause-left c =
    let p : Progress = record { rest = c.self.inside.rest.items; number = c.self.inside.number; refused = c.self.inside.is_refused } in
    let long : 3000 < length c.self.inside.rest.items + length c.args.front.now = omega arith in
    rw (← c.self.view_is) (leaves-long p c.args.front.now c.self.invariant c.requires long)

pub invariant_of-self-2 : goal.invariant_of-self-2
invariant_of-self-2 c =
    rw c.in_ok-extend_from_slice.ensures.items (none-append c.self.inside.rest.items c.args.front.now c.self.invariant c.requires)
