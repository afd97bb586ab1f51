use Rattle.std.proofs.Common.{arith}
use Rattle.norm_tail.proofs.FitLemmas.{tails_fit}
use Rattle.tests_nodes.proofs.tails.Nodes.tail.Goals as goal

pub run_tail-requires-clause-fits : goal.run_tail-requires-clause-fits
run_tail-requires-clause-fits c =
    tails_fit c.self.inside.profile c.self.inside.world c.self.invariant.rules c.from.result c.is_in_range.ensures c.self.invariant.stands
    (let last = c.ranges.last in let is = c.from.ensures in omega (arith, last, is))
