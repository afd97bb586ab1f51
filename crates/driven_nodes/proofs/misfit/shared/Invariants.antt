use Rattle.driven_nodes.proofs.MisfitLemmas.{NoneOf}
use Rattle.driven_nodes.proofs.misfit.shared.Given as goal

-- none of these so far
abbrev pub invariant-loop-i : goal.invariant-loop-i
invariant-loop-i l = NoneOf l.up l.down l.i
