use Rattle.norm_folder.proofs.OrderLemmas.{PutsAt}
use Rattle.norm_folder.proofs.order.place_of.Given as goal

-- the name stands behind those that were looked at
abbrev pub invariant-loop-i : goal.invariant-loop-i
invariant-loop-i l = PutsAt l.names l.i l.name
