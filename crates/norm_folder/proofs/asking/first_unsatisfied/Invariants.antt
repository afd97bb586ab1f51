use Rattle.std.proofs.Common.{take}
use Rattle.norm_folder.specs.Asking.{unsatisfied_by}
use Rattle.norm_folder.proofs.AskingLemmas.{NoneBy}
use Rattle.norm_folder.proofs.asking.first_unsatisfied.Given as goal

abbrev pub invariant-loop-i : goal.invariant-loop-i
invariant-loop-i l = NoneBy unsatisfied_by (take l.i l.journal)
