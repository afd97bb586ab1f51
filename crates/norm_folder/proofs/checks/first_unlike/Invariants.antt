use Rattle.norm_base.specs.Members.{receivers_of}
use Rattle.norm_record.specs.HandedUp.{handed_up}
use Rattle.norm_folder.proofs.CheckLemmas.{AllLike}
use Rattle.norm_folder.proofs.checks.first_unlike.Given as goal

abbrev pub invariant-loop-i : goal.invariant-loop-i
invariant-loop-i g l = AllLike (handed_up l.journal) (receivers_of l.profile l.i)
