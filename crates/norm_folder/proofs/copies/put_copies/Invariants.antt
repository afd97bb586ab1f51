use Rattle.std.proofs.Common.{◌≡◌}
use Rattle.norm_record.specs.HandedUp.{handed_up}
use Rattle.norm_folder.specs.Copies.{ArePut}
use Rattle.norm_folder.proofs.CopyLemmas.{of_receivers}
use Rattle.norm_folder.proofs.copies.put_copies.Given as goal

abbrev pub invariant-loop-i : goal.invariant-loop-i
invariant-loop-i g l = record {
  put : ArePut (of_receivers (handed_up l.journal) l.profile l.i) (g.D.Files.contents l.initial.files) (g.D.Files.contents l.files);
  faults : g.D.Files.fault_count l.files ≡ g.D.Files.fault_count l.initial.files;
}
