use Rattle.std.proofs.Common.{◌≡◌}
use Rattle.norm_folder.specs.Copies.{ArePut, copies_by}
use Rattle.norm_folder.proofs.CheckLemmas.{handed}
use Rattle.norm_folder.proofs.copies.put_all.Given as goal

abbrev pub invariant-loop-hand : goal.invariant-loop-hand
invariant-loop-hand g l = record {
  put : ArePut (copies_by (handed l.ups l.hands l.hand-index) l.node) (g.D.Files.contents l.initial.files) (g.D.Files.contents l.files);
  faults : g.D.Files.fault_count l.files ≡ g.D.Files.fault_count l.initial.files;
}
