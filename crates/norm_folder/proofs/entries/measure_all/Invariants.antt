use Rattle.std.proofs.Common.{◌≡◌, take}
use Rattle.norm_folder.specs.Entries.{AreMeasured}
use Rattle.norm_folder.proofs.entries.measure_all.Given as goal

-- the lengths of the files so far
abbrev pub invariant-loop-name : goal.invariant-loop-name
invariant-loop-name g l = record {
  measured : AreMeasured (g.D.Files.contents l.initial.files) (take l.name-index l.names) l.measured.items;
  same : g.D.Files.contents l.files ≡ g.D.Files.contents l.initial.files;
  faults : g.D.Files.fault_count l.files ≡ g.D.Files.fault_count l.initial.files;
}
